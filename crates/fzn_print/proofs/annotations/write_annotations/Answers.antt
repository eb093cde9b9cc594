-- One thing more is written.
use Rattle.fzn_print.specs.Canonical.{annotation_marks}
use Rattle.fzn_print.proofs.Texts.{more_each}
use Rattle.fzn_print.proofs.annotations.write_annotations.Goals as goal

pub loop-annotation-preserved : goal.loop-annotation-preserved
loop-annotation-preserved c =
    more_each annotation_marks c.args.annotations.now c.loop-annotation.annotation-index c.annotation-item.result c.annotation-item.result c.args.out.now.items c.loop-annotation.out.items _
    c.loop-annotation-test.true c.annotation-item.is c.loop-annotation.invariant c.in_ok-write_annotation.ensures
