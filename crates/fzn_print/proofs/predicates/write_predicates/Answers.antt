-- One thing more is written.
use Rattle.fzn_print.specs.Canonical.{predicate_marks}
use Rattle.fzn_print.proofs.Texts.{more_each}
use Rattle.fzn_print.proofs.predicates.write_predicates.Goals as goal

pub loop-predicate-preserved : goal.loop-predicate-preserved
loop-predicate-preserved c =
    more_each predicate_marks c.args.predicates.now c.loop-predicate.predicate-index c.predicate-item.result c.predicate-item.result c.args.out.now.items c.loop-predicate.out.items _
    c.loop-predicate-test.true c.predicate-item.is c.loop-predicate.invariant c.in_ok-write_predicate.ensures
