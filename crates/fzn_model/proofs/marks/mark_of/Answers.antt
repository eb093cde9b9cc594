use Rattle.std.proofs.Common.{codes, sym, ◌∙◌}
use Rattle.fzn_model.proofs.Printing.{find_here, find_later}
use Rattle.fzn_model.specs.Outputs.{is_named}
use Rattle.fzn_model.proofs.marks.mark_of.Goals as goal

pub returns-then-is_named : goal.returns-then-is_named
returns-then-is_named c =
    sym (find_here (is_named (codes "output_array")) c.args.annotations.now c.loop-annotation.annotation-index c.annotation-item.result c.loop-annotation-test.true c.annotation-item.is
    c.loop-annotation.invariant (sym c.is_named.ensures ∙ c.if-is_named.true))

pub loop-annotation-preserved : goal.loop-annotation-preserved
loop-annotation-preserved c =
    find_later (is_named (codes "output_array")) c.args.annotations.now c.loop-annotation.annotation-index c.annotation-item.result c.loop-annotation-test.true c.annotation-item.is
    c.loop-annotation.invariant (sym c.is_named.ensures ∙ c.if-is_named.false)
