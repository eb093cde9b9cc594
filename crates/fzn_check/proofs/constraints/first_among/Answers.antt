use Rattle.fzn_check.proofs.ConstraintLaws.{fine_more, all_fine, constraint_at}
use Rattle.fzn_check.proofs.constraints.first_among.Goals as goal

pub loop-constraint-preserved : goal.loop-constraint-preserved
loop-constraint-preserved c =
    fine_more c.args.distinct.now c.args.constraints.now c.loop-constraint.constraint-index c.constraint-item.result
    (constraint_at c.args.constraints.now c.loop-constraint.constraint-index c.constraint-item.result c.loop-constraint-test.true c.constraint-item.is) c.loop-constraint.invariant (rw c.in_default.is at c.in_ok-fault.ensures)

pub returns : goal.returns
returns c = all_fine c.args.distinct.now c.args.constraints.now c.loop-constraint.constraint-index c.loop-constraint-test.false c.loop-constraint.invariant
