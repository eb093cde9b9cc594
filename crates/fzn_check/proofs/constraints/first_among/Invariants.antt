-- No constraint so far is at fault.
use Rattle.fzn_check.specs.ConstraintFaults.{IsFineBefore}
use Rattle.fzn_check.proofs.constraints.first_among.Given as goal

abbrev pub invariant-loop-constraint : goal.invariant-loop-constraint
invariant-loop-constraint l = IsFineBefore l.distinct l.constraints l.constraint-index
