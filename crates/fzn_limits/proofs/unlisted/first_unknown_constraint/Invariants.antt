-- The names of the first constraints are in the table.
use Rattle.std.proofs.Common.{◌≡◌, ℕ, ◌<◌, slice_get, Some}
use Rattle.fzn_limits.specs.Unlisted.{IsKnown}
use Rattle.fzn_syntax.specs.declared.constraint.Constraint.{Constraint}
use Rattle.fzn_limits.proofs.unlisted.first_unknown_constraint.Given as goal

abbrev pub invariant-loop-constraint : goal.invariant-loop-constraint
invariant-loop-constraint l = (j : ℕ) (d : Constraint) → j < l.constraint-index → slice_get l.constraints j ≡ Some d → IsKnown d
