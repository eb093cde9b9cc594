-- No list of the first constraints is too long.
use Rattle.std.proofs.Common.{◌≡◌, None, take}
use Rattle.std.specs.List.{flat_map}
use Rattle.fzn_limits.specs.Sizes.{lengths_of_constraint, first_above}
use Rattle.fzn_limits.proofs.lengths.first_long_constraint.Given as goal

abbrev pub invariant-loop-constraint : goal.invariant-loop-constraint
invariant-loop-constraint l = first_above (flat_map lengths_of_constraint (take l.constraint-index l.constraints)) ≡ None
