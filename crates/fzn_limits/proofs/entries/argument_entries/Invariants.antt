-- The entries of the first constraints are added, as far as they are held.
use Rattle.std.proofs.Common.{◌≡◌, ◌-◌, ◌^◌, min, take}
use Rattle.std.specs.List.{sum_by}
use Rattle.fzn_limits.specs.Entries.{constraint_entries}
use Rattle.fzn_limits.proofs.entries.argument_entries.Given as goal

abbrev pub invariant-loop-constraint : goal.invariant-loop-constraint
invariant-loop-constraint l = l.count ≡ min (sum_by (constraint_entries l.scope) (take l.constraint-index l.constraints)) (2 ^ 64 - 1)
