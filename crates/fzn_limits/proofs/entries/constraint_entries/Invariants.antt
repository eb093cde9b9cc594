-- The entries of the first arguments are added, as far as they are held.
use Rattle.std.proofs.Common.{◌≡◌, ◌-◌, ◌^◌, min, take}
use Rattle.std.specs.List.{sum_by}
use Rattle.fzn_limits.specs.Entries.{expression_entries}
use Rattle.fzn_limits.proofs.entries.constraint_entries.Given as goal

abbrev pub invariant-loop-argument : goal.invariant-loop-argument
invariant-loop-argument l = l.count ≡ min (sum_by (expression_entries l.scope) (take l.argument-index l.constraint.arguments)) (2 ^ 64 - 1)
