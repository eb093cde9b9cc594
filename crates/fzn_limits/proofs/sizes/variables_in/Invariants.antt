-- The variables among the first declarations are counted.
use Rattle.std.proofs.Common.{◌≡◌, ◌≤◌, take}
use Rattle.fzn_limits.specs.Sizes.{variables_in}
use Rattle.fzn_limits.proofs.sizes.variables_in.Given as goal

abbrev pub invariant-loop-declaration : goal.invariant-loop-declaration
invariant-loop-declaration l = (l.count ≡ variables_in (take l.declaration-index l.declarations)) × (l.count ≤ l.declaration-index)
