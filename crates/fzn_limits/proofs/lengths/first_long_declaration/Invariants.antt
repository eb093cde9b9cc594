-- No list of the first declarations is too long.
use Rattle.std.proofs.Common.{◌≡◌, None, take}
use Rattle.std.specs.List.{flat_map}
use Rattle.fzn_limits.specs.Sizes.{lengths_of_declaration, first_above}
use Rattle.fzn_limits.proofs.lengths.first_long_declaration.Given as goal

abbrev pub invariant-loop-declaration : goal.invariant-loop-declaration
invariant-loop-declaration l = first_above (flat_map lengths_of_declaration (take l.declaration-index l.declarations)) ≡ None
