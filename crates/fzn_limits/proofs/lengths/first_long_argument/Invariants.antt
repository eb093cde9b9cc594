-- No list of the first arguments is too long.
use Rattle.std.proofs.Common.{◌≡◌, None, take}
use Rattle.std.specs.List.{flat_map}
use Rattle.fzn_limits.specs.Sizes.{lengths_of_expression, first_above}
use Rattle.fzn_limits.proofs.lengths.first_long_argument.Given as goal

abbrev pub invariant-loop-argument : goal.invariant-loop-argument
invariant-loop-argument l = first_above (flat_map lengths_of_expression (take l.argument-index l.arguments)) ≡ None
