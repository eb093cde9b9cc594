-- The numbers so far are told as integers.
use Rattle.std.proofs.Common.{◌≡◌, map, take}
use Rattle.fzn_model.specs.Variables.{integer_of}
use Rattle.fzn_model.proofs.variables.integers_of.Given as goal

abbrev pub invariant-loop-number : goal.invariant-loop-number
invariant-loop-number l = l.integers.items ≡ map integer_of (take l.number-index l.numbers)
