-- The expressions so far have these integers as values.
use Rattle.std.proofs.Common.{take}
use Rattle.fzn_values.specs.Constants.{AreInts}
use Rattle.fzn_values.proofs.constants.Constants.ints_in.Given as goal

abbrev pub invariant-loop-basic : goal.invariant-loop-basic
invariant-loop-basic l = AreInts l.self (take l.basic-index l.basics) l.ints.items
