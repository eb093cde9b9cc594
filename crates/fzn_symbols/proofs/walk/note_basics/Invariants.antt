-- The names of the first basics are noted.
use Rattle.std.proofs.Common.{◌≡◌, ◌++◌, take}
use Rattle.std.specs.List.{flat_map}
use Rattle.fzn_symbols.specs.Occurrences.{marks_of_basic}
use Rattle.fzn_symbols.proofs.walk.note_basics.Given as goal

abbrev pub invariant-loop-basic : goal.invariant-loop-basic
invariant-loop-basic l = l.names ≡ l.fn.names ++ flat_map marks_of_basic (take l.basic-index l.basics)
