-- The names of the first constraints are noted.
use Rattle.std.proofs.Common.{◌≡◌, ◌++◌, take}
use Rattle.std.specs.List.{flat_map}
use Rattle.fzn_symbols.specs.Occurrences.{marks_of_constraint}
use Rattle.fzn_symbols.proofs.walk.note_constraints.Given as goal

abbrev pub invariant-loop-constraint : goal.invariant-loop-constraint
invariant-loop-constraint l = l.names ≡ l.fn.names ++ flat_map marks_of_constraint (take l.constraint-index l.constraints)
