-- The names of the first expressions are noted.
use Rattle.std.proofs.Common.{◌≡◌, ◌++◌, take}
use Rattle.std.specs.List.{flat_map}
use Rattle.fzn_symbols.specs.Occurrences.{marks_of_expression}
use Rattle.fzn_symbols.proofs.walk.note_expressions.Given as goal

abbrev pub invariant-loop-expression : goal.invariant-loop-expression
invariant-loop-expression l = l.names ≡ l.fn.names ++ flat_map marks_of_expression (take l.expression-index l.expressions)
