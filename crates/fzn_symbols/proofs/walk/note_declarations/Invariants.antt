-- The names of the first declarations are noted.
use Rattle.std.proofs.Common.{◌≡◌, ◌++◌, take}
use Rattle.std.specs.List.{flat_map}
use Rattle.fzn_symbols.specs.Occurrences.{marks_of_declaration}
use Rattle.fzn_symbols.proofs.walk.note_declarations.Given as goal

abbrev pub invariant-loop-declaration : goal.invariant-loop-declaration
invariant-loop-declaration l = l.names ≡ l.fn.names ++ flat_map marks_of_declaration (take l.declaration-index l.declarations)
