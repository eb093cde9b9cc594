-- What the declared names of items stand for.
use Rattle.std.specs.Prelude.{◌≡◌, ℕ, List, Result, Ok, Err}
use Rattle.fzn_symbols.specs.declared.error.NameError.{NameError}
use Rattle.fzn_symbols.specs.declared.error.NameError.TheVariants.{NameTwice, UnknownName, Memory}
use Rattle.fzn_symbols.specs.Numbered.{Mark, IsFault, IsFirstFault}
use Rattle.fzn_symbols.specs.Occurrences.{marks_of}
use Rattle.fzn_symbols.specs.Named.{AreDifferent, names_of}
use Rattle.fzn_syntax.specs.declared.declaration.Declaration.{Declaration}
use Rattle.fzn_syntax.specs.declared.items.Items.{Items}

-- no name is declared where it was declared before, and none is used that isn't declared
abbrev pub IsFaultless : List Mark → Type 0
IsFaultless marks = (k : ℕ) (e : NameError) → IsFault marks k e → ⊥

-- the declarations of items, where no name is at fault, or the first fault among the names
abbrev pub IsScoped : Items → Result (List Declaration) NameError → Type 0
IsScoped items (Ok ds) = (ds ≡ items.declarations) × AreDifferent (names_of ds) × IsFaultless (marks_of items)
IsScoped items (Err (NameTwice at)) = IsFirstFault (marks_of items) (NameTwice at)
IsScoped items (Err (UnknownName at)) = IsFirstFault (marks_of items) (UnknownName at)
IsScoped items (Err Memory) = Unit {0}
