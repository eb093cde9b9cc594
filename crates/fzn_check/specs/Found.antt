-- The declaration of a name.
use Rattle.std.specs.Prelude.{◌≡◌, ℕ, List}
use Rattle.fzn_syntax.specs.declared.declaration.Declaration.{Declaration}
use Rattle.fzn_symbols.specs.Named.{IsNamed}

-- this declaration is of this name, and no other is
abbrev pub IsOnly : List Declaration → List ℕ → Declaration → Type 0
IsOnly ds n d = IsNamed ds n d × ((e : Declaration) → IsNamed ds n e → e ≡ d)
