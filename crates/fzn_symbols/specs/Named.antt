-- The names that declarations declare.
use Rattle.std.specs.Prelude.{◌≡◌, ℕ, List, map, slice_get, Some}
use Rattle.fzn_syntax.specs.declared.declaration.Declaration.{Declaration}
use Rattle.fzn_syntax.specs.declared.declaration.Declaration.TheVariants.{Parameter, Variable, ParameterArray, VariableArray}
use Rattle.fzn_syntax.specs.declared.identifier.Identifier.{Identifier}

-- the declared name, with its place in the text
abbrev pub identifier_of : Declaration → Identifier
identifier_of (Parameter p) = p.name
identifier_of (Variable v) = v.name
identifier_of (ParameterArray a) = a.entries.name
identifier_of (VariableArray a) = a.name

-- the declared name
abbrev pub name_of : Declaration → List ℕ
name_of d = (identifier_of d).name

-- the declared names in order
abbrev pub names_of : List Declaration → List (List ℕ)
names_of ds = map name_of ds

-- no name stands at two places
abbrev pub AreDifferent : List (List ℕ) → Type 0
AreDifferent names = (i j : ℕ) (n : List ℕ) → slice_get names i ≡ Some n → slice_get names j ≡ Some n → i ≡ j

-- the declaration at this place is of this name
abbrev pub IsPlaced : List Declaration → List ℕ → ℕ → Type 0
IsPlaced ds n k = (d : Declaration) × (slice_get ds k ≡ Some d) × (name_of d ≡ n)

-- the declaration is of this name
abbrev pub IsNamed : List Declaration → List ℕ → Declaration → Type 0
IsNamed ds n d = (k : ℕ) × (slice_get ds k ≡ Some d) × (name_of d ≡ n)

-- no declaration is of this name
abbrev pub IsUndeclared : List Declaration → List ℕ → Type 0
IsUndeclared ds n = (d : Declaration) → IsNamed ds n d → ⊥
