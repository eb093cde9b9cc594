-- The names that a text declares, and its first fault.
use Rattle.std.specs.Prelude.{◌≡◌, ℕ, ◌<◌, List, [], ◌∷◌, ◌++◌, take, slice_get, Some, Result, Ok, Err}
use Rattle.fzn_symbols.specs.declared.error.NameError.{NameError}
use Rattle.fzn_symbols.specs.declared.error.NameError.TheVariants.{NameTwice, UnknownName, Memory}
use Rattle.fzn_symbols.specs.declared.occurrence.Role.{Role}
use Rattle.fzn_symbols.specs.declared.occurrence.Role.TheVariants.{Declares, Uses}
use Rattle.fzn_symbols.specs.Listed.{IsListed, IsUnlisted}

-- a name, its first byte in the text, and what it does there
pub record Mark : Type 0 where
  pub name : List ℕ
  pub at : ℕ
  pub role : Role

-- what the occurrence of a name adds to the declared names
abbrev pub declared_by : Role → List ℕ → List (List ℕ)
declared_by Declares n = n ∷ []
declared_by Uses n = []

-- the declared names in order of the text
abbrev pub declared_names : List Mark → List (List ℕ)
declared_names [] = []
declared_names (o ∷ os) = declared_by o.role o.name ++ declared_names os

-- at this place a name is declared that an earlier place declares
abbrev pub IsTwice : List Mark → ℕ → ℕ → Type 0
IsTwice os k at = (o : Mark) × (slice_get os k ≡ Some o) × (o.role ≡ Declares) × IsListed (declared_names (take k os)) o.name × (o.at ≡ at)

-- at this place a name is used that isn't listed
abbrev pub IsUnknown : List (List ℕ) → List Mark → ℕ → ℕ → Type 0
IsUnknown names os k at = (o : Mark) × (slice_get os k ≡ Some o) × (o.role ≡ Uses) × IsUnlisted names o.name × (o.at ≡ at)

-- this is wrong at this place of the text
abbrev pub IsFault : List Mark → ℕ → NameError → Type 0
IsFault os k (NameTwice at) = IsTwice os k at
IsFault os k (UnknownName at) = IsUnknown (declared_names os) os k at
IsFault os k Memory = ⊥

-- nothing is wrong before this place
abbrev pub IsFineBefore : List Mark → ℕ → Type 0
IsFineBefore os k = (j : ℕ) (e : NameError) → j < k → IsFault os j e → ⊥

-- this is the first thing that is wrong
abbrev pub IsFirstFault : List Mark → NameError → Type 0
IsFirstFault os e = (k : ℕ) × IsFault os k e × IsFineBefore os k

-- nothing is wrong and these are the declared names, or this is the first thing that is wrong
abbrev pub IsNumbered : List Mark → Result (List (List ℕ)) NameError → Type 0
IsNumbered os (Ok names) = (names ≡ declared_names os) × ((k : ℕ) (e : NameError) → IsFault os k e → ⊥)
IsNumbered os (Err (NameTwice at)) = IsFirstFault os (NameTwice at)
IsNumbered os (Err (UnknownName at)) = IsFirstFault os (UnknownName at)
IsNumbered os (Err Memory) = Unit {0}
