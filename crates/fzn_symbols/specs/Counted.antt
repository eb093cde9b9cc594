-- What is known of a text once its declared names are added.
use Rattle.std.specs.Prelude.{◌≡◌, ℕ, ◌<◌, ◌↔◌, List, take, Option, None, Some, Result, Ok, Err}
use Rattle.fzn_symbols.specs.declared.error.NameError.{NameError}
use Rattle.fzn_symbols.specs.declared.error.NameError.TheVariants.{NameTwice, UnknownName, Memory}
use Rattle.fzn_symbols.specs.Listed.{IsListed}
use Rattle.fzn_symbols.specs.Numbered.{Mark, declared_names, IsTwice, IsUnknown}

-- no name is declared twice before this place
abbrev pub HasNoDouble : List Mark → ℕ → Type 0
HasNoDouble os k = (j at : ℕ) → j < k → IsTwice os j at → ⊥

-- the first double before this place, or the declared names where there is none
abbrev pub IsFirstDouble : List Mark → ℕ → List (List ℕ) → Option ℕ → Type 0
IsFirstDouble os k names None = (names ≡ declared_names (take k os)) × HasNoDouble os k
IsFirstDouble os k names (Some d) = (d < k) × (at : ℕ) × IsTwice os d at × HasNoDouble os d

-- what is known once the names that stand before this place are added
pub record IsCounted (os : List Mark) (k : ℕ) (names : List (List ℕ)) (double : Option ℕ) : Type 0 where
  pub same : (n : List ℕ) → IsListed names n ↔ IsListed (declared_names (take k os)) n
  pub first : IsFirstDouble os k names double

-- what counting the first so many occurrences answers
abbrev pub Counts : List Mark → ℕ → List (List ℕ) → Result (Option ℕ) NameError → Type 0
Counts os k names (Ok double) = IsCounted os k names double
Counts os k names (Err (NameTwice at)) = ⊥
Counts os k names (Err (UnknownName at)) = ⊥
Counts os k names (Err Memory) = Unit {0}

-- how many occurrences stand before the first double
abbrev pub fine_of : Option ℕ → ℕ → ℕ
fine_of None len = len
fine_of (Some d) len = d

-- no name that is used is unlisted
abbrev pub IsNowhere : List (List ℕ) → List Mark → Type 0
IsNowhere names os = (k at : ℕ) → IsUnknown names os k at → ⊥

-- the first name that is used and unlisted stands here
abbrev pub IsFirstUnknown : List (List ℕ) → List Mark → ℕ → Type 0
IsFirstUnknown names os at = (k : ℕ) × IsUnknown names os k at × ((j b : ℕ) → j < k → IsUnknown names os j b → ⊥)
