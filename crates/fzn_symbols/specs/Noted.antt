-- What one occurrence does to the names so far.
use Rattle.std.specs.Prelude.{◌≡◌, ℕ, Bool, true, false, List, [], ◌∷◌, ◌++◌, Option, None, Some, Result, Ok, Err}
use Rattle.fzn_symbols.specs.declared.error.NameError.{NameError}
use Rattle.fzn_symbols.specs.declared.error.NameError.TheVariants.{NameTwice, UnknownName, Memory}
use Rattle.fzn_symbols.specs.declared.occurrence.Role.{Role}
use Rattle.fzn_symbols.specs.declared.occurrence.Role.TheVariants.{Declares, Uses}
use Rattle.fzn_symbols.specs.Listed.{IsListed, IsUnlisted}

-- the name stands behind the others, unless it stands among them already
abbrev pub IsAdded : List (List ℕ) → List ℕ → List (List ℕ) → Result Bool NameError → Type 0
IsAdded old n new (Ok true) = IsListed old n × (new ≡ old)
IsAdded old n new (Ok false) = IsUnlisted old n × (new ≡ old ++ n ∷ [])
IsAdded old n new (Err (NameTwice at)) = ⊥
IsAdded old n new (Err (UnknownName at)) = ⊥
IsAdded old n new (Err Memory) = Unit {0}

-- a declared name is added, a used one isn't
abbrev pub IsNoted : Role → List (List ℕ) → List ℕ → List (List ℕ) → Result Bool NameError → Type 0
IsNoted Declares old n new result = IsAdded old n new result
IsNoted Uses old n new result = (result ≡ Ok false) × (new ≡ old)

-- the earlier of two places
abbrev pub earlier_of : Option ℕ → Bool → ℕ → Option ℕ
earlier_of (Some before) again place = Some before
earlier_of None true place = Some place
earlier_of None false place = None
