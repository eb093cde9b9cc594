-- Names in a list.
use Rattle.std.specs.Prelude.{◌≡◌, ℕ, List, slice_get, Some}

-- the name stands among them
abbrev pub IsListed : List (List ℕ) → List ℕ → Type 0
IsListed names n = (i : ℕ) × (slice_get names i ≡ Some n)

-- the name stands nowhere among them
abbrev pub IsUnlisted : List (List ℕ) → List ℕ → Type 0
IsUnlisted names n = IsListed names n → ⊥
