-- The rows that hold a number.
use Rattle.std.specs.Prelude.{ℕ, zero, suc, List, [], ◌∷◌, ◌++◌, length, slice_index_or}
use Rattle.std.specs.List.{Contains}
use Rattle.incidence.specs.Selection.{AreSelections, IsSelection}

-- 0, 1, 2 and so on, so many
abbrev pub count_up : ℕ → List ℕ
count_up zero = []
count_up (suc n) = count_up n ++ n ∷ []

-- the row at this place holds the number
abbrev pub Holds : List (List ℕ) → ℕ → ℕ → Type 0
Holds rows place x = Contains (slice_index_or rows place []) x

-- these are the places of the rows that hold the number, and they rise
abbrev pub IsHolders : List (List ℕ) → ℕ → List ℕ → Type 0
IsHolders rows x list = IsSelection (count_up (length rows)) (λ place. Holds rows place x) list

-- for each of so many numbers there are the places of the rows that hold it
abbrev pub AreHolders : List (List ℕ) → ℕ → List (List ℕ) → Type 0
AreHolders rows count lists = AreSelections (count_up (length rows)) (Holds rows) count lists
