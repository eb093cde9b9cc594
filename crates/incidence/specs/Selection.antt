-- Those of a list for which something holds, in its order.
use Rattle.std.specs.Prelude.{◌≡◌, ◌<◌, ◌⊎◌, ◌↔◌, ℕ, List, [], ◌∷◌, length, slice_index_or}
use Rattle.std.specs.List.{Contains}

-- the list is left where some are taken out of the order
abbrev pub IsAlong : List ℕ → List ℕ → Type 0
IsAlong [] list = list ≡ []
IsAlong (x ∷ order) list = IsAlong order list ⊎ ((rest : List ℕ) × (list ≡ x ∷ rest) × IsAlong order rest)

-- the list has those of the order for which this holds, in that order
pub record IsSelection (order : List ℕ) (P : ℕ → Type 0) (list : List ℕ) : Type 0 where
  pub has : (k : ℕ) → Contains list k ↔ (Contains order k × P k)
  pub along : IsAlong order list

-- for each of so many numbers there is the list of those in the order that stand in this relation to it
pub record AreSelections (order : List ℕ) (R : ℕ → ℕ → Type 0) (count : ℕ) (lists : List (List ℕ)) : Type 0 where
  pub whole : length lists ≡ count
  pub each : (x : ℕ) → x < count → IsSelection order (λ k. R k x) (slice_index_or lists x [])
