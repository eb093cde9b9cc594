-- How a graph grows.
use Rattle.std.specs.Prelude.{◌≡◌, ℕ, List, [], ◌∷◌, ◌++◌}

-- a node without successors stands behind the others
abbrev pub GainsNode : List (List ℕ) → List (List ℕ) → Type 0
GainsNode old new = new ≡ old ++ [] ∷ []

-- the last node has one successor more, behind its others
abbrev pub GainsEdge : List (List ℕ) → ℕ → List (List ℕ) → Type 0
GainsEdge old to new = (front : List (List ℕ)) × (row : List ℕ) × (old ≡ front ++ row ∷ []) × (new ≡ front ++ (row ++ to ∷ []) ∷ [])
