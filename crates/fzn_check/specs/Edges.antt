-- More edges at the last node of a graph.
use Rattle.std.specs.Prelude.{ℕ, List, [], ◌∷◌, ◌++◌}

-- the last node has these successors more
abbrev pub with_edges : List (List ℕ) → List ℕ → List (List ℕ)
with_edges [] ks = []
with_edges (row ∷ []) ks = (row ++ ks) ∷ []
with_edges (row ∷ next ∷ rows) ks = row ∷ with_edges (next ∷ rows) ks
