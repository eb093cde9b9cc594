-- The nodes that a search has met.
use Rattle.std.specs.Prelude.{ℕ, Bool, true, cond, List, [], ◌∷◌, ◌++◌, slice_index_or, slice_set}

-- for each node whether it was met, and the nodes in order of meeting
pub record Met : Type 0 where
  pub seen : List Bool
  pub order : List ℕ

-- whether there is nothing left to meet here
abbrev pub is_met : Met → ℕ → Bool
is_met m t = slice_index_or m.seen t true

-- one node is met
abbrev pub met_with : Met → ℕ → Met
met_with m t = cond (is_met m t) m (record { seen = slice_set m.seen t true; order = m.order ++ t ∷ [] })

-- these nodes are met in order
abbrev pub met_with_all : Met → List ℕ → Met
met_with_all m [] = m
met_with_all m (t ∷ ts) = met_with_all (met_with m t) ts
