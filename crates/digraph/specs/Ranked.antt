-- Ranks of nodes, by which a node is seen to lie on no cycle.
use Rattle.std.specs.Prelude.{◌≡◌, ℕ, ◌<◌, ◌≤◌, List, length, slice_index}
use Rattle.digraph.specs.Cycle.{Leads}

-- each node has a rank, and no edge leads to a lower one
pub record IsRanking (graph : List (List ℕ)) (ranks : List ℕ) : Type 0 where
  pub width : length ranks ≡ length graph
  pub rises : (a b : ℕ) → Leads graph a b → slice_index ranks a ≤ slice_index ranks b

-- each edge from the node leads to a higher rank
abbrev pub IsCleared : List (List ℕ) → List ℕ → ℕ → Type 0
IsCleared graph ranks k = (b : ℕ) → Leads graph k b → slice_index ranks k < slice_index ranks b

-- the rank of this node, where it has one, is at least so high
abbrev pub IsAtLeast : List ℕ → ℕ → ℕ → Type 0
IsAtLeast ranks least b = b < length ranks → least ≤ slice_index ranks b
