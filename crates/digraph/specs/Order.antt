-- Orders of the nodes of a graph in which successors come first.
use Rattle.std.specs.Prelude.{◌≡◌, ℕ, ◌<◌, List, length, take, slice_index, slice_get, Some}
use Rattle.std.specs.List.{Contains}
use Rattle.digraph.specs.Cycle.{Leads, IsOnCycle}

-- no entry stands at two places
abbrev pub IsOnce : List ℕ → Type 0
IsOnce list = (i j x : ℕ) → slice_get list i ≡ Some x → slice_get list j ≡ Some x → i ≡ j

-- each entry stands behind all of its successors
abbrev pub IsBehind : List (List ℕ) → List ℕ → Type 0
IsBehind graph order = (i b : ℕ) → i < length order → Leads graph (slice_index order i) b → Contains (take i order) b

-- a topological order: every node stands once, behind its successors
pub record IsOrder (graph : List (List ℕ)) (order : List ℕ) : Type 0 where
  pub nodes : (k : ℕ) → Contains order k → k < length graph
  pub whole : (k : ℕ) → k < length graph → Contains order k
  pub once : IsOnce order
  pub behind : IsBehind graph order

-- a graph whose nodes have such an order has no cycle
abbrev pub OrderedIsAcyclic : Type 0
OrderedIsAcyclic = (graph : List (List ℕ)) (order : List ℕ) → IsOrder graph order → (k : ℕ) → IsOnCycle graph k → ⊥
