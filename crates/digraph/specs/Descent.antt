-- A walk in depth through a graph: how each node stands, the path to where the walk is, and the nodes that are done.
use Rattle.std.specs.Prelude.{◌≡◌, ℕ, zero, suc, ◌+◌, ◌-◌, ◌<◌, Bool, true, false, List, [], ◌∷◌, ◌++◌, length, take, replicate, slice_index_or, slice_get, slice_set, Some}
use Rattle.std.specs.List.{Contains}
use Rattle.digraph.specs.declared.depth_first.State.{State}
use Rattle.digraph.specs.declared.depth_first.State.TheVariants.{Fresh, Open, Done}
use Rattle.digraph.specs.Cycle.{Leads}
use Rattle.digraph.specs.Order.{IsOnce, IsBehind}

-- for each node how it stands, the nodes on the path, and the nodes done, in order of being done
pub record Descent : Type 0 where
  pub states : List State
  pub path : List ℕ
  pub order : List ℕ

-- how the node stands; what is no node is done
abbrev pub state_at : Descent → ℕ → State
state_at d k = slice_index_or d.states k Done

-- the edge that comes next at a node that stands so
abbrev pub edge_of : State → ℕ
edge_of Fresh = 0
edge_of (Open edge) = edge
edge_of Done = 0

-- the node stands so from now on
abbrev pub put : Descent → ℕ → State → Descent
put d k state = record { states = slice_set d.states k state; path = d.path; order = d.order }

-- nothing is begun of so many nodes
abbrev pub fresh_of : ℕ → Descent
fresh_of count = record { states = replicate count Fresh; path = []; order = [] }

-- the walk comes to the node
abbrev pub entered : Descent → ℕ → Descent
entered d k = record { states = slice_set d.states k (Open 0); path = d.path ++ k ∷ []; order = d.order }

-- the walk goes back from the node, which is done
abbrev pub left : Descent → ℕ → Descent
left d k = record {
  states = slice_set d.states k Done;
  path = take (length d.path - 1) d.path;
  order = d.order ++ k ∷ [];
}

-- the node is where the path ends
abbrev pub IsTop : List ℕ → ℕ → Type 0
IsTop path k = slice_get path (length path - 1) ≡ Some k

-- the walk looks at a successor that stands so: it comes to a fresh one, stops at one on the path, and passes one done
abbrev pub LooksAt : State → Descent → ℕ → ℕ → ℕ → Bool → Descent → Type 0
LooksAt Fresh old node next to goes_on new = (goes_on ≡ true) × (new ≡ entered old to)
LooksAt (Open edge) old node next to goes_on new = (goes_on ≡ false) × (new ≡ old)
LooksAt Done old node next to goes_on new = (goes_on ≡ true) × (new ≡ put old node (Open next))

-- an edge leads from each node on the path to the next
abbrev pub IsLinked : List (List ℕ) → List ℕ → Type 0
IsLinked graph path = (i a b : ℕ) → slice_get path i ≡ Some a → slice_get path (suc i) ≡ Some b → Leads graph a b

-- what is known at every step
pub record IsDescent (graph : List (List ℕ)) (d : Descent) : Type 0 where
  pub width : length d.states ≡ length graph
  pub opened : (k e : ℕ) → state_at d k ≡ Open e → Contains d.path k
  pub on_path : (k : ℕ) → Contains d.path k → (e : ℕ) × (state_at d k ≡ Open e)
  pub apart : IsOnce d.path
  pub linked : IsLinked graph d.path
  pub passed : (k e b : ℕ) → state_at d k ≡ Open e → Contains (take e (slice_index_or graph k [])) b → state_at d b ≡ Done
  pub done : (k : ℕ) → k < length graph → state_at d k ≡ Done → Contains d.order k
  pub in_order : (k : ℕ) → Contains d.order k → (k < length graph) × (state_at d k ≡ Done)
  pub once : IsOnce d.order
  pub behind : IsBehind graph d.order

-- how many steps a node that stands so and has so many successors may still cost
abbrev pub cost_of : State → ℕ → ℕ
cost_of Fresh count = suc (suc count)
cost_of (Open edge) count = suc (count - edge)
cost_of Done count = zero

-- how many steps all nodes may still cost
abbrev pub total_cost : List State → List (List ℕ) → ℕ
total_cost [] rows = zero
total_cost (state ∷ states) [] = zero
total_cost (state ∷ states) (row ∷ rows) = cost_of state (length row) + total_cost states rows

-- no node is fresh again
abbrev pub KeepsBegun : Descent → Descent → Type 0
KeepsBegun old new = (k : ℕ) → state_at new k ≡ Fresh → state_at old k ≡ Fresh

-- one step of the walk is made
pub record IsStep (graph : List (List ℕ)) (old new : Descent) : Type 0 where
  pub known : IsDescent graph new
  pub begun : KeepsBegun old new
  pub cheaper : total_cost new.states graph < total_cost old.states graph

-- the walk has gone back over the whole path
pub record IsBack (graph : List (List ℕ)) (old new : Descent) : Type 0 where
  pub known : IsDescent graph new
  pub begun : KeepsBegun old new
  pub empty : new.path ≡ []

-- between two walks the first so many nodes are done
pub record IsRested (graph : List (List ℕ)) (count : ℕ) (d : Descent) : Type 0 where
  pub known : IsDescent graph d
  pub empty : d.path ≡ []
  pub first : (k : ℕ) → k < count → state_at d k ≡ Done
