-- Paths and cycles of a directed graph, which is the list of its nodes' successors.
use Rattle.std.specs.Prelude.{◌≡◌, ℕ, ◌<◌, Bool, true, List, [], ◌∷◌, length, slice_index_or, slice_get, Some}
use Rattle.std.specs.List.{Contains}

-- an edge leads from one node to the other; a successor that is no node leads nowhere
abbrev pub Leads : List (List ℕ) → ℕ → ℕ → Type 0
Leads graph a b = (b < length graph) × Contains (slice_index_or graph a []) b

-- a path leads from one node through these to the other
abbrev pub IsPath : List (List ℕ) → ℕ → List ℕ → ℕ → Type 0
IsPath graph a [] b = Leads graph a b
IsPath graph a (x ∷ xs) b = Leads graph a x × IsPath graph x xs b

-- a path of one edge or more leads from one node to the other
abbrev pub Reaches : List (List ℕ) → ℕ → ℕ → Type 0
Reaches graph a b = (through : List ℕ) × IsPath graph a through b

-- the node reaches itself
abbrev pub IsOnCycle : List (List ℕ) → ℕ → Type 0
IsOnCycle graph k = Reaches graph k k

-- some node reaches itself
abbrev pub HasCycle : List (List ℕ) → Type 0
HasCycle graph = (k : ℕ) × IsOnCycle graph k

-- the node is one of those asked for, and lies on a cycle
abbrev pub IsAskedOnCycle : List (List ℕ) → List Bool → ℕ → Type 0
IsAskedOnCycle graph among k = (slice_get among k ≡ Some true) × IsOnCycle graph k

-- none of the nodes asked for lies on a cycle
abbrev pub HasNoneOnCycle : List (List ℕ) → List Bool → Type 0
HasNoneOnCycle graph among = (k : ℕ) → IsAskedOnCycle graph among k → ⊥

-- this is the first of the nodes asked for that lies on a cycle
abbrev pub IsFirstOnCycle : List (List ℕ) → List Bool → ℕ → Type 0
IsFirstOnCycle graph among k = IsAskedOnCycle graph among k × ((j : ℕ) → j < k → IsAskedOnCycle graph among j → ⊥)
