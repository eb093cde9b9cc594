-- The nodes that depend on a node.
use Rattle.std.specs.Prelude.{◌≡◌, ℕ, Bool, true, false, List, length, slice_index_or}
use Rattle.digraph.specs.Cycle.{Reaches}
use Rattle.incidence.specs.Selection.{AreSelections, IsSelection}

-- the node is one of those that are asked for
abbrev pub IsAsked : List Bool → ℕ → Type 0
IsAsked among x = slice_index_or among x false ≡ true

-- the node depends on the other one, which is asked for: it leads to it, or to one that depends on it
abbrev pub DependsOn : List (List ℕ) → List Bool → ℕ → ℕ → Type 0
DependsOn graph among node x = Reaches graph node x × IsAsked among x

-- these are the nodes that depend on the one that is asked for, in the order
abbrev pub IsDependents : List (List ℕ) → List ℕ → ℕ → List ℕ → Type 0
IsDependents graph order x list = IsSelection order (λ node. Reaches graph node x) list

-- for each node there are those that depend on it, where it is asked for
abbrev pub AreDependents : List (List ℕ) → List ℕ → List Bool → List (List ℕ) → Type 0
AreDependents graph order among lists = AreSelections order (DependsOn graph among) (length graph) lists
