-- The cells that are kept, and the changes by which they were made and can be unmade.
use Rattle.std.specs.Prelude.{◌≡◌, ◌≤◌, ◌<◌, ◌-◌, List, [], ◌∷◌, length, map, take, drop, ℕ, zero, suc, ℤ, slice_get, Some, vec_len, vec_capacity}
use Rattle.dom_cells.specs.Cell.{has_of, IsSane, lo_of, hi_of}
use Rattle.dom_cells.specs.Box.{cut_all, AllSuit, CellsView}
use Rattle.dom_cells.specs.Flagged.{holds_in, IsSound, restored}
use Rattle.dom_core.specs.declared.literal.Literal.{Literal}
use Rattle.dom_cells.specs.declared.start.Start.{Start}
use Rattle.dom_cells.specs.declared.cell.Cell.{Cell}
use Rattle.dom_cells.specs.declared.cells.Change.{Change}
use Rattle.dom_cells.specs.declared.cells.Cells.TheInside.{Inside}

-- the values with which a cell began
abbrev pub start_of : Cell → Start
start_of c = c.start

-- the literal by which a change was made
abbrev pub literal_of : Change → Literal
literal_of c = c.literal

-- the list with the entry at this place changed
abbrev pub altered : {A : Type 0} → (A → A) → List A → ℕ → List A
altered f [] i = []
altered f (x ∷ xs) zero = f x ∷ xs
altered f (x ∷ xs) (suc i) = x ∷ altered f xs i

-- the cells as they were before the change
abbrev pub unmade : List Cell → Change → List Cell
unmade cells c = altered (λ d. restored d c.lo c.hi c.hole) cells c.literal.var.0

-- the cells as they were before all the changes
abbrev pub before : List Cell → List Change → List Cell
before cells [] = cells
before cells (c ∷ cs) = unmade (before cells cs) c

-- a kept cell has the ends and the values of this one
pub record Shows (c : Cell) (s : Start) : Type 0 where
  pub sound : IsSound c
  pub sane : IsSane s
  pub lo : lo_of s ≡ c.lo
  pub hi : hi_of s ≡ c.hi
  pub has : (x : ℤ) → has_of s x ≡ holds_in c x

-- a kept cell of the variable shows its start, cut by the literals
pub record IsCutBy (v : ℕ) (ls : List Literal) (c : Cell) : Type 0 where
  pub start : IsSane c.start
  pub shows : Shows c (cut_all v c.start ls)
  pub suit : AllSuit v c.start ls

-- each kept cell shows its start, cut by the literals
abbrev pub AllCut : List Literal → List Cell → Type 0
AllCut ls cells = (v : ℕ) (c : Cell) → slice_get cells v ≡ Some c → IsCutBy v ls c

-- each change speaks of one of so many variables
abbrev pub AllWithin : ℕ → List Change → Type 0
AllWithin n [] = Unit {0}
AllWithin n (c ∷ cs) = (c.literal.var.0 < n) × AllWithin n cs

-- with the latest changes unmade the kept cells show the starts, cut by the literals of those before
pub record IsStack (cells : List Cell) (changes : List Change) : Type 0 where
  pub shows : (k : ℕ) → k ≤ length changes → AllCut (map literal_of (take k changes)) (before cells (drop k changes))
  pub within : AllWithin (length cells) changes

-- what contracts see of cells
abbrev pub view_of : Inside → CellsView
view_of c = record {
  state = record { starts = map start_of c.cells.items; literals = map literal_of c.changes.items };
  spare = vec_capacity c.changes - vec_len c.changes;
}
