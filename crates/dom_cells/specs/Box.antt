-- Boxes: a cell for each variable, made of starts and the literals that cut them.
use Rattle.std.specs.Prelude.{◌≡◌, ◌≤◌, ◌<◌, ◌+◌, ◌==◌, if◌then◌else◌, List, [], ◌∷◌, ◌++◌, length, map, take, ℕ, pos, slice_get, Some, slice_index_or}
use Rattle.dom_cells.specs.Cell.{cut, Suits, IsSane, IsHeld, IsFalse, IsPossible, CanFail}
use Rattle.dom_core.specs.Literal.{negation}
use Rattle.dom_core.specs.declared.literal.Literal.{Literal}
use Rattle.dom_cells.specs.declared.start.Start.{Start}
use Rattle.dom_cells.specs.declared.start.Start.TheVariants.{Span}
use Rattle.dom_cells.specs.declared.narrowed.Narrowed.{Narrowed}
use Rattle.dom_cells.specs.declared.narrowed.Narrowed.TheVariants.{Same, Changed, Emptied}

-- a box: its starts, and the literals that cut them in order
pub record Box : Type 0 where
  pub starts : List Start
  pub literals : List Literal

-- what contracts see of cells: their box, and for how many more literals there is room beside it
pub record CellsView : Type 0 where
  pub state : Box
  pub spare : ℕ

-- the start of the variable with this number
abbrev pub start_at : List Start → ℕ → Start
start_at starts v = slice_index_or starts v (Span (pos 0) (pos 0))

-- the cell of the variable with this number, cut by the literal where that speaks of it
abbrev pub cut_at : ℕ → Start → Literal → Start
cut_at v c l = if v == l.var.0 then cut c l else c

-- the box with one literal more
abbrev pub kept : (ℕ → Start) → Literal → ℕ → Start
kept b l v = cut_at v (b v) l

-- the cell, cut by each literal in turn
abbrev pub cut_all : ℕ → Start → List Literal → Start
cut_all v c [] = c
cut_all v c (l ∷ ls) = cut_all v (cut_at v c l) ls

-- the cell of the variable with this number
abbrev pub cell_of : Box → ℕ → Start
cell_of m v = cut_all v (start_at m.starts v) m.literals

-- the starts, cut by the negation of each literal
abbrev pub against : Box → List Literal → ℕ → Start
against m ls v = cut_all v (start_at m.starts v) (map negation ls)

-- each literal on the variable may cut the cell
abbrev pub AllSuit : ℕ → Start → List Literal → Type 0
AllSuit v c [] = Unit {0}
AllSuit v c (l ∷ ls) = (v ≡ l.var.0 → Suits c l.rel) × AllSuit v c ls

-- each literal is on one of so many variables
abbrev pub AllOver : ℕ → List Literal → Type 0
AllOver n ls = (i : ℕ) (l : Literal) → slice_get ls i ≡ Some l → l.var.0 < n

-- each cell has a value, and only literals on its variables that may cut a start do
pub record IsBox (m : Box) : Type 0 where
  pub starts : (v : ℕ) → v < length m.starts → IsSane (start_at m.starts v)
  pub cells : (v : ℕ) → v < length m.starts → IsSane (cell_of m v)
  pub suit : (v : ℕ) → v < length m.starts → AllSuit v (start_at m.starts v) m.literals
  pub within : AllOver (length m.starts) m.literals

-- the box, cut by one literal more
abbrev pub pushed : Box → Literal → Box
pushed m l = record { starts = m.starts; literals = m.literals ++ l ∷ [] }

-- the box as it was after so many literals
abbrev pub prefix_of : ℕ → Box → Box
prefix_of count m = record { starts = m.starts; literals = take count m.literals }

-- the literal was cut into the box, and took the room of one
pub record Cuts (old : CellsView) (l : Literal) (new : CellsView) : Type 0 where
  pub state : new.state ≡ pushed old.state l
  pub spare : new.spare + 1 ≡ old.spare

-- what cutting by a literal answers: nothing to do where it holds of all values, nothing possible where it holds
-- of none, and else the cell is cut
abbrev pub IsNarrowed : CellsView → Literal → Narrowed → CellsView → Type 0
IsNarrowed old l Same new = IsHeld (cell_of old.state l.var.0) l × (new ≡ old)
IsNarrowed old l Emptied new = IsFalse (cell_of old.state l.var.0) l × (new ≡ old)
IsNarrowed old l Changed new =
    IsPossible (cell_of old.state l.var.0) l × CanFail (cell_of old.state l.var.0) l × Cuts old l new

-- the box as it was after so many literals, with the room of those that were taken back
pub record Undone (old : CellsView) (count : ℕ) (new : CellsView) : Type 0 where
  pub state : new.state ≡ prefix_of count old.state
  pub spare : new.spare + count ≡ old.spare + length old.state.literals

-- there is room for so many literals, and the box is as it was
pub record HasRoom (old : CellsView) (more : ℕ) (new : CellsView) : Type 0 where
  pub state : new.state ≡ old.state
  pub room : more ≤ new.spare
