-- How a cell is kept: its two ends, and a flag for each value of its domain.
use Rattle.std.specs.Prelude.{◌≡◌, ◌≤◌, ◌<◌, ◌-◌, ◌&&◌, ◌||◌, Bool, true, false, List, [], ◌∷◌, length, ℕ, ℤ, pos, ◌≤ℤ◌, int_le, slice_index_or, slice_set}
use Rattle.std.specs.Ordering.{int_eq}
use Rattle.dom_core.specs.Domain.{IsDomain}
use Rattle.dom_cells.specs.Cell.{has_of}
use Rattle.dom_core.specs.Literal.{holds_at}
use Rattle.dom_core.specs.declared.literal.Literal.{Literal}
use Rattle.dom_cells.specs.declared.start.Start.{Start}
use Rattle.dom_cells.specs.declared.start.Start.TheVariants.{Values, Span}
use Rattle.dom_cells.specs.declared.cell.Cell.{Cell}
use Rattle.dom_cells.specs.declared.cell.Step.{Step}
use Rattle.dom_cells.specs.declared.cell.Step.TheVariants.{Same, Emptied, Change}
use Rattle.dom_cells.specs.declared.truth.Truth.{Truth}
use Rattle.dom_cells.specs.declared.truth.Truth.TheVariants.{True, False, Open}

-- the value stands in the list and its flag is up
abbrev pub is_kept : ℤ → List ℤ → List Bool → Bool
is_kept x [] bs = false
is_kept x (y ∷ ys) [] = false
is_kept x (y ∷ ys) (b ∷ bs) = (b && int_eq x y) || is_kept x ys bs

-- the flags leave the value
abbrev pub is_flagged : Start → List Bool → ℤ → Bool
is_flagged (Values xs) bs x = is_kept x xs bs
is_flagged (Span lo hi) bs x = true

-- the value lies between the ends, and the flags leave it
abbrev pub holds_in : Cell → ℤ → Bool
holds_in c x = int_le c.lo x && (int_le x c.hi && is_flagged c.start c.flags x)

-- a flag for each value of a domain
abbrev pub HasFlags : Start → List Bool → Type 0
HasFlags (Values xs) bs = IsDomain xs × (length bs ≡ length xs)
HasFlags (Span lo hi) bs = Unit {0}

-- how many flags the start needs
abbrev pub flag_count : Start → ℕ
flag_count (Values xs) = length xs
flag_count (Span lo hi) = 0

-- a start's list is a domain
abbrev pub HasDomain : Start → Type 0
HasDomain (Values xs) = IsDomain xs
HasDomain (Span lo hi) = Unit {0}

-- the ends are values of the cell
pub record IsSound (c : Cell) : Type 0 where
  pub flags : HasFlags c.start c.flags
  pub low : holds_in c c.lo ≡ true
  pub high : holds_in c c.hi ≡ true

-- the cell has all values of its start
pub record IsWhole (first : Start) (c : Cell) : Type 0 where
  pub start : c.start ≡ first
  pub sound : IsSound c
  pub all : (x : ℤ) → holds_in c x ≡ has_of first x

-- the place after the last flag that is up before this place, or 0
pub record IsLastUp (bs : List Bool) (below after : ℕ) : Type 0 where
  pub within : after ≤ below
  pub down : (i : ℕ) → after ≤ i → i < below → slice_index_or bs i false ≡ false
  pub up : 0 < after → slice_index_or bs (after - 1) false ≡ true

-- the first place from this one on with a flag that is up, or the end
pub record IsFirstUp (bs : List Bool) (begin at : ℕ) : Type 0 where
  pub within : at ≤ length bs
  pub after : begin ≤ at
  pub down : (i : ℕ) → begin ≤ i → i < at → slice_index_or bs i false ≡ false
  pub up : at < length bs → slice_index_or bs at false ≡ true

-- the greatest of the values that is at most this one
pub record IsFloor (test : ℤ → Bool) (v r : ℤ) : Type 0 where
  pub has : test r ≡ true
  pub at_most : r ≤ℤ v
  pub greatest : (x : ℤ) → test x ≡ true → x ≤ℤ v → x ≤ℤ r

-- the least of the values that is at least this one
pub record IsCeiling (test : ℤ → Bool) (v r : ℤ) : Type 0 where
  pub has : test r ≡ true
  pub at_least : v ≤ℤ r
  pub least : (x : ℤ) → test x ≡ true → v ≤ℤ x → r ≤ℤ x

-- the cell with other ends and one flag down
abbrev pub stepped : Cell → ℤ → ℤ → ℕ → Cell
stepped c lo hi hole = record { start = c.start; lo = lo; hi = hi; flags = slice_set c.flags hole false }

-- the cell with other ends and one flag up
abbrev pub restored : Cell → ℤ → ℤ → ℕ → Cell
restored c lo hi hole = record { start = c.start; lo = lo; hi = hi; flags = slice_set c.flags hole true }

-- the literal holds of every value
abbrev pub AllHold : Cell → Literal → Type 0
AllHold c l = (x : ℤ) → holds_in c x ≡ true → holds_at l x ≡ true

-- the literal holds of no value
abbrev pub NoneHolds : Cell → Literal → Type 0
NoneHolds c l = (x : ℤ) → holds_in c x ≡ true → holds_at l x ≡ false

-- the literal holds of some value
abbrev pub SomeHolds : Cell → Literal → Type 0
SomeHolds c l = (x : ℤ) × (holds_in c x ≡ true) × (holds_at l x ≡ true)

-- the literal fails at some value
abbrev pub SomeFails : Cell → Literal → Type 0
SomeFails c l = (x : ℤ) × (holds_in c x ≡ true) × (holds_at l x ≡ false)

-- how the literal stands to the values of the kept cell
abbrev pub IsShown : Cell → Literal → Truth → Type 0
IsShown c l True = AllHold c l
IsShown c l False = NoneHolds c l
IsShown c l Open = SomeHolds c l × SomeFails c l

-- the literal holds of some value and fails at some value, and the new cell has those of which it holds
pub record Steps (c : Cell) (l : Literal) (new : Cell) : Type 0 where
  pub kept : ℤ
  pub kept_has : holds_in c kept ≡ true
  pub kept_holds : holds_at l kept ≡ true
  pub lost : ℤ
  pub lost_has : holds_in c lost ≡ true
  pub lost_fails : holds_at l lost ≡ false
  pub sound : IsSound new
  pub cuts : (x : ℤ) → holds_in new x ≡ (holds_in c x && holds_at l x)

-- what a literal makes of the cell
abbrev pub IsStep : Cell → Literal → Step → Type 0
IsStep c l Same = AllHold c l
IsStep c l Emptied = NoneHolds c l
IsStep c l (Change lo hi hole) =
    Steps c l (stepped c lo hi hole) × (hole < length c.flags → slice_index_or c.flags hole false ≡ true)

-- the place of the value's flag
abbrev pub IsPlace : Start → List Bool → ℤ → ℕ → Type 0
IsPlace (Values xs) bs x k = (k < length xs) × (slice_index_or xs k (pos 0) ≡ x) × (slice_index_or bs k false ≡ true)
IsPlace (Span lo hi) bs x k = ⊥
