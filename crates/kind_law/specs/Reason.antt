-- Reasons: clauses that say why a kind gave up a box or implied an end.
use Rattle.std.specs.Prelude.{◌≡◌, ◌<◌, ◌==◌, ◌&&◌, ◌||◌, Bool, true, false, not, if◌then◌else◌, List, [], ◌∷◌, ◌++◌, length, ℕ, ℤ, pos, ◌+ℤ◌, ◌-ℤ◌, ◌≤ℤ◌, ◌<ℤ◌, Option, Some, None, MatchOption, ◌≤◌, slice_index_or}
use Rattle.std.specs.Option.{option_to_list}
use Rattle.dom_cells.specs.Box.{Box, start_at, cell_of, against, kept}
use Rattle.dom_cells.specs.Cell.{has_of, lo_of, hi_of, Suits, IsFalse, IsPossible}
use Rattle.dom_core.specs.Literal.{holds_at, is_end, negation}
use Rattle.dom_core.specs.declared.literal.Literal.{Literal}
use Rattle.dom_core.specs.declared.literal.Rel.{Rel}
use Rattle.dom_cells.specs.declared.start.Start.{Start}
use Rattle.kind_law.specs.declared.side.Side.{Side}
use Rattle.kind_law.specs.declared.side.Side.TheVariants.{Low, High}

-- the literal bounds a cell by one end, may still fail there and may still hold, and the box in which it fails is refuted
pub record IsImplied (refuted : (ℕ → Start) → Bool) (b : ℕ → Start) (l : Literal) : Type 0 where
  pub end_is : is_end l.rel ≡ true
  pub possible : IsPossible (b l.var.0) l
  pub open_still : IsPossible (b l.var.0) (negation l)
  pub refutes : refuted (kept b (negation l)) ≡ true

-- what is explained: an implied literal, or that the box is refuted
abbrev pub IsCause : ((ℕ → Start) → Bool) → (ℕ → Start) → Option Literal → Type 0
IsCause refuted b implied = MatchOption implied (refuted b ≡ true) (IsImplied refuted b)

-- the implied literal is on one of so many variables
abbrev pub IsRead : ℕ → Option Literal → Type 0
IsRead n implied = MatchOption implied (Unit {0}) (λ l. l.var.0 < n)

-- the literal is on one of the box's variables, holds of some value of its start, and may cut the start
pub record MayCut (m : Box) (l : Literal) : Type 0 where
  pub var : l.var.0 < length m.starts
  pub possible : IsPossible (start_at m.starts l.var.0) l
  pub suit : Suits (start_at m.starts l.var.0) l.rel

-- the same of a literal that fails at every value left
pub record IsFine (m : Box) (l : Literal) : Type 0 where
  pub var : l.var.0 < length m.starts
  pub fails : IsFalse (cell_of m l.var.0) l
  pub possible : IsPossible (start_at m.starts l.var.0) l
  pub suit : Suits (start_at m.starts l.var.0) l.rel

-- each literal is fine
abbrev pub AllFine : Box → List Literal → Type 0
AllFine m [] = Unit {0}
AllFine m (l ∷ ls) = IsFine m l × AllFine m ls

-- the clause against which the kind refutes the starts: its literals are false in the cells, but for the implied one, which
-- stands last, and none of them is false in the starts
pub record IsReason (refuted : (ℕ → Start) → Bool) (m : Box) (implied : Option Literal) (ls : List Literal) : Type 0 where
  pub against_it : refuted (against m ls) ≡ true
  pub front : List Literal
  pub whole : ls ≡ front ++ option_to_list implied
  pub fine : AllFine m front
  pub last : MatchOption implied (Unit {0}) (MayCut m)

-- the value of the variable meets no literal of the list
abbrev pub survives : ℕ → List Literal → ℤ → Bool
survives v [] x = true
survives v (l ∷ ls) x = (if v == l.var.0 then not (holds_at l x) else true) && survives v ls x

-- the literal is on the variable
abbrev pub is_about : Option Literal → ℕ → Bool
is_about None v = false
is_about (Some l) v = l.var.0 == v

-- the variable's single values count: the kind looks at them, or the implied literal is on it
abbrev pub looks : (ℕ → Bool) → Option Literal → ℕ → Bool
looks inside implied v = inside v || is_about implied v

-- the list grew at its end by fine literals
pub record AddsFine (m : Box) (old new : List Literal) : Type 0 where
  pub added : List Literal
  pub grown : new ≡ old ++ added
  pub fine : AllFine m added

-- values of the start that survive are no less than the least value left
abbrev pub CoversLow : Box → List Literal → ℕ → Type 0
CoversLow m ls v = (x : ℤ) → has_of (start_at m.starts v) x ≡ true → survives v ls x ≡ true → lo_of (cell_of m v) ≤ℤ x

-- values of the start that survive are no more than the greatest value left
abbrev pub CoversHigh : Box → List Literal → ℕ → Type 0
CoversHigh m ls v = (x : ℤ) → has_of (start_at m.starts v) x ≡ true → survives v ls x ≡ true → x ≤ℤ hi_of (cell_of m v)

-- a value between the ends that survives is left
abbrev pub CoversValue : Box → List Literal → ℕ → ℤ → Type 0
CoversValue m ls v x = survives v ls x ≡ true → lo_of (cell_of m v) ≤ℤ x → x ≤ℤ hi_of (cell_of m v) → has_of (cell_of m v) x ≡ true

-- values of the start between the ends that survive are left
abbrev pub CoversInside : Box → List Literal → ℕ → Type 0
CoversInside m ls v = (x : ℤ) → has_of (start_at m.starts v) x ≡ true → CoversValue m ls v x

-- the literals tell how the variable's cell differs from its start, value by value where it is deep
pub record CoversVar (m : Box) (ls : List Literal) (deep : Bool) (v : ℕ) : Type 0 where
  pub low : CoversLow m ls v
  pub high : CoversHigh m ls v
  pub inner : deep ≡ true → CoversInside m ls v

-- the start is a list, and the value stands in it
pub record IsListedAt (s : Start) (x : ℤ) : Type 0 where
  pub has : has_of s x ≡ true
  pub suit : (r : Rel) → Suits s r

-- ---- reasons by one end of each cell

-- the literal bounds its variable's cell by one end, may still hold there and may still fail
pub record IsOpenEnd (b : ℕ → Start) (l : Literal) : Type 0 where
  pub end_is : is_end l.rel ≡ true
  pub possible : IsPossible (b l.var.0) l
  pub open_still : IsPossible (b l.var.0) (negation l)

-- where an end is implied, it is open
abbrev pub IsOpen : (ℕ → Start) → Option Literal → Type 0
IsOpen b implied = MatchOption implied (Unit {0}) (IsOpenEnd b)

-- the literal that holds where the implied one fails, where there is one
abbrev pub denied_of : Option Literal → Option Literal
denied_of None = None
denied_of (Some l) = Some (negation l)

-- the literal bounds a cell by one end, where there is one
abbrev pub is_bound_or_none : Option Literal → Bool
is_bound_or_none None = true
is_bound_or_none (Some l) = is_end l.rel

-- the cells, cut by the literal, where there is one
abbrev pub cut_by : Box → Option Literal → ℕ → Start
cut_by m None v = cell_of m v
cut_by m (Some l) v = kept (cell_of m) l v

-- the box that is refuted: the cells, or those of them in which the implied end fails
abbrev pub asked : Box → Option Literal → ℕ → Start
asked m implied v = cut_by m (denied_of implied) v

-- a value of the start that meets neither a literal of the list nor the implied one
pub record IsLeft (m : Box) (implied : Option Literal) (ls : List Literal) (v : ℕ) (x : ℤ) : Type 0 where
  pub first : has_of (start_at m.starts v) x ≡ true
  pub lives : survives v ls x ≡ true
  pub fails : survives v (option_to_list implied) x ≡ true

-- the value lies at most so far beyond this end of the refuted box
abbrev pub IsNear : Side → Box → Option Literal → ℕ → ℤ → ℤ → Type 0
IsNear Low m implied v gap x = (lo_of (asked m implied v) -ℤ gap) ≤ℤ x
IsNear High m implied v gap x = x ≤ℤ (hi_of (asked m implied v) +ℤ gap)

-- values that are left lie within this end of the refuted box
abbrev pub CoversEnd : Side → Box → Option Literal → List Literal → ℕ → Type 0
CoversEnd side m implied ls v = (x : ℤ) → IsLeft m implied ls v x → IsNear side m implied v (pos 0) x

-- values that are left lie at most so far beyond this end of the refuted box, whatever is told
abbrev pub IsReach : Side → Box → Option Literal → ℕ → ℤ → Type 0
IsReach side m implied v gap = (ls : List Literal) (x : ℤ) → IsLeft m implied ls v x → IsNear side m implied v gap x

-- each of a domain's values from the one number up to the other that survives is left
abbrev pub CoversBetween : Box → List Literal → ℕ → ℤ → ℤ → Type 0
CoversBetween m ls v begin end = (x : ℤ) → has_of (start_at m.starts v) x ≡ true → begin ≤ℤ x → x <ℤ end → CoversValue m ls v x

-- each of the list's values from the one place up to the other that survives is left
abbrev pub CoversRanks : Box → List Literal → ℕ → List ℤ → ℕ → ℕ → Type 0
CoversRanks m ls v xs first last = (k : ℕ) → first ≤ k → k < last → CoversValue m ls v (slice_index_or xs k (pos 0))

-- the failing of the implied end leaves no value below this one, which lies within the cell
pub record IsLowBound (m : Box) (implied : Option Literal) (v : ℕ) (bound : ℤ) : Type 0 where
  pub low : lo_of (cell_of m v) <ℤ bound
  pub high : bound ≤ℤ hi_of (cell_of m v)
  pub left : (ls : List Literal) (x : ℤ) → IsLeft m implied ls v x → bound ≤ℤ x
  pub reached : (x : ℤ) → has_of (cell_of m v) x ≡ true → bound ≤ℤ x → lo_of (asked m implied v) ≤ℤ x

-- the failing of the implied end leaves no value above this one, which lies within the cell
pub record IsHighBound (m : Box) (implied : Option Literal) (v : ℕ) (bound : ℤ) : Type 0 where
  pub low : lo_of (cell_of m v) ≤ℤ bound
  pub high : bound <ℤ hi_of (cell_of m v)
  pub left : (ls : List Literal) (x : ℤ) → IsLeft m implied ls v x → x ≤ℤ bound
  pub reached : (x : ℤ) → has_of (cell_of m v) x ≡ true → x ≤ℤ bound → x ≤ℤ hi_of (asked m implied v)

-- the lower bound that the failing of the implied end puts on the cell; without one the lower end stays
abbrev pub IsOwnLow : Box → Option Literal → ℕ → Option ℤ → Type 0
IsOwnLow m implied v r = MatchOption r (lo_of (asked m implied v) ≤ℤ lo_of (cell_of m v)) (IsLowBound m implied v)

-- the upper bound that the failing of the implied end puts on the cell; without one the upper end stays
abbrev pub IsOwnHigh : Box → Option Literal → ℕ → Option ℤ → Type 0
IsOwnHigh m implied v r = MatchOption r (hi_of (cell_of m v) ≤ℤ hi_of (asked m implied v)) (IsHighBound m implied v)
