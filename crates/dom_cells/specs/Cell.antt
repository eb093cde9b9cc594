-- Cells: the values that a variable has left.
use Rattle.std.specs.Prelude.{◌≡◌, ◌<◌, ◌&&◌, Bool, true, false, not, [], ◌∷◌, length, ℤ, ◌≤ℤ◌, ◌<ℤ◌, int_le, Option, Some, None}
use Rattle.std.specs.Int.{int_max, int_min}
use Rattle.std.specs.List.{filter}
use Rattle.dom_core.specs.Rises.{is_among, Rises, first_of, last_of}
use Rattle.dom_core.specs.Ends.{Ends}
use Rattle.dom_core.specs.Literal.{holds_at, is_end}
use Rattle.dom_core.specs.declared.literal.Literal.{Literal}
use Rattle.dom_core.specs.declared.literal.Rel.{Rel}
use Rattle.dom_core.specs.declared.literal.Rel.TheVariants.{Le, Ge, Eq, Ne}
use Rattle.dom_cells.specs.declared.start.Start.{Start}
use Rattle.dom_cells.specs.declared.start.Start.TheVariants.{Values, Span}
use Rattle.dom_cells.specs.declared.truth.Truth.{Truth}
use Rattle.dom_cells.specs.declared.truth.Truth.TheVariants.{True, False, Open}

-- the least value
abbrev pub lo_of : Start → ℤ
lo_of (Values xs) = first_of xs
lo_of (Span lo hi) = lo

-- the greatest value
abbrev pub hi_of : Start → ℤ
hi_of (Values xs) = last_of xs
hi_of (Span lo hi) = hi

-- whether the value is one of the cell
abbrev pub has_of : Start → ℤ → Bool
has_of (Values xs) x = is_among x xs
has_of (Span lo hi) x = int_le lo x && int_le x hi

-- the interval from the least to the greatest value
abbrev pub ends_of : Start → Ends
ends_of c = record { lo = lo_of c; hi = hi_of c }

-- the cell has a value, and a list of them rises
abbrev pub IsSane : Start → Type 0
IsSane (Values xs) = Rises xs × (0 < length xs)
IsSane (Span lo hi) = lo ≤ℤ hi

-- the ends of a span stand in order
abbrev pub IsInOrder : Start → Type 0
IsInOrder (Values xs) = Unit {0}
IsInOrder (Span lo hi) = lo ≤ℤ hi

-- the lower end of a span under the relation
abbrev pub cut_lo : Rel → ℤ → ℤ → ℤ
cut_lo Le v lo = lo
cut_lo Ge v lo = int_max lo v
cut_lo Eq v lo = int_max lo v
cut_lo Ne v lo = lo

-- the upper end of a span under the relation
abbrev pub cut_hi : Rel → ℤ → ℤ → ℤ
cut_hi Le v hi = int_min hi v
cut_hi Ge v hi = hi
cut_hi Eq v hi = int_min hi v
cut_hi Ne v hi = hi

-- the values of the cell of which the literal holds
abbrev pub cut : Start → Literal → Start
cut (Values xs) l = Values (filter (holds_at l) xs)
cut (Span lo hi) l = Span (cut_lo l.rel l.value lo) (cut_hi l.rel l.value hi)

-- the relation may cut the cell: a span is cut at its ends alone
abbrev pub Suits : Start → Rel → Type 0
Suits (Values xs) r = Unit {0}
Suits (Span lo hi) r = is_end r ≡ true

-- the ends are values of the cell and no value lies beyond them
pub record IsCell (c : Start) : Type 0 where
  pub least : has_of c (lo_of c) ≡ true
  pub greatest : has_of c (hi_of c) ≡ true
  pub low : (x : ℤ) → has_of c x ≡ true → lo_of c ≤ℤ x
  pub high : (x : ℤ) → has_of c x ≡ true → x ≤ℤ hi_of c

-- the one cell lies in the other: by their ends, and value by value where their inside counts
pub record IsPart (inside : Bool) (small large : Start) : Type 0 where
  pub cell : IsCell small
  pub whole : IsCell large
  pub low : lo_of large ≤ℤ lo_of small
  pub high : hi_of small ≤ℤ hi_of large
  pub values : inside ≡ true → (x : ℤ) → has_of small x ≡ true → has_of large x ≡ true

-- the literal holds of each value
pub record IsHeld (c : Start) (l : Literal) : Type 0 where
  pub all : (x : ℤ) → has_of c x ≡ true → holds_at l x ≡ true

-- the literal holds of no value
pub record IsFalse (c : Start) (l : Literal) : Type 0 where
  pub none : (x : ℤ) → has_of c x ≡ true → holds_at l x ≡ false

-- the literal holds of some value
pub record IsPossible (c : Start) (l : Literal) : Type 0 where
  pub value : ℤ
  pub has : has_of c value ≡ true
  pub holds : holds_at l value ≡ true

-- the literal fails at some value
pub record CanFail (c : Start) (l : Literal) : Type 0 where
  pub value : ℤ
  pub has : has_of c value ≡ true
  pub fails : holds_at l value ≡ false

-- how the literal stands to the values of the cell
abbrev pub IsTruth : Start → Literal → Truth → Type 0
IsTruth c l True = IsHeld c l
IsTruth c l False = IsFalse c l
IsTruth c l Open = IsPossible c l × CanFail c l

-- the cell has no value
abbrev pub is_empty : Start → Bool
is_empty (Values []) = true
is_empty (Values (x ∷ xs)) = false
is_empty (Span lo hi) = not (int_le lo hi)

-- cutting the cell by the literal leaves no value
abbrev pub is_false : Start → Literal → Bool
is_false c l = is_empty (cut c l)

-- the one value of the cell, where it has no other
abbrev pub IsFixed : Start → Option ℤ → Type 0
IsFixed c (Some x) = (lo_of c ≡ x) × (hi_of c ≡ x)
IsFixed c None = lo_of c <ℤ hi_of c
