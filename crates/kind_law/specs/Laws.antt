-- The laws that every kind of constraint proves. Each speaks of the kind's own variables alone.
use Rattle.std.specs.Prelude.{◌≡◌, ◌<◌, ◌≤◌, ◌^◌, ◌≤ℤ◌, ◌&&◌, Bool, true, false, not, List, [], ◌∷◌, ℕ, ℤ, pos, neg_ℤ}
use Rattle.std.specs.Ordering.{int_eq}
use Rattle.dom_core.specs.Assignment.{entry_at}
use Rattle.dom_cells.specs.Cell.{IsPart, IsSane, has_of, ends_of}
use Rattle.dom_core.specs.Ends.{Ends, only, difference_ends}
use Rattle.dom_core.specs.View.{movement_at, IsCovered}
use Rattle.dom_cells.specs.declared.start.Start.{Start}
use Rattle.dom_cells.specs.declared.start.Start.TheVariants.{Span}
use Rattle.dom_core.specs.declared.var_id.VarId.{VarId}
use Rattle.dom_core.specs.declared.view.Movement.{Movement}
use Rattle.kind_law.specs.Argument.{is_listed}

-- the fact holds of each variable of the list
abbrev pub Each : (VarId → Type 0) → List VarId → Type 0
Each P [] = Unit {0}
Each P (v ∷ vs) = P v × Each P vs

-- each variable is one of so many
abbrev pub AllBelow : ℕ → List VarId → Type 0
AllBelow n vars = Each (λ u. u.0 < n) vars

-- each variable has a value left
abbrev pub AllSane : (ℕ → Start) → List VarId → Type 0
AllSane b vars = Each (λ u. IsSane (b u.0)) vars

-- the one box lies in the other at each of the variables
pub record IsSmaller (inside : ℕ → Bool) (vars : List VarId) (small large : ℕ → Start) : Type 0 where
  pub parts : Each (λ u. IsPart (inside u.0) (small u.0) (large u.0)) vars

-- the one interval lies in the other
pub record EndsIn (small large : Ends) : Type 0 where
  pub low : large.lo ≤ℤ small.lo
  pub order : small.lo ≤ℤ small.hi
  pub high : small.hi ≤ℤ large.hi

-- the intervals lie in one another at each of the variables
pub record AreWithin (vars : List VarId) (small large : ℕ → Ends) : Type 0 where
  pub parts : Each (λ u. EndsIn (small u.0) (large u.0)) vars

-- the integers within plus and minus 2 ^ 62
abbrev pub small_ends : Ends
small_ends = record { lo = neg_ℤ (pos (2 ^ 62)); hi = pos (2 ^ 62) }

-- the intervals of the variables have an integer and lie within plus and minus 2 ^ 62
abbrev pub AreSmall : List VarId → (ℕ → Ends) → Type 0
AreSmall vars s = AreWithin vars s (λ v. small_ends)

-- the box of one assignment
abbrev pub point : List ℤ → ℕ → Start
point a v = Span (entry_at a v) (entry_at a v)

-- the intervals of one assignment
abbrev pub points : List ℤ → ℕ → Ends
points a v = only (entry_at a v)

-- the intervals of a box
abbrev pub hulls : (ℕ → Start) → ℕ → Ends
hulls b v = ends_of (b v)

-- the intervals of a view before
abbrev pub befores : List Movement → ℕ → Ends
befores view v = (movement_at view v).before

-- the intervals of a view after
abbrev pub afters : List Movement → ℕ → Ends
afters view v = (movement_at view v).after

-- the changes of a view
abbrev pub changes : List Movement → ℕ → Ends
changes view v = (movement_at view v).change

-- the change is one between values before and after
abbrev pub IsTrueChange : Movement → Type 0
IsTrueChange m = EndsIn m.change (difference_ends m.after m.before)

-- the interval is 0 alone
abbrev pub is_still : Ends → Bool
is_still e = int_eq e.lo (pos 0) && int_eq e.hi (pos 0)

-- the view moves none of the variables
abbrev pub all_still : List VarId → List Movement → Bool
all_still [] view = true
all_still (u ∷ us) view = is_still (movement_at view u.0).change && all_still us view

-- the assignment lies in the box at each of the variables
abbrev pub IsWithin : (ℕ → Start) → List VarId → List ℤ → Type 0
IsWithin b vars a = Each (λ u. has_of (b u.0) (entry_at a u.0) ≡ true) vars

-- no assignment within the box meets the kind
abbrev pub IsUnmet : (List ℤ → Bool) → List VarId → (ℕ → Start) → Type 0
IsUnmet met vars b = (a : List ℤ) → IsWithin b vars a → met a ≡ false

-- the view allows the two assignments at each of the variables
abbrev pub Covers : List Movement → List VarId → List ℤ → List ℤ → Type 0
Covers view vars a b = Each (λ u. IsCovered view a b u.0) vars

-- smaller intervals fit where larger ones do
abbrev pub FitsLaw : List VarId → ((ℕ → Ends) → Type 0) → Type 0
FitsLaw vars fits = (small large : ℕ → Ends) → AreWithin vars small large → fits large → fits small

-- each variable of the one list stands in the other
abbrev pub AreAmong : List VarId → List VarId → Type 0
AreAmong few many = Each (λ u. is_listed u many ≡ true) few

-- small intervals over which the sum or product is no larger than 2 ^ 100 fit
abbrev pub WidthLaw : List VarId → ((ℕ → Ends) → ℕ) → ((ℕ → Ends) → Type 0) → Type 0
WidthLaw vars size fits = (s : ℕ → Ends) → AreSmall vars s → size s ≤ 2 ^ 100 → fits s

-- the size over smaller intervals of the measured variables is no larger
abbrev pub SizeLaw : List VarId → ((ℕ → Ends) → ℕ) → Type 0
SizeLaw measured size = (small large : ℕ → Ends) → AreWithin measured small large → size small ≤ size large

-- a smaller box is refuted where a larger one is
abbrev pub ShrinkLaw : (ℕ → Bool) → List VarId → ((ℕ → Start) → Bool) → Type 0
ShrinkLaw inside vars refuted = (small large : ℕ → Start) → IsSmaller inside vars small large → refuted large ≡ true → refuted small ≡ true

-- the box of one assignment is refuted exactly where the assignment doesn't meet the kind
abbrev pub FixedLaw : ((ℕ → Start) → Bool) → (List ℤ → Bool) → Type 0
FixedLaw refuted met = (a : List ℤ) → refuted (point a) ≡ not (met a)

-- where a kind is kept under a view that allows two assignments, it is met by the second where it is met by the first
abbrev pub KeepLaw : List VarId → (List Movement → Bool) → (List ℤ → Bool) → Type 0
KeepLaw vars kept met = (view : List Movement) (a b : List ℤ) → Covers view vars a b → kept view ≡ true → met a ≡ true → met b ≡ true

-- where the view moves none of the variables, the kind is kept
abbrev pub StillLaw : List VarId → (List Movement → Bool) → Type 0
StillLaw vars kept = (view : List Movement) → all_still vars view ≡ true → kept view ≡ true
