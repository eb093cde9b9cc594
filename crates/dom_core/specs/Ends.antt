-- Intervals of integers by their two ends.
use Rattle.std.specs.Prelude.{◌≡◌, ◌≤◌, ◌^◌, ◌&&◌, Bool, true, FitsSigned, ℕ, ℤ, pos, ◌+ℤ◌, ◌-ℤ◌, ◌*ℤ◌, ◌≤ℤ◌, ◌<ℤ◌, int_le, int_lt, unsigned_abs, max, if◌then◌else◌, Option, Some, None}
use Rattle.std.specs.Int.{int_max, int_min, w128}

-- the two ends of an interval
pub record Ends : Type 0 where
  pub lo : ℤ
  pub hi : ℤ

-- the ends stand in order, so the interval has an integer
abbrev pub IsOrdered : Ends → Type 0
IsOrdered e = e.lo ≤ℤ e.hi

-- the greatest size of an integer of the interval
abbrev pub size_of : Ends → ℕ
size_of e = max (unsigned_abs e.lo) (unsigned_abs e.hi)

-- the interval's ends have so many bits
abbrev pub HasBits : ℕ → Ends → Type 0
HasBits n e = (size_of e ≤ 2 ^ n)

-- the integer lies in the interval
abbrev pub lies_in : ℤ → Ends → Bool
lies_in x e = int_le e.lo x && int_le x e.hi

-- the interval of one integer
abbrev pub only : ℤ → Ends
only x = record { lo = x; hi = x }

-- the sums of an integer of the one and an integer of the other
abbrev pub sum_ends : Ends → Ends → Ends
sum_ends a b = record { lo = a.lo +ℤ b.lo; hi = a.hi +ℤ b.hi }

-- the differences of an integer of the one and an integer of the other
abbrev pub difference_ends : Ends → Ends → Ends
difference_ends a b = record { lo = a.lo -ℤ b.hi; hi = a.hi -ℤ b.lo }

-- the multiples of its integers by the factor, which turns it where it is negative
abbrev pub scaled_ends : ℤ → Ends → Ends
scaled_ends k a =
    record { lo = if int_lt k (pos 0) then k *ℤ a.hi else k *ℤ a.lo; hi = if int_lt k (pos 0) then k *ℤ a.lo else k *ℤ a.hi }

-- the interval of a sum where one of its parts is replaced by another
abbrev pub replaced_ends : Ends → Ends → Ends → Ends
replaced_ends sum old new = record { lo = (sum.lo -ℤ old.lo) +ℤ new.lo; hi = (sum.hi -ℤ old.hi) +ℤ new.hi }

-- the least interval over both
abbrev pub hull_ends : Ends → Ends → Ends
hull_ends a b = record { lo = int_min a.lo b.lo; hi = int_max a.hi b.hi }

-- each product of an integer of the one and an integer of the other has 128 bits
pub record ProductsFit (a b : Ends) : Type 0 where
  pub fits : (x y : ℤ) → lies_in x a ≡ true → lies_in y b ≡ true → FitsSigned w128 (x *ℤ y)

-- the integer is such a product
pub record IsProductOf (a b : Ends) (z : ℤ) : Type 0 where
  pub first : ℤ
  pub second : ℤ
  pub in_first : lies_in first a ≡ true
  pub in_second : lies_in second b ≡ true
  pub is : (first *ℤ second) ≡ z

-- the least interval over the products: it has each of them, and its ends are two of them
pub record IsProductHull (a b hull : Ends) : Type 0 where
  pub all : (x y : ℤ) → lies_in x a ≡ true → lies_in y b ≡ true → lies_in (x *ℤ y) hull ≡ true
  pub low : IsProductOf a b hull.lo
  pub high : IsProductOf a b hull.hi

-- the integers in both
abbrev pub meet_ends : Ends → Ends → Ends
meet_ends a b = record { lo = int_max a.lo b.lo; hi = int_min a.hi b.hi }

-- the integers in both, where there are any
abbrev pub IsMeet : Ends → Ends → Option Ends → Type 0
IsMeet a b (Some m) = (m ≡ meet_ends a b) × IsOrdered m
IsMeet a b None = (meet_ends a b).hi <ℤ (meet_ends a b).lo

-- the one integer of the interval, where it has no other
abbrev pub IsSingle : Ends → Option ℤ → Type 0
IsSingle e (Some x) = (e.lo ≡ x) × (e.hi ≡ x)
IsSingle e None = e.lo <ℤ e.hi
