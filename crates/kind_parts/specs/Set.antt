-- Sets of integers, and what is asked of them.
use Rattle.std.specs.Prelude.{◌≡◌, ◌&&◌, ◌||◌, Bool, true, false, List, [], ◌∷◌, ℤ, pos, ◌≤ℤ◌, ◌<ℤ◌, int_le}
use Rattle.std.specs.Int.{int_max, int_min}
use Rattle.std.specs.List.{list_any}
use Rattle.std.specs.Ordering.{int_eq}
use Rattle.dom_core.specs.Ends.{Ends}
use Rattle.dom_core.specs.Rises.{is_among, Rises, range_of}
use Rattle.dom_core.specs.declared.set.Set.{Set}
use Rattle.dom_core.specs.declared.set.Set.TheVariants.{Range, Values}
use Rattle.dom_cells.specs.Cell.{has_of}
use Rattle.dom_cells.specs.declared.start.Start.{Start}
use Rattle.dom_cells.specs.declared.start.Start.TheVariants.{Values as Listed, Span}

-- the value lies in the set
abbrev pub set_has : Set → ℤ → Bool
set_has (Range lo hi) x = int_le lo x && int_le x hi
set_has (Values xs) x = is_among x xs

-- listed values rise
abbrev pub IsSorted : Set → Type 0
IsSorted (Range lo hi) = Unit {0}
IsSorted (Values xs) = Rises xs

-- an integer between two values of the list is none of it
pub record HasGap (xs : List ℤ) : Type 0 where
  pub low : ℤ
  pub gap : ℤ
  pub high : ℤ
  pub has_low : is_among low xs ≡ true
  pub has_high : is_among high xs ≡ true
  pub above : low <ℤ gap
  pub below : gap <ℤ high
  pub missing : is_among gap xs ≡ false

-- the list has no value, or a gap
abbrev pub IsEmptyOrGappy : List ℤ → Type 0
IsEmptyOrGappy [] = Unit {0}
IsEmptyOrGappy (x ∷ xs) = HasGap (x ∷ xs)

-- a set with a value and without a gap stands as a range, any other as its list
abbrev pub IsPlain : Set → Type 0
IsPlain (Range lo hi) = lo ≤ℤ hi
IsPlain (Values xs) = Rises xs × IsEmptyOrGappy xs

-- the second set is plain and has the values of the first
pub record IsPlainOf (old new : Set) : Type 0 where
  pub same : (x : ℤ) → set_has new x ≡ set_has old x
  pub form : IsPlain new

-- a value of the cell lies between the ends
abbrev pub range_meets : ℤ → ℤ → Start → Bool
range_meets lo hi (Listed xs) = list_any (λ x. int_le lo x && int_le x hi) xs
range_meets lo hi (Span low high) = int_le (int_max low lo) (int_min high hi)

-- a value of the list is one of the cell
abbrev pub list_meets : List ℤ → Start → Bool
list_meets xs c = list_any (has_of c) xs

-- a value of the cell lies in the set
abbrev pub set_meets : Set → Start → Bool
set_meets (Range lo hi) c = range_meets lo hi c
set_meets (Values xs) c = list_meets xs c

-- each integer of the first list stands in the second
abbrev pub all_among : List ℤ → List ℤ → Bool
all_among [] ys = true
all_among (x ∷ xs) ys = is_among x ys && all_among xs ys

-- each integer of the interval stands in the list
abbrev pub covers : List ℤ → Ends → Bool
covers xs e = all_among (range_of e.lo e.hi) xs

-- a value that is at most the number stays so: it is at most the number afterwards, or doesn't rise
abbrev pub below_keeps : ℤ → Ends → Ends → Bool
below_keeps hi change after = int_le after.hi hi || int_le change.hi (pos 0)

-- a value that is at least the number stays so: it is at least the number afterwards, or doesn't fall
abbrev pub above_keeps : ℤ → Ends → Ends → Bool
above_keeps lo change after = int_le lo after.lo || int_le (pos 0) change.lo

-- a value between the ends stays there
abbrev pub range_keeps : ℤ → ℤ → Ends → Ends → Bool
range_keeps lo hi change after = below_keeps hi change after && above_keeps lo change after

-- a value of the list stays one: it doesn't change, or each value that it can have afterwards is one
abbrev pub list_keeps : List ℤ → Ends → Ends → Bool
list_keeps xs change after = (int_eq change.lo (pos 0) && int_eq change.hi (pos 0)) || covers xs after

-- a value of the set that changes so and lies there afterwards stays in the set
abbrev pub set_keeps : Set → Ends → Ends → Bool
set_keeps (Range lo hi) change after = range_keeps lo hi change after
set_keeps (Values xs) change after = list_keeps xs change after
