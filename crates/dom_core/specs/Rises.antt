-- Lists of integers that rise.
use Rattle.std.specs.Prelude.{◌≡◌, ℕ, zero, suc, ◌≤◌, ◌<◌, Bool, true, false, ◌||◌, List, [], ◌∷◌, length, ℤ, pos, negsuc, ◌+ℤ◌, ◌-ℤ◌, ◌<ℤ◌, ◌≤ℤ◌, slice_index_or}
use Rattle.std.specs.Ordering.{int_eq}

-- whether the value stands in the list
abbrev pub is_among : ℤ → List ℤ → Bool
is_among x [] = false
is_among x (y ∷ ys) = int_eq x y || is_among x ys

-- each value is below all that stand after it
abbrev pub Rises : List ℤ → Type 0
Rises [] = Unit {0}
Rises (x ∷ xs) = ((y : ℤ) → is_among y xs ≡ true → x <ℤ y) × Rises xs

-- the first value, or 0 where there is none
abbrev pub first_of : List ℤ → ℤ
first_of [] = pos 0
first_of (x ∷ xs) = x

-- the last value of a list that begins so
abbrev pub last_after : ℤ → List ℤ → ℤ
last_after x [] = x
last_after x (y ∷ ys) = last_after y ys

-- the last value, or 0 where there is none
abbrev pub last_of : List ℤ → ℤ
last_of [] = pos 0
last_of (x ∷ xs) = last_after x xs

-- so many integers in a row, from this one on
abbrev pub count_from : ℤ → ℕ → List ℤ
count_from x zero = []
count_from x (suc n) = x ∷ count_from (x +ℤ pos 1) n

-- the integer as a natural number, or 0 below that
abbrev pub natural_of : ℤ → ℕ
natural_of (pos n) = n
natural_of (negsuc n) = 0

-- how many integers lie from one end to the other, both among them
abbrev pub count_of : ℤ → ℤ → ℕ
count_of lo hi = natural_of ((hi +ℤ pos 1) -ℤ lo)

-- the integers from one end to the other, both among them
abbrev pub range_of : ℤ → ℤ → List ℤ
range_of lo hi = count_from lo (count_of lo hi)

-- so many values of the list are less
pub record IsRank (xs : List ℤ) (v : ℤ) (k : ℕ) : Type 0 where
  pub within : k ≤ length xs
  pub below : (i : ℕ) → i < k → slice_index_or xs i (pos 0) <ℤ v
  pub from : (i : ℕ) → k ≤ i → i < length xs → v ≤ℤ slice_index_or xs i (pos 0)

-- the second list rises and has exactly the values of the first
pub record IsSortedOf (xs ys : List ℤ) : Type 0 where
  pub rises : Rises ys
  pub same : (x : ℤ) → is_among x ys ≡ is_among x xs

-- the list has so many distinct values
pub record IsDistinctCount (xs : List ℤ) (count : ℕ) : Type 0 where
  pub values : List ℤ
  pub sorted : IsSortedOf xs values
  pub length : length values ≡ count
