-- How many places an array with such index sets has.
use Rattle.std.specs.Prelude.{◌≡◌, ◌<◌, ℕ, ◌*◌, List, [], ◌∷◌, ℤ, pos, negsuc, ◌+ℤ◌, ◌-ℤ◌}
use Rattle.dom_index_sets.specs.declared.index_set.IndexSet.{IndexSet}

-- the integer as a natural number, or 0 below that
abbrev pub natural_of : ℤ → ℕ
natural_of (pos n) = n
natural_of (negsuc n) = 0

-- how many integers lie from the lower end to the upper: none where the lower end is above
abbrev pub size_of : IndexSet → ℕ
size_of s = natural_of ((s.hi +ℤ pos 1) -ℤ s.lo)

-- all sizes multiplied
abbrev pub product_of : List IndexSet → ℕ
product_of [] = 1
product_of (s ∷ ss) = size_of s * product_of ss

-- no integer is in the set
abbrev pub IsEmpty : IndexSet → Type 0
IsEmpty s = size_of s ≡ 0

-- some integer is in the set
abbrev pub IsFilled : IndexSet → Type 0
IsFilled s = 0 < size_of s
