-- Laws of rising lists and of integers in a row.
use Rattle.std.proofs.Common.{◌≡◌, ℕ, zero, suc, ◌+◌, ◌-◌, ◌<◌, ◌≤◌, Bool, true, false, ◌||◌, ◌&&◌, List, [], ◌∷◌, length, get_or, ℤ, pos, negsuc, ◌+ℤ◌, ◌-ℤ◌, ◌<ℤ◌, ◌≤ℤ◌, refl, sym, ◌∙◌, ap, arith, Some, ◌⊎◌, inl, inr, int_le, slice_get, FitsSigned, w64, to_z, of_z}
use Rattle.std.proofs.lemmas.Int.{ints, to_z-of_z}
use Rattle.std.proofs.lemmas.Bool.Decides.{Decides-int_eq}
use Rattle.std.proofs.lemmas.Option.{slice_get-get_or}
use Rattle.std.specs.Ordering.{int_eq}
use Rattle.dom_core.specs.Rises.{is_among, Rises, first_of, last_of, last_after, count_from, natural_of, count_of, range_of}

-- ---- tests

pub same_test : (a b : Bool) → (a ≡ true → b ≡ true) → (b ≡ true → a ≡ true) → a ≡ b
same_test true true f g = refl
same_test true false f g = sym (f refl)
same_test false true f g = g refl
same_test false false f g = refl

pub or_true : (a b : Bool) → (a || b) ≡ true → (a ≡ true) ⊎ (b ≡ true)
or_true true b h = inl refl
or_true false b h = inr h

pub or_left : (a b : Bool) → a ≡ true → (a || b) ≡ true
or_left true b h = refl
or_left false b h = cc

pub or_right : (a b : Bool) → b ≡ true → (a || b) ≡ true
or_right true b h = refl
or_right false b h = h

pub int_eq_same : (x y : ℤ) → int_eq x y ≡ true → x ≡ y
int_eq_same x y = (Decides-int_eq x y).0

pub int_eq_refl : (x : ℤ) → int_eq x x ≡ true
int_eq_refl x = (Decides-int_eq x x).1 refl

pub int_eq_from : (x y : ℤ) → x ≡ y → int_eq x y ≡ true
int_eq_from x y = (Decides-int_eq x y).1

-- ---- among

-- a value of the list is its head or stands in its tail
pub among_cases : (v x : ℤ) (xs : List ℤ) → is_among v (x ∷ xs) ≡ true → (v ≡ x) ⊎ (is_among v xs ≡ true)
among_cases v x xs h =
    elim (or_true (int_eq v x) (is_among v xs) h)
    [ inl e ↦ inl (int_eq_same v x e) | inr r ↦ inr r ]

pub among_head : (x : ℤ) (xs : List ℤ) → is_among x (x ∷ xs) ≡ true
among_head x xs = or_left (int_eq x x) (is_among x xs) (int_eq_refl x)

pub among_tail : (v x : ℤ) (xs : List ℤ) → is_among v xs ≡ true → is_among v (x ∷ xs) ≡ true
among_tail v x xs h = or_right (int_eq v x) (is_among v xs) h

-- what is read within the list stands in it
pub among_read : (xs : List ℤ) (k : ℕ) (d : ℤ) → k < length xs → is_among (get_or xs k d) xs ≡ true
among_read [] k d h = absurd (omega arith)
among_read (x ∷ xs) zero d h = among_head x xs
among_read (x ∷ xs) (suc k) d h = among_tail (get_or xs k d) x xs (among_read xs k d (omega arith))

-- a value that is read nowhere doesn't stand in the list
pub not_among : (v d : ℤ) (xs : List ℤ) → ((k : ℕ) → k < length xs → get_or xs k d ≡ v → ⊥) → is_among v xs ≡ false
not_among v d [] h = refl
not_among v d (x ∷ xs) h =
    let rest : is_among v xs ≡ false = not_among v d xs (λ k lt e. h (suc k) (omega arith) e) in
    let step : (b : Bool) → int_eq v x ≡ b → (b || is_among v xs) ≡ false =
    λ b. elim b as (λ b. int_eq v x ≡ b → (b || is_among v xs) ≡ false)
    [ true ↦ λ e. absurd (h zero (omega arith) (sym (int_eq_same v x e))) | false ↦ λ e. rest ] in
    step (int_eq v x) refl

-- ---- ends

pub first_is_read : (xs : List ℤ) (d : ℤ) → 0 < length xs → first_of xs ≡ get_or xs 0 d
first_is_read [] d h = absurd (omega arith)
first_is_read (x ∷ xs) d h = refl

pub last_after_read : (x : ℤ) (xs : List ℤ) (d : ℤ) → last_after x xs ≡ get_or (x ∷ xs) (length xs) d
last_after_read x [] d = refl
last_after_read x (y ∷ ys) d = last_after_read y ys d

pub last_is_read : (xs : List ℤ) (d : ℤ) (k : ℕ) → k + 1 ≡ length xs → last_of xs ≡ get_or xs k d
last_is_read [] d k h = absurd (omega arith)
last_is_read (x ∷ xs) d k h =
    let e : length xs ≡ k = omega arith in
    last_after_read x xs d ∙ ap (λ n. get_or (x ∷ xs) n d) e

pub first_among : (xs : List ℤ) → 0 < length xs → is_among (first_of xs) xs ≡ true
first_among [] h = absurd (omega arith)
first_among (x ∷ xs) h = among_head x xs

pub last_after_among : (x : ℤ) (xs : List ℤ) → is_among (last_after x xs) (x ∷ xs) ≡ true
last_after_among x [] = among_head x []
last_after_among x (y ∷ ys) = among_tail (last_after y ys) x (y ∷ ys) (last_after_among y ys)

pub last_among : (xs : List ℤ) → 0 < length xs → is_among (last_of xs) xs ≡ true
last_among [] h = absurd (omega arith)
last_among (x ∷ xs) h = last_after_among x xs

-- ---- rising

pub rises_head : (x : ℤ) (xs : List ℤ) (v : ℤ) → Rises (x ∷ xs) → is_among v xs ≡ true → x <ℤ v
rises_head x xs v r h = r.0 v h

pub first_least : (xs : List ℤ) (v : ℤ) → Rises xs → is_among v xs ≡ true → first_of xs ≤ℤ v
first_least [] v r h = absurd (cc)
first_least (x ∷ xs) v r h =
    elim (among_cases v x xs h)
    [ inl e ↦ omega (arith, ints) | inr t ↦ (let lt : x <ℤ v = r.0 v t in omega (arith, ints)) ]

pub last_after_greatest : (x : ℤ) (xs : List ℤ) (v : ℤ) → Rises (x ∷ xs) → is_among v (x ∷ xs) ≡ true → v ≤ℤ last_after x xs
last_after_greatest x [] v r h =
    elim (among_cases v x [] h) [ inl e ↦ omega (arith, ints) | inr t ↦ absurd (cc) ]
last_after_greatest x (y ∷ ys) v r h =
    let top : y ≤ℤ last_after y ys = last_after_greatest y ys y r.1 (among_head y ys) in
    let up : x <ℤ y = r.0 y (among_head y ys) in
    elim (among_cases v x (y ∷ ys) h)
    [ inl e ↦ omega (arith, ints) | inr t ↦ last_after_greatest y ys v r.1 t ]

pub last_greatest : (xs : List ℤ) (v : ℤ) → Rises xs → is_among v xs ≡ true → v ≤ℤ last_of xs
last_greatest [] v r h = absurd (cc)
last_greatest (x ∷ xs) v r h = last_after_greatest x xs v r h

-- what stands later is greater
pub rises_read : (xs : List ℤ) (i j : ℕ) (d : ℤ) → Rises xs → i < j → j < length xs → get_or xs i d <ℤ get_or xs j d
rises_read [] i j d r lt h = absurd (omega arith)
rises_read (x ∷ xs) i zero d r lt h = absurd (omega arith)
rises_read (x ∷ xs) zero (suc j) d r lt h = r.0 (get_or xs j d) (among_read xs j d (omega arith))
rises_read (x ∷ xs) (suc i) (suc j) d r lt h = rises_read xs i j d r.1 (omega arith) (omega arith)

-- ---- integers in a row

pub count-length : (x : ℤ) (n : ℕ) → length (count_from x n) ≡ n
count-length x zero = refl
count-length x (suc n) = ap suc (count-length (x +ℤ pos 1) n)

pub count_above : (x v : ℤ) (n : ℕ) → is_among v (count_from x n) ≡ true → x ≤ℤ v
count_above x v zero h = absurd (cc)
count_above x v (suc n) h =
    elim (among_cases v x (count_from (x +ℤ pos 1) n) h) [
      | inl e ↦ omega (arith, ints)
      | inr t ↦ (let up : (x +ℤ pos 1) ≤ℤ v = count_above (x +ℤ pos 1) v n t in omega (arith, ints))
    ]

pub count_below : (x v : ℤ) (n : ℕ) → is_among v (count_from x n) ≡ true → v <ℤ (x +ℤ pos n)
count_below x v zero h = absurd (cc)
count_below x v (suc n) h =
    elim (among_cases v x (count_from (x +ℤ pos 1) n) h) [
      | inl e ↦ omega (arith, ints)
      | inr t ↦ (let up : v <ℤ ((x +ℤ pos 1) +ℤ pos n) = count_below (x +ℤ pos 1) v n t in omega (arith, ints))
    ]

pub count_has : (x v : ℤ) (n : ℕ) → x ≤ℤ v → v <ℤ (x +ℤ pos n) → is_among v (count_from x n) ≡ true
count_has x v zero low high = absurd (omega (arith, ints))
count_has x v (suc n) low high =
    let step : (b : Bool) → int_eq v x ≡ b → (b || is_among v (count_from (x +ℤ pos 1) n)) ≡ true =
    λ b. elim b as (λ b. int_eq v x ≡ b → (b || is_among v (count_from (x +ℤ pos 1) n)) ≡ true) [
      | true ↦ λ e. refl
      | false ↦ λ e.
          (let apart : v ≡ x → ⊥ = λ same. absurd (let t : int_eq v x ≡ true = int_eq_from v x same in cc) in
          let beyond : (x +ℤ pos 1) ≤ℤ v = omega (arith, ints) in
          let under : v <ℤ ((x +ℤ pos 1) +ℤ pos n) = omega (arith, ints) in
          count_has (x +ℤ pos 1) v n beyond under)
    ] in
    step (int_eq v x) refl

pub count_rises : (x : ℤ) (n : ℕ) → Rises (count_from x n)
count_rises x zero = tt
count_rises x (suc n) =
    ((λ v h. let up : (x +ℤ pos 1) ≤ℤ v = count_above (x +ℤ pos 1) v n h in omega (arith, ints)), count_rises (x +ℤ pos 1) n)

pub count-get : (x : ℤ) (n k : ℕ) (d : ℤ) → k < n → get_or (count_from x n) k d ≡ (x +ℤ pos k)
count-get x zero k d h = absurd (omega arith)
count-get x (suc n) zero d h = omega (arith, ints)
count-get x (suc n) (suc k) d h =
    let e : get_or (count_from (x +ℤ pos 1) n) k d ≡ ((x +ℤ pos 1) +ℤ pos k) = count-get (x +ℤ pos 1) n k d (omega arith) in
    e ∙ omega (arith, ints)

pub count-first : (x : ℤ) (n : ℕ) → 0 < n → first_of (count_from x n) ≡ x
count-first x zero h = absurd (omega arith)
count-first x (suc n) h = refl

pub count-last : (x : ℤ) (n k : ℕ) → k + 1 ≡ n → last_of (count_from x n) ≡ (x +ℤ pos k)
count-last x n k h =
    last_is_read (count_from x n) (pos 0) k (h ∙ sym (count-length x n)) ∙ count-get x n k (pos 0) (omega arith)

pub both_le : (a b c : ℤ) → a ≤ℤ b → b ≤ℤ c → (int_le a b && int_le b c) ≡ true
both_le a b c h g = grind (arith, ints)

pub le_from_first : (a b c : ℤ) → (int_le a b && int_le b c) ≡ true → a ≤ℤ b
le_from_first a b c h = grind (arith, ints)

pub le_from_second : (a b c : ℤ) → (int_le a b && int_le b c) ≡ true → b ≤ℤ c
le_from_second a b c h = grind (arith, ints)

pub natural_some : (z : ℤ) → 0 < natural_of z → pos 0 <ℤ z
natural_some (pos n) h = omega (arith, ints)
natural_some (negsuc n) h = absurd (omega arith)

-- ---- the integers between two ends

pub natural_is : (z : ℤ) → pos 0 ≤ℤ z → pos (natural_of z) ≡ z
natural_is (pos n) h = refl
natural_is (negsuc n) h = absurd (omega (arith, ints))

pub count_is : (lo hi : ℤ) → lo ≤ℤ hi → (lo +ℤ pos (count_of lo hi)) ≡ (hi +ℤ pos 1)
count_is lo hi h =
    let some : pos 0 ≤ℤ ((hi +ℤ pos 1) -ℤ lo) = omega (arith, ints) in
    let e : pos (count_of lo hi) ≡ ((hi +ℤ pos 1) -ℤ lo) = natural_is ((hi +ℤ pos 1) -ℤ lo) some in
    omega (arith, ints)

pub count_some : (lo hi : ℤ) → lo ≤ℤ hi → 0 < count_of lo hi
count_some lo hi h = let e : (lo +ℤ pos (count_of lo hi)) ≡ (hi +ℤ pos 1) = count_is lo hi h in omega (arith, ints)

pub range-length : (lo hi : ℤ) → length (range_of lo hi) ≡ count_of lo hi
range-length lo hi = count-length lo (count_of lo hi)

pub range_rises : (lo hi : ℤ) → Rises (range_of lo hi)
range_rises lo hi = count_rises lo (count_of lo hi)

-- where a range has a value, its ends are in order
pub range_ends : (lo hi : ℤ) → 0 < length (range_of lo hi) → lo ≤ℤ hi
range_ends lo hi h =
    let some : 0 < count_of lo hi = (let e : length (range_of lo hi) ≡ count_of lo hi = range-length lo hi in omega arith) in
    let up : pos 0 <ℤ ((hi +ℤ pos 1) -ℤ lo) = natural_some ((hi +ℤ pos 1) -ℤ lo) some in
    omega (arith, ints)

pub some_among : (v : ℤ) (xs : List ℤ) → is_among v xs ≡ true → 0 < length xs
some_among v [] h = absurd (cc)
some_among v (x ∷ xs) h = omega arith

pub range_holds : (lo hi v : ℤ) → is_among v (range_of lo hi) ≡ true → lo ≤ℤ hi
range_holds lo hi v h = range_ends lo hi (some_among v (range_of lo hi) h)

pub range-among : (lo hi v : ℤ) → is_among v (range_of lo hi) ≡ (int_le lo v && int_le v hi)
range-among lo hi v = same_test _ _
    (λ t. let low : lo ≤ℤ v = count_above lo v (count_of lo hi) t in
    let under : v <ℤ (lo +ℤ pos (count_of lo hi)) = count_below lo v (count_of lo hi) t in
    let ends : lo ≤ℤ hi = range_holds lo hi v t in
    let e : (lo +ℤ pos (count_of lo hi)) ≡ (hi +ℤ pos 1) = count_is lo hi ends in
    let high : v ≤ℤ hi = omega (arith, ints) in
    both_le lo v hi low high)
    (λ t. let low : lo ≤ℤ v = le_from_first lo v hi t in
    let high : v ≤ℤ hi = le_from_second lo v hi t in
    let ends : lo ≤ℤ hi = omega (arith, ints) in
    let e : (lo +ℤ pos (count_of lo hi)) ≡ (hi +ℤ pos 1) = count_is lo hi ends in
    let under : v <ℤ (lo +ℤ pos (count_of lo hi)) = omega (arith, ints) in
    count_has lo v (count_of lo hi) low under)

pub range-first : (lo hi : ℤ) → lo ≤ℤ hi → first_of (range_of lo hi) ≡ lo
range-first lo hi h = count-first lo (count_of lo hi) (count_some lo hi h)

pub range-last : (lo hi : ℤ) → lo ≤ℤ hi → last_of (range_of lo hi) ≡ hi
range-last lo hi h =
    let some : 0 < count_of lo hi = count_some lo hi h in
    let e : (lo +ℤ pos (count_of lo hi)) ≡ (hi +ℤ pos 1) = count_is lo hi h in
    let n : (count_of lo hi - 1) + 1 ≡ count_of lo hi = omega arith in
    count-last lo (count_of lo hi) (count_of lo hi - 1) n ∙ omega (arith, ints)

pub range-get : (lo hi : ℤ) (k : ℕ) (d : ℤ) → k < length (range_of lo hi) → get_or (range_of lo hi) k d ≡ (lo +ℤ pos k)
range-get lo hi k d h =
    let e : length (range_of lo hi) ≡ count_of lo hi = range-length lo hi in
    count-get lo (count_of lo hi) k d (omega arith)

-- ---- halving a rising list

pub read_is_among : (xs : List ℤ) (k : ℕ) (d v : ℤ) → k < length xs → get_or xs k d ≡ v → true ≡ is_among v xs
read_is_among xs k d v lt e = sym (ap (λ (w : ℤ). is_among w xs) (sym e) ∙ among_read xs k d lt)

pub less_or_same : (a b : ℕ) → a ≤ b → (a < b) ⊎ (a ≡ b)
less_or_same a b h = grind arith

pub before_or_after : (k low : ℕ) → (k < low) ⊎ (low ≤ k)
before_or_after k low = grind arith

pub less_before : (xs : List ℤ) (middle : ℕ) (d v : ℤ) → Rises xs → middle < length xs → get_or xs middle d <ℤ v
    → (k : ℕ) → k < middle + 1 → get_or xs k d <ℤ v
less_before xs middle d v r lt h k below =
    elim (less_or_same k middle (omega arith)) [
      | inl less ↦ (let up : get_or xs k d <ℤ get_or xs middle d = rises_read xs k middle d r less lt in omega (arith, ints))
      | inr same ↦ rw same h
    ]

pub greater_after : (xs : List ℤ) (middle : ℕ) (d v : ℤ) → Rises xs → v <ℤ get_or xs middle d
    → (k : ℕ) → middle ≤ k → k < length xs → v <ℤ get_or xs k d
greater_after xs middle d v r h k above lt =
    elim (less_or_same middle k above) [
      | inl less ↦ (let up : get_or xs middle d <ℤ get_or xs k d = rises_read xs middle k d r less lt in omega (arith, ints))
      | inr same ↦ rw (← same) h
    ]

pub nowhere : (xs : List ℤ) (low high : ℕ) (v : ℤ) → high ≤ low
    → ((k : ℕ) → k < low → get_or xs k (pos 0) <ℤ v)
    → ((k : ℕ) → high ≤ k → k < length xs → v <ℤ get_or xs k (pos 0))
    → false ≡ is_among v xs
nowhere xs low high v over less greater =
    sym (not_among v (pos 0) xs (λ k lt e.
    elim (before_or_after k low) [
      | inl before ↦ (let h : get_or xs k (pos 0) <ℤ v = less k before in omega (arith, ints))
      | inr after ↦ (let h : v <ℤ get_or xs k (pos 0) = greater k (omega arith) lt in omega (arith, ints))
    ]))

-- ---- a list that is the integers between two ends

pub range_test : (lo hi v : ℤ) (xs : List ℤ) → xs ≡ range_of lo hi → lo ≤ℤ v → int_le v hi ≡ is_among v xs
range_test lo hi v xs e low =
    let t : is_among v xs ≡ (int_le lo v && int_le v hi) = ap (is_among v) e ∙ range-among lo hi v in
    grind (arith, ints)

pub range_beyond : (lo hi : ℤ) (k : ℕ) (xs : List ℤ) → xs ≡ range_of lo hi → k < length xs → (lo +ℤ pos k) ≤ℤ hi
range_beyond lo hi k xs e lt =
    let n : length xs ≡ count_of lo hi = ap length e ∙ range-length lo hi in
    let some : 0 < length (range_of lo hi) = (let m : length xs ≡ length (range_of lo hi) = ap length e in omega arith) in
    let ends : lo ≤ℤ hi = range_ends lo hi some in
    let is : (lo +ℤ pos (count_of lo hi)) ≡ (hi +ℤ pos 1) = count_is lo hi ends in
    omega (arith, ints)

pub range_reads : (lo hi : ℤ) (k : ℕ) (xs : List ℤ) → xs ≡ range_of lo hi → k < length xs
    → slice_get xs k ≡ Some (lo +ℤ pos k)
range_reads lo hi k xs e lt =
    let m : length xs ≡ length (range_of lo hi) = ap length e in
    slice_get-get_or xs k (pos 0) lt ∙ ap Some (ap (λ (ys : List ℤ). get_or ys k (pos 0)) e ∙ range-get lo hi k (pos 0) (omega arith))

pub list_reads : (k : ℕ) (xs : List ℤ) (d : ℤ) → k < length xs → slice_get xs k ≡ Some (get_or xs k d)
list_reads k xs d lt = slice_get-get_or xs k d lt

-- equal bits are equal numbers
pub same_bits : (x y : ℤ) → FitsSigned w64 x → FitsSigned w64 y → of_z w64 x ≡ of_z w64 y → x ≡ y
same_bits x y f g e = sym (to_z-of_z w64 x f) ∙ ap (to_z w64) e ∙ to_z-of_z w64 y g
