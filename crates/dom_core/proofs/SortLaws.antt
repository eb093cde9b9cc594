-- Sorted lists without repeats, and lists of integers in a row.
use Rattle.std.proofs.Common.{◌≡◌, ℕ, zero, suc, ◌+◌, ◌<◌, true, false, List, [], ◌∷◌, length, get_or, ℤ, pos, ◌+ℤ◌, ◌-ℤ◌, ◌<ℤ◌, ◌≤ℤ◌, refl, sym, ◌∙◌, ap, subst, arith, inl, inr, Less, IsPermutation, IsSorted, Contains, Result, Ok, Err}
use Rattle.std.proofs.lemmas.Int.{ints}
use Rattle.std.proofs.lemmas.Cmp.{int_cmp_total, int_eq_equiv}
use Rattle.std.proofs.lemmas.List.Kept.{IsStrictlySortedBy-dedup, Contains-dedup, Contains-from_dedup}
use Rattle.std.proofs.lemmas.List.Filters.{dedup_is}
use Rattle.std.proofs.lemmas.List.Sorted.{Contains-permutation, IsPermutation-sym}
use Rattle.std.specs.List.Sorted.{IsStrictlySortedBy}
use Rattle.std.specs.List.{dedup, AllByRecursion}
use Rattle.std.specs.List.Retain.{IsFiltered, DiffersFromLast}
use Rattle.std.specs.Ordering.{int_cmp, int_eq}
use Rattle.dom_core.specs.Rises.{is_among, Rises, first_of, last_of, last_after, count_from, count_of, range_of, IsSortedOf}
use Rattle.dom_core.specs.Domain.{IsOfValues}
use Rattle.dom_core.specs.declared.domain.DomainError.{DomainError}
use Rattle.dom_core.specs.declared.domain.DomainError.TheVariants.{Empty, TooLarge, Memory}
use Rattle.dom_core.proofs.RisesLaws.{same_test, int_eq_same, among_cases, among_head, among_read, count_is, first_is_read, last_is_read}

-- ---- members

pub contains_from_among : (xs : List ℤ) (x : ℤ) → is_among x xs ≡ true → Contains xs x
contains_from_among [] x h = absurd (cc)
contains_from_among (y ∷ ys) x h = elim (among_cases x y ys h) [
  | inl e ↦ (zero, omega arith, sym e)
  | inr later ↦ (let c : Contains ys x = contains_from_among ys x later in
      let lt : c.0 < length ys = c.1 in (suc c.0, omega arith, c.2))
]

pub among_from_contains : (xs : List ℤ) (x : ℤ) → Contains xs x → is_among x xs ≡ true
among_from_contains xs x c = subst (λ (y : ℤ). is_among y xs ≡ true) c.2 (among_read xs c.0 x c.1)

-- ---- a strictly sorted list rises

less_from_cmp : (x y : ℤ) → int_cmp x y ≡ Less → x <ℤ y
less_from_cmp x y h = grind (arith, ints)

all_above : (x : ℤ) (xs : List ℤ) → AllByRecursion (λ y. int_cmp x y ≡ Less) xs → (y : ℤ) → is_among y xs ≡ true → x <ℤ y
all_above x [] all y h = absurd (cc)
all_above x (z ∷ zs) all y h = elim (among_cases y z zs h) [
  | inl e ↦ subst (λ (w : ℤ). x <ℤ w) (sym e) (less_from_cmp x z all.0)
  | inr later ↦ all_above x zs all.1 y later
]

rises_from_sorted : (xs : List ℤ) → IsStrictlySortedBy int_cmp xs → Rises xs
unfolding IsStrictlySortedBy
rises_from_sorted [] s = tt
rises_from_sorted (x ∷ xs) s = (all_above x xs s.0, rises_from_sorted xs s.1)

-- what sorting a list and taking its repeats away leaves
pub sorted_is : (xs ys zs : List ℤ) → IsPermutation xs ys → IsSorted int_cmp ys → IsFiltered (DiffersFromLast int_eq) [] ys zs → IsSortedOf xs zs
sorted_is xs ys zs perm sorted filtered =
    let e : zs ≡ dedup int_eq ys = dedup_is int_eq ys zs filtered in
    let strict : IsStrictlySortedBy int_cmp (dedup int_eq ys) = IsStrictlySortedBy-dedup int_cmp_total (λ x y. refl) ys sorted in
    subst (IsSortedOf xs) (sym e) (record {
      rises = rises_from_sorted (dedup int_eq ys) strict;
      same = λ x. same_test _ _
          (λ h. among_from_contains xs x (Contains-permutation ys xs x (IsPermutation-sym xs ys perm)
          (Contains-from_dedup int_eq ys x (contains_from_among (dedup int_eq ys) x h))))
          (λ h. among_from_contains (dedup int_eq ys) x (Contains-dedup int_eq_equiv int_eq_same ys x
          (Contains-permutation xs ys x perm (contains_from_among xs x h))));
    })

-- ---- integers in a row

-- the last of rising values lies beyond the first by their number at least
pub last_far : (x : ℤ) (xs : List ℤ) → Rises (x ∷ xs) → (x +ℤ pos (length xs)) ≤ℤ last_after x xs
last_far x [] r = omega (arith, ints)
last_far x (y ∷ ys) r =
    let up : x <ℤ y = r.0 y (among_head y ys) in
    let far : (y +ℤ pos (length ys)) ≤ℤ last_after y ys = last_far y ys r.1 in
    omega (arith, ints)

pub row_from : (x : ℤ) (xs : List ℤ) → Rises (x ∷ xs) → last_after x xs ≡ (x +ℤ pos (length xs)) → (x ∷ xs) ≡ count_from x (suc (length xs))
row_from x [] r e = refl
row_from x (y ∷ ys) r e =
    let up : x <ℤ y = r.0 y (among_head y ys) in
    let far : (y +ℤ pos (length ys)) ≤ℤ last_after y ys = last_far y ys r.1 in
    let next : y ≡ (x +ℤ pos 1) = omega (arith, ints) in
    let rest : (y ∷ ys) ≡ count_from y (suc (length ys)) = row_from y ys r.1 (omega (arith, ints)) in
    ap (λ (zs : List ℤ). x ∷ zs) (rest ∙ ap (λ (z : ℤ). count_from z (suc (length ys))) next)

-- rising values whose ends lie as far apart as their number says are all integers between the ends
pub range_from_ends : (xs : List ℤ) → Rises xs → 0 < length xs → (last_of xs +ℤ pos 1) ≡ (first_of xs +ℤ pos (length xs)) → range_of (first_of xs) (last_of xs) ≡ xs
range_from_ends [] r some e = absurd (omega arith)
range_from_ends (x ∷ xs) r some e =
    let row : (x ∷ xs) ≡ count_from x (suc (length xs)) = row_from x xs r (omega (arith, ints)) in
    let ends : x ≤ℤ last_after x xs = omega (arith, ints) in
    let is : (x +ℤ pos (count_of x (last_after x xs))) ≡ (last_after x xs +ℤ pos 1) = count_is x (last_after x xs) ends in
    let same : count_of x (last_after x xs) ≡ suc (length xs) = omega (arith, ints) in
    ap (count_from x) same ∙ sym row

-- the same, with the ends as they are read
pub range_from_read : (xs : List ℤ) (lo hi : ℤ) (n : ℕ) → Rises xs → 0 < length xs → lo ≡ get_or xs 0 lo → n + 1 ≡ length xs → hi ≡ get_or xs n hi
    → ((hi -ℤ lo) +ℤ pos 1) ≡ pos (length xs) → range_of lo hi ≡ xs
range_from_read xs lo hi n r some first at last e =
    let low : first_of xs ≡ lo = first_is_read xs lo some ∙ sym first in
    let high : last_of xs ≡ hi = last_is_read xs hi n at ∙ sym last in
    let apart : (last_of xs +ℤ pos 1) ≡ (first_of xs +ℤ pos (length xs)) = rw (low, high) (omega (arith, ints)) in
    rw (← low, ← high) (range_from_ends xs r some apart)

-- ---- answers that tell of the values alone

none_among : (xs : List ℤ) → ((x : ℤ) → is_among x [] ≡ is_among x xs) → xs ≡ []
none_among [] h = refl
none_among (x ∷ xs) h = absurd (let e : false ≡ true = h x ∙ among_head x xs in cc)

sorted-chain : (xs ys zs : List ℤ) → IsSortedOf xs ys → IsSortedOf ys zs → IsSortedOf xs zs
sorted-chain xs ys zs s t = record { rises = t.rises; same = λ x. t.same x ∙ s.same x }

-- what is answered for a sorted list is answered for each list with its values
pub answer_of_sorted : (xs ys : List ℤ) (r : Result (List ℤ) DomainError) → IsSortedOf xs ys → IsOfValues ys r → IsOfValues xs r
answer_of_sorted xs ys (Ok d) s h = (h.0, sorted-chain xs ys d s h.1)
answer_of_sorted xs ys (Err Empty) s h = none_among xs (λ x. ap (λ (l : List ℤ). is_among x l) (sym h) ∙ s.same x)
answer_of_sorted xs ys (Err (TooLarge count)) s h =
    (h.0, record { values = h.1.values; sorted = sorted-chain xs ys h.1.values s h.1.sorted; length = h.1.length })
answer_of_sorted xs ys (Err Memory) s h = tt
