-- Integers that stand in order: which of them are all from the least to the greatest.
use Rattle.std.proofs.Common.{◌≡◌, Ordering, Less, Equal, Greater, false, ℕ, zero, suc, ◌+◌, ◌-◌, ◌<◌, ◌≤◌, List, length, get_or, ℤ, pos, ◌+ℤ◌, ◌≤ℤ◌, ◌<ℤ◌, inl, inr, ◌⊎◌, Option, Some, None, sym, ◌∙◌, subst, arith}
use Rattle.std.specs.List.{Contains}
use Rattle.std.specs.List.Sorted.{IsSorted, IsPermutation}
use Rattle.std.specs.Option.{MatchOption}
use Rattle.std.specs.Ordering.{int_cmp, is_lt, MatchOrdering}
use Rattle.std.specs.Cmp.{int_ranks}
use Rattle.std.proofs.lemmas.Bool.{cases_lt}
use Rattle.std.proofs.lemmas.Int.{ints}
use Rattle.std.proofs.lemmas.List.{get_or_default}
use Rattle.std.proofs.lemmas.List.Elements.{Contains-get_or}
use Rattle.std.proofs.lemmas.List.Sorted.{Contains-permutation, IsPermutation-sym}
use Rattle.dom_index_sets.specs.declared.index_set.IndexSet.{IndexSet}
use Rattle.fzn_output_marks.specs.Sets.{IsWhole}
use Rattle.fzn_output_marks.specs.Gaps.{IsGapless, IsNotWhole}

abbrev at : List ℤ → ℕ → ℤ
at ns k = get_or ns k (pos 0)

-- ---- order

ge_by : (x y : ℤ) (o : Ordering) → MatchOrdering o (x <ℤ y) (x ≡ y) (y <ℤ x) → is_lt o ≡ false → y ≤ℤ x
ge_by x y Less h e = absurd cc
ge_by x y Equal h e = omega (arith, ints)
ge_by x y Greater h e = omega (arith, ints)

step_up : (ns : List ℤ) (k : ℕ) → IsSorted int_cmp ns → k + 1 < length ns → at ns k ≤ℤ at ns (k + 1)
step_up ns k sorted lt = ge_by (at ns (k + 1)) (at ns k) (int_cmp (at ns (k + 1)) (at ns k)) (int_ranks (at ns (k + 1)) (at ns k)) (sorted k (pos 0) (omega arith) lt)

rise : (ns : List ℤ) (i n : ℕ) → IsSorted int_cmp ns → i + n < length ns → at ns i ≤ℤ at ns (i + n)
rise ns i zero sorted lt =
    let same : i ≡ i + 0 = omega arith in
    subst (λ j. at ns i ≤ℤ at ns j) same (omega (arith, ints))
rise ns i (suc n) sorted lt =
    let before : at ns i ≤ℤ at ns (i + n) = rise ns i n sorted (omega arith) in
    let step : at ns (i + n) ≤ℤ at ns (i + n + 1) = step_up ns (i + n) sorted (omega arith) in
    let same : i + n + 1 ≡ i + suc n = omega arith in
    subst (λ j. at ns i ≤ℤ at ns j) same (omega (arith, ints))

ordered : (ns : List ℤ) (i j : ℕ) → IsSorted int_cmp ns → i ≤ j → j < length ns → at ns i ≤ℤ at ns j
ordered ns i j sorted le lt =
    let same : i + (j - i) ≡ j = omega arith in
    subst (λ m. at ns i ≤ℤ at ns m) same (rise ns i (j - i) sorted (omega arith))

-- ---- places

place_of : (ns : List ℤ) (n : ℤ) → Contains ns n → (i : ℕ) × (i < length ns) × (at ns i ≡ n)
place_of ns n h = (h.0, h.1, get_or_default ns h.0 (pos 0) n h.1 ∙ h.2)

contains_at : (ns : List ℤ) (i : ℕ) → i < length ns → Contains ns (at ns i)
contains_at ns i lt = Contains-get_or ns i (pos 0) lt

-- ---- no gap

le_or_above_by : (x y : ℤ) (o : Ordering) → MatchOrdering o (x <ℤ y) (x ≡ y) (y <ℤ x) → (x ≤ℤ y) ⊎ (y <ℤ x)
le_or_above_by x y Less h = inl (omega (arith, ints))
le_or_above_by x y Equal h = inl (omega (arith, ints))
le_or_above_by x y Greater h = inr h

le_or_above : (x y : ℤ) → (x ≤ℤ y) ⊎ (y <ℤ x)
le_or_above x y = le_or_above_by x y (int_cmp x y) (int_ranks x y)

-- the value is found up to this place
found_to : (ns : List ℤ) (n : ℤ) (j : ℕ) → IsGapless ns → at ns 0 ≤ℤ n → n ≤ℤ at ns j → j < length ns → Contains ns n
found_to ns n zero gapless low high lt =
    let same : at ns 0 ≡ n = omega (arith, ints) in
    subst (Contains ns) same (contains_at ns 0 lt)
found_to ns n (suc j) gapless low high lt = elim (le_or_above n (at ns j)) [
  | inl below ↦ found_to ns n j gapless low below (omega arith)
  | inr above ↦ (let next : j + 1 ≡ suc j = omega arith in
      let step : at ns (suc j) ≤ℤ (at ns j +ℤ pos 1) = subst (λ m. at ns m ≤ℤ (at ns j +ℤ pos 1)) next (gapless j (omega arith)) in
      let same : at ns (suc j) ≡ n = omega (arith, ints) in
      subst (Contains ns) same (contains_at ns (suc j) lt))
]

-- what the list holds lies between its ends
within_ends : (ns : List ℤ) (n : ℤ) → IsSorted int_cmp ns → Contains ns n → (at ns 0 ≤ℤ n) × (n ≤ℤ at ns (length ns - 1))
within_ends ns n sorted there =
    let place = place_of ns n there in
    let low : at ns 0 ≤ℤ at ns place.0 = ordered ns 0 place.0 sorted (omega arith) place.1 in
    let high : at ns place.0 ≤ℤ at ns (length ns - 1) = ordered ns place.0 (length ns - 1) sorted (omega arith) (omega arith) in
    (subst (λ v. at ns 0 ≤ℤ v) place.2 low, subst (λ v. v ≤ℤ at ns (length ns - 1)) place.2 high)

pub whole : (ns : List ℤ) (s : IndexSet) → IsSorted int_cmp ns → IsGapless ns → 0 < length ns → at ns 0 ≡ s.lo → at ns (length ns - 1) ≡ s.hi → IsWhole ns s
whole ns s sorted gapless some lo hi =
    let end = length ns - 1 in
    let inside : (n : ℤ) → Contains ns n → (at ns 0 ≤ℤ n) × (n ≤ℤ at ns end) = λ n there. within_ends ns n sorted there in
    let order : at ns 0 ≤ℤ at ns end = ordered ns 0 end sorted (omega arith) (omega arith) in (
      subst (λ v. v ≤ℤ s.hi) lo (subst (λ v. at ns 0 ≤ℤ v) hi order),
      λ n. (
        (λ there. (subst (λ v. v ≤ℤ n) lo (inside n there).0, subst (λ v. n ≤ℤ v) hi (inside n there).1)),
        (λ between. found_to ns n end gapless (subst (λ v. v ≤ℤ n) (sym lo) between.0) (subst (λ v. n ≤ℤ v) (sym hi) between.1) (omega arith)),
      ),
    )

-- ---- a gap

-- behind a gap stands nothing that is missing before it
missing : (ns : List ℤ) (k : ℕ) → IsSorted int_cmp ns → k + 1 < length ns → (at ns k +ℤ pos 1) <ℤ at ns (k + 1) → Contains ns (at ns k +ℤ pos 1) → ⊥
missing ns k sorted lt gap there =
    let place = place_of ns (at ns k +ℤ pos 1) there in
    elim (cases_lt k place.0) [
      | inl past ↦ (let above : at ns (k + 1) ≤ℤ at ns place.0 = ordered ns (k + 1) place.0 sorted (omega arith) place.1 in
          absurd (omega (arith, ints, place.2)))
      | inr front ↦ (let below : at ns place.0 ≤ℤ at ns k = ordered ns place.0 k sorted front (omega arith) in
          absurd (omega (arith, ints, place.2)))
    ]

gap_not_whole : (ns : List ℤ) (k : ℕ) → IsSorted int_cmp ns → k + 1 < length ns → (at ns k +ℤ pos 1) <ℤ at ns (k + 1) → IsNotWhole ns
gap_not_whole ns k sorted lt gap s is =
    let low = (is.1 (at ns k)).0 (contains_at ns k (omega arith)) in
    let high = (is.1 (at ns (k + 1))).0 (contains_at ns (k + 1) lt) in
    let below : s.lo ≤ℤ (at ns k +ℤ pos 1) = omega (arith, ints, low.0) in
    let above : (at ns k +ℤ pos 1) ≤ℤ s.hi = omega (arith, ints, high.1) in
    missing ns k sorted lt gap ((is.1 (at ns k +ℤ pos 1)).1 (below, above))

-- a set that is whole has no gap
pub not_gapless : (ns : List ℤ) → IsSorted int_cmp ns → (IsGapless ns → ⊥) → IsNotWhole ns
not_gapless ns sorted gaps s is =
    gaps (λ k lt. elim (le_or_above (at ns (k + 1)) (at ns k +ℤ pos 1)) [ inl fine ↦ fine | inr gap ↦ absurd (gap_not_whole ns k sorted lt gap s is) ])

pub none_not_whole : (ns : List ℤ) → length ns ≡ 0 → IsNotWhole ns
none_not_whole ns none s is =
    let there = (is.1 s.lo).1 (omega (arith, ints), is.0) in
    absurd (omega (arith, there.1))

-- ---- another order

same_whole : (old new : List ℤ) (s : IndexSet) → IsPermutation old new → IsWhole new s → IsWhole old s
same_whole old new s moved is = (
  is.0,
  λ n. ((λ there. (is.1 n).0 (Contains-permutation old new n moved there)), (λ between. Contains-permutation new old n (IsPermutation-sym old new moved) ((is.1 n).1 between))),
)

-- ---- the answer

pub told : (old new : List ℤ) (r : Option IndexSet) → IsPermutation old new → MatchOption r (IsNotWhole new) (IsWhole new) → MatchOption r (IsNotWhole old) (IsWhole old)
told old new None moved h = λ s is. h s (same_whole new old s (IsPermutation-sym old new moved) is)
told old new (Some s) moved h = same_whole old new s moved h
