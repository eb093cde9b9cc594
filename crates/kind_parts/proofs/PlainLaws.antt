-- Plain forms of sets.
use Rattle.std.proofs.Common.{◌≡◌, ◌&&◌, ◌||◌, ℕ, ◌<◌, ◌+◌, Bool, true, false, List, [], ◌∷◌, length, get_or, ℤ, pos, ◌+ℤ◌, ◌-ℤ◌, ◌<ℤ◌, ◌≤ℤ◌, int_le, refl, sym, ◌∙◌, ap, arith, inl, inr}
use Rattle.std.proofs.lemmas.Int.{ints}
use Rattle.std.specs.Ordering.{int_eq}
use Rattle.dom_core.specs.Rises.{is_among, Rises, first_of, last_of, last_after, range_of}
use Rattle.dom_core.specs.declared.set.Set.{Set}
use Rattle.dom_core.specs.declared.set.Set.TheVariants.{Range, Values}
use Rattle.dom_core.proofs.RisesLaws.{int_eq_same, int_eq_from, among_head, among_tail, first_least, first_is_read, last_is_read, range-among, range_ends}
use Rattle.dom_core.proofs.SortLaws.{range_from_ends}
use Rattle.dom_core.proofs.TestLaws.{true_or_false, not_both, false_eq}
use Rattle.kind_parts.specs.Set.{IsPlain, IsPlainOf, HasGap, IsEmptyOrGappy}

pub plain_itself : (s : Set) → IsPlain s → IsPlainOf s s
plain_itself s p = record { same = λ x. refl; form = p }

not_between : (lo hi x : ℤ) → hi <ℤ lo → (int_le lo x && int_le x hi) ≡ false
not_between lo hi x h = grind (arith, ints)

-- a range whose ends are turned has no value
pub plain_empty : (lo hi : ℤ) → hi <ℤ lo → IsPlainOf (Range lo hi) (Values [])
plain_empty lo hi h = record {
  same = λ x. sym (not_between lo hi x h);
  form = (tt, tt);
}

-- rising values without a gap are a range
pub plain_row : (xs : List ℤ) (lo hi : ℤ) (n : ℕ) → Rises xs → 0 < length xs → lo ≡ get_or xs 0 (pos 0) → n + 1 ≡ length xs
    → hi ≡ get_or xs n (pos 0) → ((hi -ℤ lo) +ℤ pos 1) ≡ pos (length xs) → IsPlainOf (Values xs) (Range lo hi)
plain_row xs lo hi n r some first at last apart =
    let low : first_of xs ≡ lo = first_is_read xs (pos 0) some ∙ sym first in
    let high : last_of xs ≡ hi = last_is_read xs (pos 0) n at ∙ sym last in
    let far : (last_of xs +ℤ pos 1) ≡ (first_of xs +ℤ pos (length xs)) = rw (low, high) (omega (arith, ints)) in
    let e : range_of lo hi ≡ xs = rw (← low, ← high) (range_from_ends xs r some far) in
    record {
      same = λ x. sym (range-among lo hi x) ∙ ap (is_among x) e;
      form = range_ends lo hi (let m : length (range_of lo hi) ≡ length xs = ap length e in omega arith);
    }

-- ---- gaps

not_in : (v x : ℤ) (xs : List ℤ) → (v ≡ x → ⊥) → is_among v xs ≡ false → is_among v (x ∷ xs) ≡ false
not_in v x xs n h = ap (λ (b : Bool). b || is_among v xs) (false_eq v x n) ∙ h

below_all : (v x : ℤ) (xs : List ℤ) → Rises (x ∷ xs) → v <ℤ x → is_among v (x ∷ xs) ≡ false
below_all v x xs r h =
    let step : (b : Bool) → is_among v (x ∷ xs) ≡ b → is_among v (x ∷ xs) ≡ false =
    λ b. elim b as (λ b. is_among v (x ∷ xs) ≡ b → is_among v (x ∷ xs) ≡ false) [
      | true ↦ λ t. (let least : x ≤ℤ v = first_least (x ∷ xs) v r t in absurd (omega (arith, ints)))
      | false ↦ λ e. e
    ] in
    step (is_among v (x ∷ xs)) refl

next_below : (x y : ℤ) → x <ℤ y → ((x +ℤ pos 1) ≡ y → ⊥) → (x +ℤ pos 1) <ℤ y
next_below x y h n = elim (true_or_false (int_eq (x +ℤ pos 1) y)) [
  | inl same ↦ absurd (n (int_eq_same (x +ℤ pos 1) y same))
  | inr other ↦ grind (arith, ints)
]

gap_later : (x : ℤ) (xs : List ℤ) → Rises (x ∷ xs) → HasGap xs → HasGap (x ∷ xs)
gap_later x xs r g =
    let up : x <ℤ g.low = r.0 g.low g.has_low in
    let above : g.low <ℤ g.gap = g.above in
    record {
      low = g.low;
      gap = g.gap;
      high = g.high;
      has_low = among_tail g.low x xs g.has_low;
      has_high = among_tail g.high x xs g.has_high;
      above = g.above;
      below = g.below;
      missing = not_in g.gap x xs (λ e. absurd (omega (arith, ints))) g.missing;
    }

-- the integer after the first value is missing
gap_here : (x y : ℤ) (ys : List ℤ) → Rises (x ∷ (y ∷ ys)) → (x +ℤ pos 1) <ℤ y → HasGap (x ∷ (y ∷ ys))
gap_here x y ys r far =
    record {
      low = x;
      gap = x +ℤ pos 1;
      high = y;
      has_low = among_head x (y ∷ ys);
      has_high = among_tail y x (y ∷ ys) (among_head y ys);
      above = omega (arith, ints);
      below = far;
      missing = not_in (x +ℤ pos 1) x (y ∷ ys) (λ e. absurd (omega (arith, ints))) (below_all (x +ℤ pos 1) y ys r.1 far);
    }

-- rising values whose ends lie farther apart than their number says have a gap
pub gap_from_ends : (x : ℤ) (xs : List ℤ) → Rises (x ∷ xs) → ((x +ℤ pos (length xs)) ≡ last_after x xs → ⊥) → HasGap (x ∷ xs)
gap_from_ends x [] r n = absurd (n (omega (arith, ints)))
gap_from_ends x (y ∷ ys) r n =
    let up : x <ℤ y = r.0 y (among_head y ys) in
    elim (true_or_false (int_eq (x +ℤ pos 1) y)) [
      | inl next ↦ (let e : (x +ℤ pos 1) ≡ y = int_eq_same (x +ℤ pos 1) y next in
          gap_later x (y ∷ ys) r (gap_from_ends y ys r.1 (λ s. n (let m : (x +ℤ pos (length (y ∷ ys))) ≡ (y +ℤ pos (length ys)) = omega (arith, ints) in m ∙ s))))
      | inr far ↦ gap_here x y ys r (next_below x y up (λ s. not_both (int_eq (x +ℤ pos 1) y) (int_eq_from (x +ℤ pos 1) y s) far))
    ]

-- the same, with the ends as they are read
pub gap_from_read : (xs : List ℤ) (lo hi : ℤ) (n : ℕ) → Rises xs → lo ≡ get_or xs 0 (pos 0) → n + 1 ≡ length xs → hi ≡ get_or xs n (pos 0)
    → (((hi -ℤ lo) +ℤ pos 1) ≡ pos (length xs) → ⊥) → IsEmptyOrGappy xs
gap_from_read [] lo hi n r first at last apart = tt
gap_from_read (x ∷ xs) lo hi n r first at last apart =
    let low : x ≡ lo = sym first in
    let high : last_after x xs ≡ hi = last_is_read (x ∷ xs) (pos 0) n at ∙ sym last in
    gap_from_ends x xs r (λ s. apart (omega (arith, ints)))
