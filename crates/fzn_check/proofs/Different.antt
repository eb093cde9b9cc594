-- Integers that were seen so far.
use Rattle.std.proofs.Common.{◌≡◌, ℕ, ℤ, ◌+◌, ◌<◌, ◌≤◌, ◌⊎◌, inl, inr, Bool, true, false, not, cond, List, length, slice_get, Some, refl, sym, ◌∙◌, ap, subst, arith}
use Rattle.std.proofs.Common.{Ordering}
use Rattle.std.specs.Ordering.{int_cmp, is_eq}
use Rattle.std.specs.declared.cmp.Ordering.TheVariants as orders
use Rattle.std.specs.Cmp.{int_cmp_is}
use Rattle.std.proofs.lemmas.Map.Lookups.{exact_signed}
use Rattle.std.proofs.lemmas.Option.{slice_get_within, same_Some}
use Rattle.fzn_check.specs.Shapes.{AreDifferent}

-- these are the first so many integers, and they are different
pub record AreSeen (zs : List ℤ) (k : ℕ) (has : ℤ → Bool) : Type 0 where
  pub found : (q : ℤ) → has q ≡ true → (j : ℕ) × (j < k) × (slice_get zs j ≡ Some q)
  pub all : (j : ℕ) (q : ℤ) → j < k → slice_get zs j ≡ Some q → has q ≡ true
  pub apart : (i j : ℕ) (q : ℤ) → i < k → j < k → slice_get zs i ≡ Some q → slice_get zs j ≡ Some q → i ≡ j

pub none_seen : (zs : List ℤ) (has : ℤ → Bool) → ((q : ℤ) → has q ≡ false) → AreSeen zs 0 has
none_seen zs has none = record {
  found = λ q e. let f = none q in absurd cc;
  all = λ j q lt at. absurd (omega (arith, lt));
  apart = λ i j q lt lt2 at at2. absurd (omega (arith, lt));
}

same_or_other : (i j : ℕ) → (i ≡ j) ⊎ (i ≡ j → ⊥)
same_or_other i j = grind arith

true_or_false : (b : Bool) → (b ≡ true) ⊎ (b ≡ false)
true_or_false true = inl refl
true_or_false false = inr refl

is_equal : (v q : ℤ) (r : Ordering) → int_cmp v q ≡ r → is_eq r ≡ true → v ≡ q
is_equal v q orders.Less is e = absurd cc
is_equal v q orders.Equal is e = exact_signed v q is
is_equal v q orders.Greater is e = absurd cc

is_self : (v : ℤ) → is_eq (int_cmp v v) ≡ true
is_self v = ap is_eq (sym (int_cmp_is v v orders.Equal refl))

always : (b : Bool) → cond b true true ≡ true
always true = refl
always false = refl

pub seen_again : (zs : List ℤ) (k : ℕ) (v : ℤ) (has : ℤ → Bool) → slice_get zs k ≡ Some v → AreSeen zs k has → has v ≡ true → AreDifferent zs → ⊥
seen_again zs k v has at s again different =
    let f = s.found v again in
    let same : f.0 ≡ k = different f.0 k v f.2 at in
    absurd (omega (arith, f.1, same))

pub seen_all : (zs : List ℤ) (k : ℕ) (has : ℤ → Bool) → length zs ≤ k → AreSeen zs k has → AreDifferent zs
seen_all zs k has whole s i j z at at2 = s.apart i j z (omega (arith, whole, slice_get_within zs i z at)) (omega (arith, whole, slice_get_within zs j z at2)) at at2

module _ (zs : List ℤ) (k : ℕ) (v : ℤ) (old new : ℤ → Bool) (at : slice_get zs k ≡ Some v) (s : AreSeen zs k old) (unseen : old v ≡ false) (more : (q : ℤ) → new q ≡ cond (is_eq (int_cmp v q)) true (old q)) where
  new_found : (q : ℤ) → new q ≡ true → (j : ℕ) × (j < k + 1) × (slice_get zs j ≡ Some q)
  new_found q e =
      elim (true_or_false (is_eq (int_cmp v q))) [
        | inl same ↦ (k, omega arith, at ∙ ap Some (is_equal v q (int_cmp v q) refl same))
        | inr other ↦ (
            let was : old q ≡ true = sym (more q ∙ ap (λ b. cond b true (old q)) other) ∙ e in
            let f = s.found q was in
            (f.0, omega (arith, f.1), f.2))
      ]

  here_same : (q : ℤ) (j : ℕ) → j ≡ k → slice_get zs j ≡ Some q → v ≡ q
  here_same q j same there = same_Some v q (sym at ∙ subst (λ i. slice_get zs i ≡ Some q) same there)

  new_all : (j : ℕ) (q : ℤ) → j < k + 1 → slice_get zs j ≡ Some q → new q ≡ true
  new_all j q lt there =
      elim (same_or_other j k) [
        | inl same ↦ subst (λ x. new x ≡ true) (here_same q j same there) (more v ∙ ap (λ b. cond b true (old v)) (is_self v))
        | inr apart ↦ more q ∙ ap (λ b. cond (is_eq (int_cmp v q)) true b) (s.all j q (omega (arith, lt, apart)) there) ∙ always (is_eq (int_cmp v q))
      ]

  not_before : (j : ℕ) (q : ℤ) → j < k → v ≡ q → slice_get zs j ≡ Some q → ⊥
  not_before j q lt is there =
      let was : old q ≡ true = s.all j q lt there in
      let never : old q ≡ false = subst (λ x. old x ≡ false) is unseen in
      absurd cc

  new_apart : (i j : ℕ) (q : ℤ) → i < k + 1 → j < k + 1 → slice_get zs i ≡ Some q → slice_get zs j ≡ Some q → i ≡ j
  new_apart i j q lt lt2 there there2 =
      elim (same_or_other i k) [
        | inl first ↦ elim (same_or_other j k) [
          | inl second ↦ first ∙ sym second
          | inr apart ↦ absurd (not_before j q (omega (arith, lt2, apart)) (here_same q i first there) there2)
        ]
        | inr before ↦ elim (same_or_other j k) [
          | inl second ↦ absurd (not_before i q (omega (arith, lt, before)) (here_same q j second there2) there)
          | inr apart ↦ s.apart i j q (omega (arith, lt, before)) (omega (arith, lt2, apart)) there there2
        ]
      ]

  pub seen_more : AreSeen zs (k + 1) new
  seen_more = record { found = new_found; all = new_all; apart = new_apart }

pub was_new : (b t : Bool) → b ≡ not t → (b ≡ false → ⊥) → t ≡ false
was_new b true is not_false = absurd (not_false is)
was_new b false is not_false = refl

pub was_there : (b t : Bool) → b ≡ not t → (b ≡ true → ⊥) → t ≡ true
was_there b true is not_true = refl
was_there b false is not_true = absurd (not_true is)
