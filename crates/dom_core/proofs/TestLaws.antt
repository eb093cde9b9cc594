-- Tests of integers and of truth values.
use Rattle.std.proofs.Common.{◌≡◌, Bool, true, false, not, ◌&&◌, ◌||◌, ℤ, ◌<ℤ◌, ◌≤ℤ◌, int_le, int_lt, refl, sym, arith, ◌⊎◌, inl, inr}
use Rattle.std.proofs.lemmas.Int.{ints}
use Rattle.std.specs.Ordering.{int_eq}
use Rattle.dom_core.proofs.RisesLaws.{int_eq_same}

pub le_true : (a b : ℤ) → int_le a b ≡ true → a ≤ℤ b
le_true a b h = grind (arith, ints)

pub true_le : (a b : ℤ) → a ≤ℤ b → int_le a b ≡ true
true_le a b h = grind (arith, ints)

pub false_le : (a b : ℤ) → b <ℤ a → int_le a b ≡ false
false_le a b h = grind (arith, ints)

pub le_false : (a b : ℤ) → int_le a b ≡ false → b <ℤ a
le_false a b h = grind (arith, ints)

pub true_lt : (a b : ℤ) → a <ℤ b → int_lt a b ≡ true
true_lt a b h = grind (arith, ints)

pub false_eq : (a b : ℤ) → (a ≡ b → ⊥) → int_eq a b ≡ false
false_eq a b h =
    let step : (t : Bool) → int_eq a b ≡ t → int_eq a b ≡ false =
    λ t. elim t as (λ t. int_eq a b ≡ t → int_eq a b ≡ false)
    [ true ↦ λ e. absurd (h (int_eq_same a b e)) | false ↦ λ e. e ] in
    step (int_eq a b) refl

pub not_true : (b : Bool) → not b ≡ true → b ≡ false
not_true true h = sym h
not_true false h = refl

pub not_false : (b : Bool) → (b ≡ true → ⊥) → not b ≡ true
not_false true h = absurd (h refl)
not_false false h = refl

pub and_first : (a b : Bool) → (a && b) ≡ true → a ≡ true
and_first true b h = refl
and_first false b h = h

pub and_second : (a b : Bool) → (a && b) ≡ true → b ≡ true
and_second true b h = h
and_second false b h = absurd (cc)

pub and_both : (a b : Bool) → a ≡ true → b ≡ true → (a && b) ≡ true
and_both true b h g = g
and_both false b h g = h

pub true_or_false : (b : Bool) → (b ≡ true) ⊎ (b ≡ false)
true_or_false true = inl refl
true_or_false false = inr refl

pub not_both : (b : Bool) → b ≡ true → b ≡ false → ⊥
not_both true h g = absurd (cc)
not_both false h g = absurd (cc)

-- where neither of two tests is to hold, both fail
pub neither : (a b : Bool) → (a || b) ≡ false → (a ≡ false) × (b ≡ false)
neither true b h = absurd (cc)
neither false b h = (refl, h)
