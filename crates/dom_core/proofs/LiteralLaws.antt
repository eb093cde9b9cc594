-- What a literal says of a value.
use Rattle.std.proofs.Common.{◌≡◌, Bool, true, false, not, ℤ, pos, ◌+ℤ◌, ◌-ℤ◌, ◌<ℤ◌, ◌≤ℤ◌, int_le, refl, sym, ◌∙◌, ap, arith, inl, inr}
use Rattle.std.proofs.lemmas.Int.{ints}
use Rattle.std.specs.Ordering.{int_eq}
use Rattle.dom_core.specs.Literal.{is_related, holds_at, opposite, opposite_value, negation, is_end}
use Rattle.dom_core.specs.declared.literal.Literal.{Literal}
use Rattle.dom_core.specs.declared.literal.Rel.{Rel}
use Rattle.dom_core.specs.declared.literal.Rel.TheVariants.{Le, Ge, Eq, Ne}
use Rattle.dom_core.proofs.RisesLaws.{int_eq_same, int_eq_from}
use Rattle.dom_core.proofs.TestLaws.{le_true, true_le, le_false, false_le, false_eq, not_true, not_both, true_or_false}

pub le_holds : (l : Literal) (x : ℤ) → l.rel ≡ Le → holds_at l x ≡ true → x ≤ℤ l.value
le_holds l x e h = le_true x l.value (sym (ap (λ r. is_related r x l.value) e) ∙ h)

pub holds_le : (l : Literal) (x : ℤ) → l.rel ≡ Le → x ≤ℤ l.value → holds_at l x ≡ true
holds_le l x e h = ap (λ r. is_related r x l.value) e ∙ true_le x l.value h

pub fails_le : (l : Literal) (x : ℤ) → l.rel ≡ Le → l.value <ℤ x → holds_at l x ≡ false
fails_le l x e h = ap (λ r. is_related r x l.value) e ∙ false_le x l.value h

pub ge_holds : (l : Literal) (x : ℤ) → l.rel ≡ Ge → holds_at l x ≡ true → l.value ≤ℤ x
ge_holds l x e h = le_true l.value x (sym (ap (λ r. is_related r x l.value) e) ∙ h)

pub holds_ge : (l : Literal) (x : ℤ) → l.rel ≡ Ge → l.value ≤ℤ x → holds_at l x ≡ true
holds_ge l x e h = ap (λ r. is_related r x l.value) e ∙ true_le l.value x h

pub fails_ge : (l : Literal) (x : ℤ) → l.rel ≡ Ge → x <ℤ l.value → holds_at l x ≡ false
fails_ge l x e h = ap (λ r. is_related r x l.value) e ∙ false_le l.value x h

pub eq_holds : (l : Literal) (x : ℤ) → l.rel ≡ Eq → holds_at l x ≡ true → x ≡ l.value
eq_holds l x e h = int_eq_same x l.value (sym (ap (λ r. is_related r x l.value) e) ∙ h)

pub holds_eq : (l : Literal) (x : ℤ) → l.rel ≡ Eq → x ≡ l.value → holds_at l x ≡ true
holds_eq l x e h = ap (λ r. is_related r x l.value) e ∙ int_eq_from x l.value h

pub fails_eq : (l : Literal) (x : ℤ) → l.rel ≡ Eq → (x ≡ l.value → ⊥) → holds_at l x ≡ false
fails_eq l x e h = ap (λ r. is_related r x l.value) e ∙ false_eq x l.value h

pub ne_holds : (l : Literal) (x : ℤ) → l.rel ≡ Ne → holds_at l x ≡ true → x ≡ l.value → ⊥
ne_holds l x e h same =
    not_both (int_eq x l.value) (int_eq_from x l.value same)
    (not_true (int_eq x l.value) (sym (ap (λ r. is_related r x l.value) e) ∙ h))

pub holds_ne : (l : Literal) (x : ℤ) → l.rel ≡ Ne → (x ≡ l.value → ⊥) → holds_at l x ≡ true
holds_ne l x e h = ap (λ r. is_related r x l.value) e ∙ ap not (false_eq x l.value h)

pub fails_ne : (l : Literal) (x : ℤ) → l.rel ≡ Ne → x ≡ l.value → holds_at l x ≡ false
fails_ne l x e h = ap (λ r. is_related r x l.value) e ∙ ap not (int_eq_from x l.value h)

-- ---- negations

double : (b : Bool) → b ≡ not (not b)
double true = refl
double false = refl

opposite_related : (r : Rel) (x v : ℤ) → is_related (opposite r) x (opposite_value r v) ≡ not (is_related r x v)
opposite_related Le x v = elim (true_or_false (int_le x v)) [
  | inl h ↦ (let le : x ≤ℤ v = le_true x v h in false_le (v +ℤ pos 1) x (omega (arith, ints)) ∙ ap not (sym h))
  | inr h ↦ (let lt : v <ℤ x = le_false x v h in true_le (v +ℤ pos 1) x (omega (arith, ints)) ∙ ap not (sym h))
]
opposite_related Ge x v = elim (true_or_false (int_le v x)) [
  | inl h ↦ (let le : v ≤ℤ x = le_true v x h in false_le x (v -ℤ pos 1) (omega (arith, ints)) ∙ ap not (sym h))
  | inr h ↦ (let lt : x <ℤ v = le_false v x h in true_le x (v -ℤ pos 1) (omega (arith, ints)) ∙ ap not (sym h))
]
opposite_related Eq x v = refl
opposite_related Ne x v = double (int_eq x v)

-- the negation holds exactly where the literal doesn't
pub negation_holds : (l : Literal) (x : ℤ) → holds_at (negation l) x ≡ not (holds_at l x)
negation_holds l x = opposite_related l.rel x l.value

pub end_negation : (r : Rel) → is_end r ≡ true → is_end (opposite r) ≡ true
end_negation Le e = refl
end_negation Ge e = refl
end_negation Eq e = e
end_negation Ne e = e

opposite_twice : (r : Rel) → opposite (opposite r) ≡ r
opposite_twice Le = refl
opposite_twice Ge = refl
opposite_twice Eq = refl
opposite_twice Ne = refl

value_twice : (r : Rel) (v : ℤ) → opposite_value (opposite r) (opposite_value r v) ≡ v
value_twice Le v = omega (arith, ints)
value_twice Ge v = omega (arith, ints)
value_twice Eq v = refl
value_twice Ne v = refl

-- a literal is the negation of its negation
pub negation_twice : (l : Literal) → negation (negation l) ≡ l
negation_twice l =
    ap (λ (r : Rel). let k : Literal = record { var = l.var; rel = r; value = opposite_value (opposite l.rel) (opposite_value l.rel l.value) } in k) (opposite_twice l.rel)
    ∙ ap (λ (v : ℤ). let k : Literal = record { var = l.var; rel = l.rel; value = v } in k) (value_twice l.rel l.value)
