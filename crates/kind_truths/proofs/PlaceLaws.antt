-- Tests of operands by their places.
use Rattle.std.proofs.Common.{◌≡◌, nat_eq, sym, ◌⊎◌, inl, inr, ℕ, zero, suc, ◌<◌, ◌≤◌, Bool, true, false, ◌&&◌, ◌||◌, List, [], ◌∷◌, length, get_or, refl, ◌∙◌, ap, arith}
use Rattle.std.specs.List.{list_any, list_all}
use Rattle.dom_core.specs.Ends.{Ends}
use Rattle.dom_core.specs.declared.arg.Arg.TheVariants.{Var}
use Rattle.dom_core.specs.declared.var_id.VarId.{VarId}
use Rattle.dom_core.proofs.RisesLaws.{or_left, or_right}
use Rattle.dom_core.proofs.TestLaws.{neither, and_first, and_second, and_both}
use Rattle.kind_law.specs.Argument.{ArgHas}
use Rattle.kind_law.specs.Laws.{Each}
use Rattle.kind_truths.specs.Operand.{operand_vars, operand_refuted}
use Rattle.kind_truths.specs.OperandLaws.{EachOperand, of_vars}
use Rattle.kind_truths.specs.Plan.{IsFirstLeft}
use Rattle.kind_truths.specs.declared.operand.Operand.{Operand}

-- what reads beyond the operands gives
abbrev pub none : Operand
none = record { arg = Var (record { 0 = 0 }); negated = false }

each_place : (P : Operand → Type 0) (os : List Operand) (i : ℕ) (d : Operand) → i < length os → EachOperand P os → P (get_or os i d)
each_place P [] i d lt h = absurd (omega arith)
each_place P (o ∷ os) zero d lt h = h.0
each_place P (o ∷ os) (suc i) d lt h = each_place P os i d (omega arith) h.1

-- what holds of the variables holds of the argument at a place
pub place_has : (P : VarId → Type 0) (os : List Operand) (i : ℕ) (d : Operand) → i < length os → Each P (operand_vars os) → ArgHas P (get_or os i d).arg
place_has P os i d lt h = each_place (λ o. ArgHas P o.arg) os i d lt (of_vars P os h)

and_false : (b : Bool) → (b && false) ≡ false
and_false true = refl
and_false false = refl

and_true : (b : Bool) → (b && true) ≡ b
and_true true = refl
and_true false = refl

or_false : (b : Bool) → (b || false) ≡ b
or_false true = refl
or_false false = refl

module _ (f : Operand → Bool) (d : Operand) where
  pub all_places : (os : List Operand) → ((i : ℕ) → i < length os → f (get_or os i d) ≡ true) → list_all f os ≡ true
  all_places [] h = refl
  all_places (o ∷ os) h = and_both (f o) (list_all f os) (h 0 (omega arith)) (all_places os (λ i lt. h (suc i) (omega arith)))

  pub not_all : (os : List Operand) (i : ℕ) → i < length os → f (get_or os i d) ≡ false → list_all f os ≡ false
  not_all [] i lt h = absurd (omega arith)
  not_all (o ∷ os) zero lt h = ap (λ (b : Bool). b && list_all f os) h
  not_all (o ∷ os) (suc i) lt h = ap (λ (b : Bool). f o && b) (not_all os i (omega arith) h) ∙ and_false (f o)

  pub some_place : (os : List Operand) (i : ℕ) → i < length os → f (get_or os i d) ≡ true → list_any f os ≡ true
  some_place [] i lt h = absurd (omega arith)
  some_place (o ∷ os) zero lt h = or_left (f o) (list_any f os) h
  some_place (o ∷ os) (suc i) lt h = or_right (f o) (list_any f os) (some_place os i (omega arith) h)

  pub no_place : (os : List Operand) → ((i : ℕ) → i < length os → f (get_or os i d) ≡ false) → list_any f os ≡ false
  no_place [] h = refl
  no_place (o ∷ os) h = ap (λ (b : Bool). b || list_any f os) (h 0 (omega arith)) ∙ no_place os (λ i lt. h (suc i) (omega arith))

  pub none_at : (os : List Operand) (i : ℕ) → i < length os → list_any f os ≡ false → f (get_or os i d) ≡ false
  none_at [] i lt h = absurd (omega arith)
  none_at (o ∷ os) zero lt h = (neither (f o) (list_any f os) h).0
  none_at (o ∷ os) (suc i) lt h = none_at os i (omega arith) (neither (f o) (list_any f os) h).1

  pub all_at : (os : List Operand) (i : ℕ) → i < length os → list_all f os ≡ true → f (get_or os i d) ≡ true
  all_at [] i lt h = absurd (omega arith)
  all_at (o ∷ os) zero lt h = and_first (f o) (list_all f os) h
  all_at (o ∷ os) (suc i) lt h = all_at os i (omega arith) (and_second (f o) (list_all f os) h)

  -- where all others pass, one decides
  pub all_but : (os : List Operand) (p : ℕ) → p < length os → ((i : ℕ) → i < length os → (i ≡ p → ⊥) → f (get_or os i d) ≡ true) → list_all f os ≡ f (get_or os p d)
  all_but [] p lt h = absurd (omega arith)
  all_but (o ∷ os) zero lt h = ap (λ (b : Bool). f o && b) (all_places os (λ i l. h (suc i) (omega arith) (λ e. absurd (omega arith)))) ∙ and_true (f o)
  all_but (o ∷ os) (suc p) lt h =
      ap (λ (b : Bool). b && list_all f os) (h 0 (omega arith) (λ e. absurd (omega arith)))
      ∙ all_but os p (omega arith) (λ i l n. h (suc i) (omega arith) (λ e. n (omega arith)))

  -- where no other passes, one decides
  pub any_but : (os : List Operand) (p : ℕ) → p < length os → ((i : ℕ) → i < length os → (i ≡ p → ⊥) → f (get_or os i d) ≡ false) → list_any f os ≡ f (get_or os p d)
  any_but [] p lt h = absurd (omega arith)
  any_but (o ∷ os) zero lt h = ap (λ (b : Bool). f o || b) (no_place os (λ i l. h (suc i) (omega arith) (λ e. absurd (omega arith)))) ∙ or_false (f o)
  any_but (o ∷ os) (suc p) lt h =
      ap (λ (b : Bool). b || list_any f os) (h 0 (omega arith) (λ e. absurd (omega arith)))
      ∙ any_but os p (omega arith) (λ i l n. h (suc i) (omega arith) (λ e. n (omega arith)))

module _ (f g : Operand → Bool) (d : Operand) where
  pub same_any : (os : List Operand) → ((i : ℕ) → i < length os → f (get_or os i d) ≡ g (get_or os i d)) → list_any f os ≡ list_any g os
  same_any [] h = refl
  same_any (o ∷ os) h = ap (λ (b : Bool). b || list_any f os) (h 0 (omega arith)) ∙ ap (λ (b : Bool). g o || b) (same_any os (λ i lt. h (suc i) (omega arith)))

  pub same_all : (os : List Operand) → ((i : ℕ) → i < length os → f (get_or os i d) ≡ g (get_or os i d)) → list_all f os ≡ list_all g os
  same_all [] h = refl
  same_all (o ∷ os) h = ap (λ (b : Bool). b && list_all f os) (h 0 (omega arith)) ∙ ap (λ (b : Bool). g o && b) (same_all os (λ i lt. h (suc i) (omega arith)))

-- ---- what a search finds

at_end_or_before : (p n : ℕ) → p ≤ n → (p ≡ n) ⊎ (p < n)
at_end_or_before p n h = grind arith

pub left_all : (s : ℕ → Ends) (os : List Operand) (p : ℕ) → IsFirstLeft s os 0 p → nat_eq p (length os) ≡ list_all (operand_refuted s) os
left_all s os p h =
    elim (at_end_or_before p (length os) h.within) [
      | inl end ↦ grind arith ∙ sym (all_places (operand_refuted s) none os (λ i lt. h.before i (omega arith) (omega arith)))
      | inr left ↦ grind arith ∙ sym (not_all (operand_refuted s) none os p left (h.here left))
    ]
