-- The first constraint at fault.
use Rattle.std.proofs.Common.{◌≡◌, ℕ, ◌+◌, ◌<◌, ◌≤◌, ◌⊎◌, inl, inr, List, length, get_or, slice_get, Some, refl, sym, ◌∙◌, ap, subst, arith}
use Rattle.std.proofs.lemmas.Option.{slice_get_within, slice_get_read, same_Some}
use Rattle.fzn_syntax.specs.declared.constraint.Constraint.{Constraint}
use Rattle.fzn_syntax.specs.declared.declaration.Declaration.{Declaration}
use Rattle.fzn_check.specs.declared.fault.Fault.{Fault}
use Rattle.fzn_check.specs.declared.fault.Fault.TheVariants.{FloatOrSet, IllTyped}
use Rattle.fzn_check.specs.ConstraintFaults.{IsFaultOf, IsFaultAt, IsFineBefore, IsFine, IsFirstFault, HaveOneFirst}

same_or_other : (i j : ℕ) → (i ≡ j) ⊎ (i ≡ j → ⊥)
same_or_other i j = grind arith

module _ (ds : List Declaration) (cs : List Constraint) where
  pub fine_more : (k : ℕ) (c : Constraint) → slice_get cs k ≡ Some c → IsFineBefore ds cs k → ((f : Fault) → IsFaultOf ds c f → ⊥) → IsFineBefore ds cs (k + 1)
  fine_more k c at before fine j f lt h =
      elim (same_or_other j k) [
        | inl same ↦ (
            let there : slice_get cs k ≡ Some h.0 = subst (λ i. slice_get cs i ≡ Some h.0) same h.1 in
            fine f (subst (λ x. IsFaultOf ds x f) (same_Some h.0 c (sym there ∙ at)) h.2))
        | inr apart ↦ before j f (omega (arith, lt, apart)) h
      ]

  pub first_here : (k : ℕ) (c : Constraint) (f : Fault) → slice_get cs k ≡ Some c → IsFineBefore ds cs k → IsFaultOf ds c f → IsFirstFault ds cs f
  first_here k c f at before is = (k, (c, at, is), before)

  pub all_fine : (k : ℕ) → length cs ≤ k → IsFineBefore ds cs k → IsFine ds cs
  all_fine k all before j f h = before j f (omega (arith, all, slice_get_within cs j h.0 h.1)) h

  one_of : (c : Constraint) (f g : Fault) → IsFaultOf ds c f → IsFaultOf ds c g → f ≡ g
  one_of c (FloatOrSet at) (FloatOrSet b) h g = ap FloatOrSet (h.1 ∙ sym g.1)
  one_of c (FloatOrSet at) (IllTyped b) h g = absurd (g.0 h.0)
  one_of c (IllTyped at) (FloatOrSet b) h g = absurd (h.0 g.0)
  one_of c (IllTyped at) (IllTyped b) h g = ap IllTyped (h.2 ∙ sym g.2)

  pub one_fault : (f g : Fault) → IsFirstFault ds cs f → IsFirstFault ds cs g → f ≡ g
  one_fault f g h k =
      let not_before : h.0 < k.0 → ⊥ = λ lt. k.2 h.0 f lt h.1 in
      let not_behind : k.0 < h.0 → ⊥ = λ lt. h.2 k.0 g lt k.1 in
      let place : k.0 ≡ h.0 = omega (arith, not_before, not_behind) in
      let there : slice_get cs h.0 ≡ Some k.1.0 = subst (λ i. slice_get cs i ≡ Some k.1.0) place k.1.1 in
      one_of h.1.0 f g h.1.2 (subst (λ x. IsFaultOf ds x g) (same_Some k.1.0 h.1.0 (sym there ∙ h.1.1)) k.1.2)

pub constraint_at : (cs : List Constraint) (i : ℕ) (c : Constraint) → i < length cs → c ≡ get_or cs i c → slice_get cs i ≡ Some c
constraint_at cs i c lt is = slice_get_read cs (length cs) i c refl lt is
