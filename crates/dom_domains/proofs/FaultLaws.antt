-- A variable has one fault at most, and so has a list of variables a first one.
use Rattle.std.proofs.Common.{◌≡◌, ◌<◌, ℕ, ℤ, List, [], length, Option, Some, None, refl, sym, ◌∙◌, ap, subst, arith, inl, inr}
use Rattle.std.proofs.lemmas.Bool.{cases_order}
use Rattle.std.proofs.lemmas.Option.{same_Some}
use Rattle.dom_core.specs.declared.var_id.VarId.{VarId}
use Rattle.dom_definers.specs.Definers.{definer_at}
use Rattle.dom_definers.specs.declared.form.Declared.{Declared}
use Rattle.dom_definers.specs.declared.form.Declared.TheVariants.{Any, Range, Values}
use Rattle.dom_definers.specs.declared.form.Form.{Form}
use Rattle.dom_definers.specs.declared.form.Form.TheVariants.{Bool as Truths, Int}
use Rattle.dom_definers.specs.declared.variable.Variable.{Variable}
use Rattle.dom_domains.specs.Allowed.{form_values}
use Rattle.dom_domains.specs.Faults.{IsDefinedFault, IsFaultAt, IsFaultBy, IsFirstFault, IsFreeFault, IsOpen}
use Rattle.dom_domains.specs.declared.fault.DomainFault.{DomainFault}
use Rattle.dom_domains.specs.declared.fault.DomainFault.TheVariants.{Empty, Unbounded, TooLarge, Memory}

-- where nothing is declared, no values are told
open_none : (f : Form) (d : Declared) → IsOpen f d → form_values f d ≡ []
open_none Truths d h = absurd h
open_none Int Any h = refl
open_none Int (Range lo hi) h = absurd h
open_none Int (Values xs) h = absurd h

few_values : (xs : List ℤ) (count : ℕ) → xs ≡ [] → 4096 < count → count ≡ length xs → ⊥
few_values xs count none many same = let zero : length xs ≡ 0 = ap (λ (ys : List ℤ). length ys) none in omega (arith, zero, many, same)

same_free : (v : Variable) (x : VarId) (f g : DomainFault) → IsFreeFault v x f → IsFreeFault v x g → f ≡ g
same_free v x Memory g p q = absurd p
same_free v x (Empty y) Memory p q = absurd q
same_free v x (Empty y) (Empty z) p q = ap (λ (w : VarId). Empty w) (p.0 ∙ sym q.0)
same_free v x (Empty y) (Unbounded z) p q = absurd (p.1.closed q.1)
same_free v x (Empty y) (TooLarge z count) p q = absurd (few_values (form_values v.form v.declared) count p.1.none q.1 q.2)
same_free v x (Unbounded y) Memory p q = absurd q
same_free v x (Unbounded y) (Empty z) p q = absurd (q.1.closed p.1)
same_free v x (Unbounded y) (Unbounded z) p q = ap (λ (w : VarId). Unbounded w) (p.0 ∙ sym q.0)
same_free v x (Unbounded y) (TooLarge z count) p q = absurd (few_values (form_values v.form v.declared) count (open_none v.form v.declared p.1) q.1 q.2)
same_free v x (TooLarge y n) Memory p q = absurd q
same_free v x (TooLarge y n) (Empty z) p q = absurd (few_values (form_values v.form v.declared) n q.1.none p.1 p.2)
same_free v x (TooLarge y n) (Unbounded z) p q = absurd (few_values (form_values v.form v.declared) n (open_none v.form v.declared q.1) p.1 p.2)
same_free v x (TooLarge y n) (TooLarge z m) p q = ap (λ (w : VarId). TooLarge w n) (p.0 ∙ sym q.0) ∙ ap (λ (k : ℕ). TooLarge z k) (p.2 ∙ sym q.2)

same_defined : (v : Variable) (x : VarId) (f g : DomainFault) → IsDefinedFault v x f → IsDefinedFault v x g → f ≡ g
same_defined v x (Unbounded y) g p q = absurd p
same_defined v x (TooLarge y n) g p q = absurd p
same_defined v x Memory g p q = absurd p
same_defined v x (Empty y) (Empty z) p q = ap (λ (w : VarId). Empty w) (p.0 ∙ sym q.0)
same_defined v x (Empty y) (Unbounded z) p q = absurd q
same_defined v x (Empty y) (TooLarge z n) p q = absurd q
same_defined v x (Empty y) Memory p q = absurd q

same_by : (d : Option ℕ) (v : Variable) (x : VarId) (f g : DomainFault) → IsFaultBy d v x f → IsFaultBy d v x g → f ≡ g
same_by None v x f g p q = same_free v x f g p q
same_by (Some i) v x f g p q = same_defined v x f g p q

module _ (vs : List Variable) (ds : List (Option ℕ)) where
  same_at : (n : ℕ) (f g : DomainFault) → IsFaultAt vs ds n f → IsFaultAt vs ds n g → f ≡ g
  same_at n f g p q =
      let same : q.0 ≡ p.0 = same_Some q.0 p.0 (sym q.1 ∙ p.1) in
      same_by (definer_at ds n) p.0 (record { 0 = n }) f g p.2 (subst (λ (v : Variable). IsFaultBy (definer_at ds n) v (record { 0 = n }) g) same q.2)

  -- variables have one first fault at most
  pub one_fault : (f g : DomainFault) → IsFirstFault vs ds f → IsFirstFault vs ds g → f ≡ g
  one_fault f g p q = elim (cases_order p.place q.place) [
    | inl same ↦ same_at q.place f g (subst (λ (n : ℕ). IsFaultAt vs ds n f) same p.fault) q.fault
    | inr other ↦ elim other [ inl less ↦ absurd (q.first p.place f less p.fault) | inr more ↦ absurd (p.first q.place g more q.fault) ]
  ]
