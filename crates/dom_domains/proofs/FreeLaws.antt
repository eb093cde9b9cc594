-- Domains and faults of single variables, and of one variable more.
use Rattle.std.proofs.Common.{◌≡◌, ℕ, ◌<◌, Bool, false, if◌then◌else◌, List, [], ◌∷◌, length, ℤ, pos, ◌<ℤ◌, int_lt, refl, sym, ◌∙◌, ap, subst, arith, inl, inr, Option, Some, None, Ok, Err}
use Rattle.dom_core.specs.Domain.{IsDomain, IsRange}
use Rattle.dom_core.specs.Ends.{Ends}
use Rattle.dom_core.specs.Rises.{range_of, count_of}
use Rattle.dom_core.specs.declared.domain.DomainError.TheVariants as errors
use Rattle.dom_core.specs.declared.var_id.VarId.{VarId}
use Rattle.dom_core.proofs.ProductLaws.{lt_true, lt_false}
use Rattle.dom_core.proofs.RisesLaws.{range-length, count_some}
use Rattle.dom_core.proofs.TestLaws.{true_or_false}
use Rattle.dom_definers.specs.Domains.{IsDomainOf, IsFormDomain}
use Rattle.dom_definers.specs.Variable.{declared_hull, form_hull, range_hull}
use Rattle.dom_definers.specs.declared.form.Declared.{Declared}
use Rattle.dom_definers.specs.declared.form.Declared.TheVariants.{Any, Range, Values}
use Rattle.dom_definers.specs.declared.form.Form.{Form}
use Rattle.dom_definers.specs.declared.form.Form.TheVariants.{Bool as Truths, Int}
use Rattle.dom_definers.specs.declared.variable.Variable.{Variable}
use Rattle.dom_domains.specs.Allowed.{form_values, rising, values_of}
use Rattle.dom_domains.specs.Faults.{IsEmptyDeclared, IsFreeFault, IsOpen}
use Rattle.dom_domains.specs.FreeDomains.{IsFreeDomain}
use Rattle.dom_domains.specs.declared.fault.DomainFault.{DomainFault}
use Rattle.dom_domains.specs.declared.fault.DomainFault.TheVariants.{Empty, Unbounded, TooLarge, Memory}
use Rattle.dom_domains.proofs.RisingLaws.{distinct_rising, range_none, rising_some, sorted_rising}

-- ---- what building the domain of a declaration answers

range_domain : (lo hi : ℤ) (xs : List ℤ) → IsRange lo hi (Ok xs) → (xs ≡ range_of lo hi) × IsDomain xs
range_domain lo hi xs h = (h.1, h.0)

domain_values : (f : Form) (d : Declared) (xs : List ℤ) → IsFormDomain f d (Some (Ok xs)) → (xs ≡ form_values f d) × IsDomain xs
domain_values Truths d xs h = (h.1, h.0)
domain_values Int Any xs h = absurd h
domain_values Int (Range lo hi) xs h = (h.1, h.0)
domain_values Int (Values vs) xs h = (sorted_rising vs xs h.1, h.0)

domain_closed : (f : Form) (d : Declared) (xs : List ℤ) → IsFormDomain f d (Some (Ok xs)) → IsOpen f d → ⊥
domain_closed Truths d xs h o = o
domain_closed Int Any xs h o = h
domain_closed Int (Range lo hi) xs h o = o
domain_closed Int (Values vs) xs h o = o

no_fault : (v : Variable) (x : VarId) (f : DomainFault) → (IsOpen v.form v.declared → ⊥) → IsDomain (values_of v) → IsFreeFault v x f → ⊥
no_fault v x (Empty y) closed domain h = absurd (let none : length (values_of v) ≡ 0 = ap (λ (xs : List ℤ). length xs) h.1.none in omega (arith, none, domain.some))
no_fault v x (Unbounded y) closed domain h = closed h.1
no_fault v x (TooLarge y count) closed domain h = absurd (let more : 4096 < count = h.1 in let is : count ≡ length (values_of v) = h.2 in omega (arith, more, is, domain.few))
no_fault v x Memory closed domain h = h

pub free_domain : (v : Variable) (x : VarId) (xs : List ℤ) → IsDomainOf v (Some (Ok xs)) → IsFreeDomain v x xs
free_domain v x xs h =
    let is = domain_values v.form v.declared xs h in
    record {
      values = is.0;
      is_domain = is.1;
      faultless = λ f. no_fault v x f (domain_closed v.form v.declared xs h) (subst IsDomain is.0 is.1);
    }

large_count : (f : Form) (d : Declared) (count : ℕ) → IsFormDomain f d (Some (Err (errors.TooLarge count))) → (4096 < count) × (count ≡ length (form_values f d))
large_count Truths d count h = (h.0, h.1 ∙ sym (range-length (pos 0) (pos 1)))
large_count Int Any count h = absurd h
large_count Int (Range lo hi) count h = (h.0, h.1 ∙ sym (range-length lo hi))
large_count Int (Values vs) count h = (h.0, distinct_rising vs count h.1)

pub free_large : (v : Variable) (x : VarId) (count : ℕ) → IsDomainOf v (Some (Err (errors.TooLarge count))) → IsFreeFault v x (TooLarge x count)
free_large v x count h = let n = large_count v.form v.declared count h in (refl, n.0, n.1)

empty_closed : (f : Form) (d : Declared) → IsFormDomain f d (Some (Err errors.Empty)) → IsOpen f d → ⊥
empty_closed Truths d h o = o
empty_closed Int Any h o = h
empty_closed Int (Range lo hi) h o = o
empty_closed Int (Values vs) h o = o

empty_none : (f : Form) (d : Declared) → IsFormDomain f d (Some (Err errors.Empty)) → form_values f d ≡ []
empty_none Truths d h = range_none (pos 0) (pos 1) h
empty_none Int Any h = absurd h
empty_none Int (Range lo hi) h = range_none lo hi h
empty_none Int (Values vs) h = ap rising h

pub free_empty : (v : Variable) → IsDomainOf v (Some (Err errors.Empty)) → IsEmptyDeclared v
free_empty v h = record { closed = empty_closed v.form v.declared h; none = empty_none v.form v.declared h }

open_form : (f : Form) (d : Declared) → IsFormDomain f d None → IsOpen f d
open_form Truths d h = absurd h
open_form Int Any h = tt
open_form Int (Range lo hi) h = absurd h
open_form Int (Values vs) h = absurd h

pub free_open : (v : Variable) → IsDomainOf v None → IsOpen v.form v.declared
free_open v h = open_form v.form v.declared h

-- ---- a declaration without a value has no hull

-- the interval, or none
abbrev pub chosen : ℤ → ℤ → Bool → Option Ends
chosen lo hi b = if b then None else Some (record { lo = lo; hi = hi })

range_hulled : (lo hi : ℤ) → range_hull lo hi ≡ None → hi <ℤ lo
range_hulled lo hi h = elim (true_or_false (int_lt hi lo)) [
  | inl e ↦ lt_true hi lo e
  | inr e ↦ absurd (let t : chosen lo hi false ≡ None = sym (ap (chosen lo hi) e) ∙ h in cc)
]

none_without_hull : (f : Form) (d : Declared) → (IsOpen f d → ⊥) → form_hull f d ≡ None → form_values f d ≡ []
none_without_hull Truths d closed h = absurd (cc)
none_without_hull Int Any closed h = absurd (closed tt)
none_without_hull Int (Range lo hi) closed h = range_none lo hi (range_hulled lo hi h)
none_without_hull Int (Values []) closed h = refl
none_without_hull Int (Values (x ∷ xs)) closed h = absurd (cc)

hull_without_none : (f : Form) (d : Declared) → form_values f d ≡ [] → form_hull f d ≡ None
hull_without_none Truths d h = absurd (cc)
hull_without_none Int Any h = refl
hull_without_none Int (Range lo hi) h = elim (true_or_false (int_lt hi lo)) [
  | inl e ↦ ap (chosen lo hi) e
  | inr e ↦ absurd (let some : 0 < count_of lo hi = count_some lo hi (lt_false hi lo e) in
      let n : count_of lo hi ≡ 0 = sym (range-length lo hi) ∙ ap (λ (xs : List ℤ). length xs) h in omega (arith, some, n))
]
hull_without_none Int (Values []) h = refl
hull_without_none Int (Values (x ∷ xs)) h = absurd (rising_some x xs h)

pub empty_declared : (v : Variable) → (IsOpen v.form v.declared → ⊥) → declared_hull v ≡ None → IsEmptyDeclared v
empty_declared v closed h = record { closed = closed; none = none_without_hull v.form v.declared closed h }

pub empty_hull : (v : Variable) → IsEmptyDeclared v → declared_hull v ≡ None
empty_hull v e = hull_without_none v.form v.declared e.none
