-- One pass over the variables: one variable more, the first with a fault, and the end.
use Rattle.std.proofs.Common.{◌≡◌, ℕ, ◌+◌, ◌<◌, ◌≤◌, List, [], ◌∷◌, ◌++◌, length, drop, get_or, ℤ, refl, sym, ◌∙◌, ap, subst, arith, inl, inr, Option, Some, None, slice_get}
use Rattle.std.proofs.lemmas.List.{append-nil, drop_all, drop_more}
use Rattle.std.proofs.lemmas.Option.{same_Some, slice_get_read, slice_get_within}
use Rattle.dom_core.proofs.ListLaws.{append_push}
use Rattle.dom_core.proofs.RisesLaws.{less_or_same}
use Rattle.dom_definers.specs.Definers.{definer_at}
use Rattle.dom_definers.specs.declared.variable.Variable.{Variable}
use Rattle.dom_domains.specs.Allowed.{values_of}
use Rattle.dom_domains.specs.Faults.{IsFaultAt, IsFaultBy, IsFirstFault}
use Rattle.dom_domains.specs.FreeDomains.{AreDomains, AreFreeDomains, AreSmallVariables, HasNoFault, IsMemoryOr, free_domains, with_free}
use Rattle.dom_domains.specs.declared.fault.DomainFault.{DomainFault}
use Rattle.dom_domains.specs.declared.fault.DomainFault.TheVariants.{Empty, Unbounded, TooLarge, Memory}

with_free-append : (d : Option ℕ) (xs : List ℤ) (items rest : List (List ℤ)) → (items ++ with_free d xs []) ++ rest ≡ items ++ with_free d xs rest
with_free-append None xs items rest = append_push items xs rest
with_free-append (Some i) xs items rest = ap (λ (ys : List (List ℤ)). ys ++ rest) (append-nil items)

domains_append : (items more : List (List ℤ)) → AreDomains items → AreDomains more → AreDomains (items ++ more)
domains_append [] more h g = g
domains_append (xs ∷ items) more h g = (h.0, domains_append items more h.1 g)

pub more_domains : (items more new : List (List ℤ)) → new ≡ items ++ more → AreDomains items → AreDomains more → AreDomains new
more_domains items more new e h g = subst AreDomains (sym e) (domains_append items more h g)

pub fault_map : (P Q : DomainFault → Type 0) → ((f : DomainFault) → P f → Q f) → (f : DomainFault) → IsMemoryOr P f → IsMemoryOr Q f
fault_map P Q h (Empty x) p = h (Empty x) p
fault_map P Q h (Unbounded x) p = h (Unbounded x) p
fault_map P Q h (TooLarge x count) p = h (TooLarge x count) p
fault_map P Q h Memory p = tt

pub next_small : (vs : List Variable) (n : ℕ) (v : Variable) → n < length vs → AreSmallVariables (drop n vs) → AreSmallVariables (drop (n + 1) vs)
next_small vs n v lt h = (subst AreSmallVariables (drop_more vs n v lt) h).1

module _ (vs : List Variable) (ds : List (Option ℕ)) (n : ℕ) where
  -- no variable before this one has a fault
  abbrev pub AreFaultlessBefore : Type 0
  AreFaultlessBefore = (k : ℕ) (f : DomainFault) → k < n → IsFaultAt vs ds k f → ⊥

  pub next_domain : (v : Variable) (items new : List (List ℤ)) → n < length vs → length ds ≡ length vs → v ≡ get_or vs n v
      → new ≡ items ++ with_free (definer_at ds n) (values_of v) [] → items ++ free_domains (drop n vs) (drop n ds) ≡ free_domains vs ds
      → new ++ free_domains (drop (n + 1) vs) (drop (n + 1) ds) ≡ free_domains vs ds
  next_domain v items new lt whole is e h =
      let rest = free_domains (drop (n + 1) vs) (drop (n + 1) ds) in
      let first : drop n vs ≡ v ∷ drop (n + 1) vs = drop_more vs n v lt ∙ ap (λ (w : Variable). w ∷ drop (n + 1) vs) (sym is) in
      let second : drop n ds ≡ definer_at ds n ∷ drop (n + 1) ds = drop_more ds n None (omega (arith, lt, whole)) in
      ap (λ (ys : List (List ℤ)). ys ++ free_domains (drop (n + 1) vs) (drop (n + 1) ds)) e
      ∙ with_free-append (definer_at ds n) (values_of v) items (free_domains (drop (n + 1) vs) (drop (n + 1) ds))
      ∙ sym (ap (λ (ws : List Variable). items ++ free_domains ws (definer_at ds n ∷ drop (n + 1) ds)) first)
      ∙ sym (ap (λ (es : List (Option ℕ)). items ++ free_domains (drop n vs) es) second) ∙ h

  variable_there : (v : Variable) → n < length vs → v ≡ get_or vs n v → slice_get vs n ≡ Some v
  variable_there v lt is = slice_get_read vs (length vs) n v refl lt is

  pub next_faultless : (v : Variable) → n < length vs → v ≡ get_or vs n v → HasNoFault (definer_at ds n) v (record { 0 = n }) → AreFaultlessBefore
      → (k : ℕ) (f : DomainFault) → k < n + 1 → IsFaultAt vs ds k f → ⊥
  next_faultless v lt is none before k f below h = elim (less_or_same k n (omega (arith, below))) [
    | inl less ↦ before k f less h
    | inr same ↦ (let here : IsFaultAt vs ds n f = subst (λ (j : ℕ). IsFaultAt vs ds j f) same h in
        let one : here.0 ≡ v = same_Some here.0 v (sym here.1 ∙ variable_there v lt is) in
        none f (subst (λ (w : Variable). IsFaultBy (definer_at ds n) w (record { 0 = n }) f) one here.2))
  ]

  pub fault_found : (v : Variable) (f : DomainFault) → n < length vs → v ≡ get_or vs n v → AreFaultlessBefore
      → IsMemoryOr (IsFaultBy (definer_at ds n) v (record { 0 = n })) f → IsMemoryOr (IsFirstFault vs ds) f
  fault_found v f lt is before h =
      fault_map (IsFaultBy (definer_at ds n) v (record { 0 = n })) (IsFirstFault vs ds)
      (λ g p. record { place = n; fault = (v, variable_there v lt is, p); first = λ k e less. before k e less }) f h

  pub all_domains : (items : List (List ℤ)) → length vs ≤ n → items ++ free_domains (drop n vs) (drop n ds) ≡ free_domains vs ds → AreDomains items → AreFaultlessBefore → AreFreeDomains vs ds items
  all_domains items past h domains before = record {
    faultless = λ k f fault. before k f (let lt : k < length vs = slice_get_within vs k fault.0 fault.1 in omega (arith, lt, past)) fault;
    values = sym (append-nil items) ∙ sym (ap (λ (ws : List Variable). items ++ free_domains ws (drop n ds)) (drop_all n vs past)) ∙ h;
    are_domains = domains;
  }
