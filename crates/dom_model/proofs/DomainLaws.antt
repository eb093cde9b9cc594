-- Every free variable has a domain whose ends are its hull, and restrictions are narrow.
use Rattle.std.proofs.Common.{◌≡◌, ℕ, zero, suc, ◌+◌, ◌<◌, ◌≤◌, true, false, List, [], ◌∷◌, length, refl, sym, ◌∙◌, ap, subst, arith, Option, Some, None, if◌then◌else◌, slice_get, ℤ}
use Rattle.any_kind.specs.Any.{any_defined}
use Rattle.any_kind.specs.declared.any.AnyKind.{AnyKind}
use Rattle.any_kind.specs.declared.any.AnyKind.TheVariants as kinds
use Rattle.dom_core.specs.Domain.{IsDomain}
use Rattle.dom_core.specs.Ends.{Ends}
use Rattle.dom_core.specs.Rises.{Rises}
use Rattle.dom_core.specs.declared.arg.Arg.{Arg}
use Rattle.dom_core.specs.declared.set.Set.{Set}
use Rattle.dom_definers.specs.Definers.{definer_at}
use Rattle.dom_definers.specs.Hulls.{AreHulls, declared_or_none, defined_hull, hull_at, is_known, kept_by, kept_definer, own_hull, posted_hull, spans}
use Rattle.dom_definers.specs.Known.{AreDeclared, kept_of}
use Rattle.dom_definers.specs.Variable.{declared_hull}
use Rattle.dom_definers.specs.declared.posted.Posted.{Posted}
use Rattle.dom_definers.specs.declared.variable.Variable.{Variable}
use Rattle.dom_definers.proofs.KnownLaws.{kept_at}
use Rattle.dom_domains.specs.Allowed.{values_of}
use Rattle.dom_domains.specs.Faults.{AreFaultless, IsFaultBy, IsFreeFault, IsOpen}
use Rattle.dom_domains.specs.Restrictions.{AreRestrictionsFrom, IsRestrictedBy, IsRestriction, restricting_set}
use Rattle.dom_domains.specs.declared.fault.DomainFault.{DomainFault}
use Rattle.dom_domains.specs.declared.fault.DomainFault.TheVariants as faults
use Rattle.dom_domains.specs.FreeDomains.{free_domains}
use Rattle.dom_network.specs.Free.{free_from}
use Rattle.dom_network.specs.Network.{AreDomains, AreFitOver, IsFitOver, ends_of_values}
use Rattle.kind_law.specs.Argument.{arg_vars}
use Rattle.kind_law.specs.Laws.{AllBelow}

-- ---- restrictions

restriction_fits : (hs : List (Option Ends)) (n : ℕ) (s : Set) (k : AnyKind) → n < length hs → IsRestriction n s k → IsFitOver hs k
restriction_fits hs n s (kinds.InSet r) lt h = record {
  below = subst (λ (x : Arg). AllBelow (length hs) (arg_vars x)) (sym h.0) (lt, tt);
  fits = tt;
}
restriction_fits hs n s k lt h = absurd h

restricted_fits : (hs : List (Option Ends)) (n : ℕ) (o : Option Set) (P : List AnyKind → Type 0) (ks : List AnyKind) → n < length hs → ((rest : List AnyKind) → P rest → AreFitOver hs rest)
    → IsRestrictedBy n o P ks → AreFitOver hs ks
restricted_fits hs n None P ks lt more h = more ks h
restricted_fits hs n (Some s) P [] lt more h = absurd h
restricted_fits hs n (Some s) P (k ∷ ks) lt more h = (restriction_fits hs n s k lt h.0, more ks h.1)

-- restrictions read variables, and stay far from a machine's ends
pub restrictions_fit : (hs : List (Option Ends)) (n : ℕ) (vs : List Variable) (ds : List (Option ℕ)) (ks : List AnyKind) → n + length vs ≤ length hs → AreRestrictionsFrom n vs ds ks → AreFitOver hs ks
restrictions_fit hs n [] ds ks lt h = subst (λ (rest : List AnyKind). AreFitOver hs rest) (sym h) tt
restrictions_fit hs n (v ∷ vs) [] ks lt h = absurd h
restrictions_fit hs n (v ∷ vs) (d ∷ ds) ks lt h =
    restricted_fits hs n (restricting_set v d) (AreRestrictionsFrom (suc n) vs ds) ks (omega (arith, lt)) (λ rest r. restrictions_fit hs (suc n) vs ds rest (omega (arith, lt)) r) h

-- ---- the domain of a free variable

module _ (vs : List Variable) (ds : List (Option ℕ)) (faultless : AreFaultless vs ds) where
  free_fault : (n : ℕ) (v : Variable) (f : DomainFault) → slice_get vs n ≡ Some v → definer_at ds n ≡ None → IsFreeFault v (record { 0 = n }) f → ⊥
  free_fault n v f got free h = faultless n f (v, got, subst (λ (d : Option ℕ). IsFaultBy d v (record { 0 = n }) f) (sym free) h)

  -- a free variable is declared with some of the integers
  pub free_closed : (n : ℕ) (v : Variable) → slice_get vs n ≡ Some v → definer_at ds n ≡ None → IsOpen v.form v.declared → ⊥
  free_closed n v got free h = free_fault n v (faults.Unbounded (record { 0 = n })) got free (refl, h)

  free_some : (n : ℕ) (v : Variable) → slice_get vs n ≡ Some v → definer_at ds n ≡ None → values_of v ≡ [] → ⊥
  free_some n v got free h = free_fault n v (faults.Empty (record { 0 = n })) got free (refl, record { closed = free_closed n v got free; none = h })

  free_few : (n : ℕ) (v : Variable) → slice_get vs n ≡ Some v → definer_at ds n ≡ None → 4096 < length (values_of v) → ⊥
  free_few n v got free h = free_fault n v (faults.TooLarge (record { 0 = n }) (length (values_of v))) got free (refl, h, refl)

  some_length : (xs : List ℤ) → (xs ≡ [] → ⊥) → 0 < length xs
  some_length [] h = absurd (h refl)
  some_length (x ∷ xs) h = omega arith

  not_more : (n limit : ℕ) → (limit < n → ⊥) → n ≤ limit
  not_more n limit h = omega (arith, h)

  -- its values are a domain
  pub free_domain : ((v : Variable) → Rises (values_of v)) → (n : ℕ) (v : Variable) → slice_get vs n ≡ Some v → definer_at ds n ≡ None → IsDomain (values_of v)
  free_domain rises n v got free = record {
    rises = rises v;
    some = some_length (values_of v) (free_some n v got free);
    few = not_more (length (values_of v)) 4096 (free_few n v got free);
  }

  -- and their ends are its declared hull
  pub free_declared : ((v : Variable) → (values_of v ≡ [] → ⊥) → declared_hull v ≡ Some (ends_of_values (values_of v))) → (n : ℕ) (v : Variable) → slice_get vs n ≡ Some v → definer_at ds n ≡ None
      → declared_hull v ≡ Some (ends_of_values (values_of v))
  free_declared ends n v got free = ends v (free_some n v got free)

-- ---- hulls of free variables

kept_none : (p : Option Posted) (i : ℕ) (hs : List (Option Ends)) (declared : Option Ends) → kept_by p i hs ≡ None → posted_hull p declared hs ≡ declared
kept_none None i hs declared h = refl
kept_none (Some c) i hs declared h =
    elim (any_defined c.kind (spans hs)) as (λ b. (if b then Some i else None) ≡ None → (if b then defined_hull c.kind hs else declared) ≡ declared) [ true ↦ λ e. absurd (cc) | false ↦ λ e. refl ] h

own_declared : (cs : List Posted) (d : Option ℕ) (hs : List (Option Ends)) (declared : Option Ends) → kept_definer cs hs d ≡ None → own_hull cs d declared hs ≡ declared
own_declared cs None hs declared h = refl
own_declared cs (Some i) hs declared h = kept_none (slice_get cs i) i hs declared h

module _ (vs : List Variable) (cs : List Posted) (ds : List (Option ℕ)) (hs : List (Option Ends)) (hulls : AreHulls vs cs ds hs)
    (ends : (v : Variable) → (values_of v ≡ [] → ⊥) → declared_hull v ≡ Some (ends_of_values (values_of v))) (rises : (v : Variable) → Rises (values_of v))
    (faultless : AreFaultless vs (kept_of cs hs ds)) where
  got_some : (us : List Variable) (n : ℕ) → n < length us → slice_get us n ≡ None → ⊥
  got_some [] n lt e = omega (arith, lt)
  got_some (u ∷ us) zero lt e = absurd (cc)
  got_some (u ∷ us) (suc n) lt e = got_some us n (omega (arith, lt)) e

  later_at : (n : ℕ) (us : List Variable) (u : Variable) → ((k : ℕ) (v : Variable) → slice_get (u ∷ us) k ≡ Some v → slice_get vs (n + k) ≡ Some v)
      → (k : ℕ) (v : Variable) → slice_get us k ≡ Some v → slice_get vs (suc n + k) ≡ Some v
  later_at n us u at k v e = subst (λ (j : ℕ). slice_get vs j ≡ Some v) (let z : n + suc k ≡ suc n + k = omega arith in z) (at (suc k) v e)

  later_def : (n : ℕ) (es : List (Option ℕ)) (e : Option ℕ) → ((k : ℕ) → k < length (e ∷ es) → definer_at (kept_of cs hs ds) (n + k) ≡ definer_at (e ∷ es) k)
      → (k : ℕ) → k < length es → definer_at (kept_of cs hs ds) (suc n + k) ≡ definer_at es k
  later_def n es e def k lt = ap (λ (j : ℕ). definer_at (kept_of cs hs ds) j) (let z : suc n + k ≡ n + suc k = omega arith in z) ∙ def (suc k) (omega (arith, lt))

  free_hull : (n : ℕ) (v : Variable) → n < length vs → slice_get vs n ≡ Some v → definer_at (kept_of cs hs ds) n ≡ None → hull_at hs n ≡ Some (ends_of_values (values_of v))
  free_hull n v lt got free =
      hulls.each n lt ∙ own_declared cs (definer_at ds n) hs (declared_or_none (slice_get vs n)) (sym (kept_at cs hs ds n) ∙ free)
      ∙ ap (λ (o : Option Variable). declared_or_none o) got ∙ free_declared vs (kept_of cs hs ds) faultless ends n v got free

  declared_at : (n : ℕ) (o : Option Variable) → n < length vs → slice_get vs n ≡ o → definer_at (kept_of cs hs ds) n ≡ None → is_known (declared_or_none o) ≡ true
  declared_at n None lt e free = absurd (got_some vs n lt e)
  declared_at n (Some v) lt e free = ap (λ (o : Option Ends). is_known o) (free_declared vs (kept_of cs hs ds) faultless ends n v e free)

  -- each free variable is declared with a hull
  pub are_declared : AreDeclared vs (kept_of cs hs ds)
  are_declared n lt free = declared_at n (slice_get vs n) lt refl free

  domains_from : (n : ℕ) (us : List Variable) (es : List (Option ℕ)) → length es ≡ length us → ((k : ℕ) (v : Variable) → slice_get us k ≡ Some v → slice_get vs (n + k) ≡ Some v)
      → ((k : ℕ) → k < length es → definer_at (kept_of cs hs ds) (n + k) ≡ definer_at es k) → n + length us ≤ length vs → AreDomains hs (free_from n es) (free_domains us es)
  domains_from n [] [] whole at def lt = tt
  domains_from n [] (e ∷ es) whole at def lt = absurd (omega (arith, whole))
  domains_from n (u ∷ us) [] whole at def lt = absurd (omega (arith, whole))
  domains_from n (u ∷ us) (None ∷ es) whole at def lt =
      let here : slice_get vs n ≡ Some u = subst (λ (j : ℕ). slice_get vs j ≡ Some u) (let z : n + 0 ≡ n = omega arith in z) (at 0 u refl) in
      let free : definer_at (kept_of cs hs ds) n ≡ None = subst (λ (j : ℕ). definer_at (kept_of cs hs ds) j ≡ None) (let z : n + 0 ≡ n = omega arith in z) (def 0 (omega arith)) in (
        free_domain vs (kept_of cs hs ds) faultless rises n u here free,
        free_hull n u (omega (arith, lt)) here free,
        domains_from (suc n) us es (omega (arith, whole)) (later_at n us u at) (later_def n es None def) (omega (arith, lt)),
      )
  domains_from n (u ∷ us) (Some i ∷ es) whole at def lt = domains_from (suc n) us es (omega (arith, whole)) (later_at n us u at) (later_def n es (Some i) def) (omega (arith, lt))

  -- each free variable has a domain whose ends are its hull
  pub are_domains : length (kept_of cs hs ds) ≡ length vs → AreDomains hs (free_from 0 (kept_of cs hs ds)) (free_domains vs (kept_of cs hs ds))
  are_domains whole =
      domains_from 0 vs (kept_of cs hs ds) whole (λ k v e. subst (λ (j : ℕ). slice_get vs j ≡ Some v) (let z : k ≡ 0 + k = omega arith in z) e)
      (λ k lt. ap (λ (j : ℕ). definer_at (kept_of cs hs ds) j) (let z : 0 + k ≡ k = omega arith in z)) (omega arith)
