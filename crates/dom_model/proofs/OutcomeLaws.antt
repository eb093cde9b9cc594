-- What was put together has one outcome: its model, or its first fault.
use Rattle.std.proofs.Common.{◌≡◌, ◌<◌, ◌+◌, ◌⊎◌, ℕ, true, Bool, ℤ, List, ◌++◌, length, map, replicate, Option, Some, None, Result, Ok, Err, refl, sym, ◌∙◌, ap, subst, arith, inl, inr}
use Rattle.std.proofs.lemmas.Bool.{cases_order}
use Rattle.std.proofs.lemmas.Option.{same_Some}
use Rattle.any_kind.specs.declared.any.AnyKind.{AnyKind}
use Rattle.digraph.specs.Cycle.{IsFirstOnCycle}
use Rattle.digraph.specs.Order.{OrderedIsAcyclic}
use Rattle.dom_core.specs.Ends.{Ends}
use Rattle.dom_core.specs.declared.var_id.VarId.{VarId}
use Rattle.dom_definers.specs.Hulls.{AreHulls}
use Rattle.dom_definers.specs.Width.{wide_from}
use Rattle.dom_definers.specs.declared.variable.Variable.{Variable}
use Rattle.dom_definers.proofs.OneLaws.{one_definers, one_hulls}
use Rattle.dom_domains.specs.Faults.{AreFaultless, IsFirstFault}
use Rattle.dom_domains.specs.Restrictions.{AreRestrictions}
use Rattle.dom_domains.specs.declared.fault.DomainFault.{DomainFault}
use Rattle.dom_domains.specs.declared.fault.DomainFault.TheVariants as faults
use Rattle.dom_domains.proofs.FaultLaws.{one_fault}
use Rattle.dom_domains.proofs.RestrictionLaws.{same_restrictions}
use Rattle.dom_limits.specs.declared.counted.Counted.{Counted}
use Rattle.dom_limits.specs.declared.counted.Counted.TheVariants.{Free}
use Rattle.dom_model.specs.Draft.{Draft}
use Rattle.dom_model.specs.Finished.{AreDefined, Finishes, HasFewFree, HasLaterFault, HasNoFault, HasOneOutcome, IsFinished, IsFirstCyclic, IsLaterFault, graph_of, kept}
use Rattle.dom_domains.specs.FreeDomains.{free_domains}
use Rattle.dom_model.specs.Problem.{Problem}
use Rattle.dom_model.specs.declared.error.BuildError.{BuildError}
use Rattle.dom_model.specs.declared.error.BuildError.TheVariants.{CyclicDefinition, EmptyDomain, Unbounded, DomainTooLarge, TooMany, TooWide, Memory}
use Rattle.dom_network.specs.Free.{free_of}
use Rattle.dom_network.specs.Network.{Network}
use Rattle.kind_law.proofs.ArgumentLaws.{same_var}

-- ---- cycles

one_cyclic : (graph : List (List ℕ)) (among : List Bool) (j k : ℕ) → IsFirstOnCycle graph among j → IsFirstOnCycle graph among k → j ≡ k
one_cyclic graph among j k h g =
    elim (cases_order j k)
    [ inl same ↦ same | inr other ↦ elim other [ inl less ↦ absurd (g.1 j less h.0) | inr more ↦ absurd (h.1 k more g.0) ] ]

module _ (acyclic : OrderedIsAcyclic) (d : Draft) where
  cyclic_same : (j k : ℕ) → IsFirstCyclic d j → IsFirstCyclic d k → j ≡ k
  cyclic_same j k h g =
      let same : g.0 ≡ h.0 = one_definers d.constraints (length d.variables) g.0 h.0 g.1 h.1 in
      one_cyclic (graph_of d h.0) (replicate (length h.0) true) j k h.2
      (subst (λ (ds : List (Option ℕ)). IsFirstOnCycle (graph_of d ds) (replicate (length ds) true) k) same g.2)

  -- where definitions have an order, none is cyclic
  never_cyclic : (first : List (Option ℕ)) (hs : List (Option Ends)) (k : ℕ) → AreDefined d first hs → IsFirstCyclic d k → ⊥
  never_cyclic first hs k a h =
      let same : h.0 ≡ first = one_definers d.constraints (length d.variables) h.0 first h.1 a.definers in
      let cycle : IsFirstOnCycle (graph_of d first) (replicate (length first) true) k =
      subst (λ (ds : List (Option ℕ)). IsFirstOnCycle (graph_of d ds) (replicate (length ds) true) k) same h.2 in
      acyclic (graph_of d first) a.order a.is_order k cycle.0.1

-- ---- faults once the hulls are known

abbrev error_of : DomainFault → BuildError
error_of (faults.Empty x) = EmptyDomain x
error_of (faults.Unbounded x) = Unbounded x
error_of (faults.TooLarge x n) = DomainTooLarge x n
error_of faults.Memory = Memory

-- a variable has no domain
record HasDomainFault (vs : List Variable) (ds : List (Option ℕ)) (e : BuildError) : Type 0 where
  fault : DomainFault
  first : IsFirstFault vs ds fault
  told : e ≡ error_of fault

-- too many variables are free
record HasManyFree (vs : List Variable) (ds : List (Option ℕ)) (e : BuildError) : Type 0 where
  domains : AreFaultless vs ds
  many : 4096 < length (free_of ds)
  told : e ≡ TooMany Free (length (free_of ds))

-- a constraint is too wide
record HasWide (d : Draft) (ds : List (Option ℕ)) (hs : List (Option Ends)) (e : BuildError) : Type 0 where
  domains : AreFaultless d.variables ds
  few : HasFewFree ds
  place : ℕ
  wide : wide_from 0 d.constraints ds hs ≡ Some place
  told : e ≡ TooWide (place + 1)

abbrev IsOneOfThree : Draft → List (Option ℕ) → List (Option Ends) → BuildError → Type 0
IsOneOfThree d ds hs e = HasDomainFault d.variables ds e ⊎ (HasManyFree d.variables ds e ⊎ HasWide d ds hs e)

one_of_three : (d : Draft) (first : List (Option ℕ)) (hs : List (Option Ends)) (e : BuildError) → IsLaterFault d first hs e → IsOneOfThree d (kept d first hs) hs e
one_of_three d first hs (CyclicDefinition x) h = absurd h
one_of_three d first hs (EmptyDomain x) h = inl (record { fault = faults.Empty x; first = h; told = refl })
one_of_three d first hs (Unbounded x) h = inl (record { fault = faults.Unbounded x; first = h; told = refl })
one_of_three d first hs (DomainTooLarge x n) h = inl (record { fault = faults.TooLarge x n; first = h; told = refl })
one_of_three d first hs (TooMany what n) h =
    inr (inl (record {
      domains = h.3;
      many = (let lt : 4096 < n = h.2 in omega (arith, lt, h.1));
      told = ap (λ (w : Counted). TooMany w n) h.0 ∙ ap (λ (m : ℕ). TooMany Free m) h.1;
    }))
one_of_three d first hs (TooWide c) h = inr (inr (record { domains = h.3; few = h.4; place = h.0; wide = h.2; told = ap (λ (m : ℕ). TooWide m) h.1 }))
one_of_three d first hs Memory h = absurd h

domain_alone : (vs : List Variable) (ds : List (Option ℕ)) (e : BuildError) → HasDomainFault vs ds e → AreFaultless vs ds → ⊥
domain_alone vs ds e h none = none h.first.place h.fault h.first.fault

same_three : (d : Draft) (ds : List (Option ℕ)) (hs : List (Option Ends)) (e g : BuildError) → IsOneOfThree d ds hs e → IsOneOfThree d ds hs g → e ≡ g
same_three d ds hs e g (inl p) (inl q) = p.told ∙ ap (λ (f : DomainFault). error_of f) (one_fault d.variables ds p.fault q.fault p.first q.first) ∙ sym q.told
same_three d ds hs e g (inl p) (inr (inl q)) = absurd (domain_alone d.variables ds e p q.domains)
same_three d ds hs e g (inl p) (inr (inr q)) = absurd (domain_alone d.variables ds e p q.domains)
same_three d ds hs e g (inr (inl p)) (inl q) = absurd (domain_alone d.variables ds g q p.domains)
same_three d ds hs e g (inr (inr p)) (inl q) = absurd (domain_alone d.variables ds g q p.domains)
same_three d ds hs e g (inr (inl p)) (inr (inl q)) = p.told ∙ sym q.told
same_three d ds hs e g (inr (inl p)) (inr (inr q)) = absurd (omega (arith, p.many, q.few))
same_three d ds hs e g (inr (inr p)) (inr (inl q)) = absurd (omega (arith, q.many, p.few))
same_three d ds hs e g (inr (inr p)) (inr (inr q)) = p.told ∙ ap (λ (i : ℕ). TooWide (i + 1)) (same_Some p.place q.place (sym p.wide ∙ q.wide)) ∙ sym q.told

some_place : (i : ℕ) → None ≡ Some i → ⊥
some_place i e = absurd (cc)

never_faulty : (d : Draft) (first : List (Option ℕ)) (hs : List (Option Ends)) (e : BuildError) → HasNoFault d first hs → IsOneOfThree d (kept d first hs) hs e → ⊥
never_faulty d first hs e h (inl p) = domain_alone d.variables (kept d first hs) e p h.domains
never_faulty d first hs e h (inr (inl p)) = omega (arith, p.many, h.few)
never_faulty d first hs e h (inr (inr p)) = some_place p.place (sym h.narrow ∙ p.wide)

-- ---- what is defined

module _ (d : Draft) (first other : List (Option ℕ)) (hs gs : List (Option Ends)) (a : AreDefined d first hs) (b : AreDefined d other gs) where
  same_first : other ≡ first
  same_first = one_definers d.constraints (length d.variables) other first b.definers a.definers

  same_hulls : gs ≡ hs
  same_hulls =
      one_hulls d.variables d.constraints first a.order gs hs a.definers.whole a.is_order (subst (λ (ds : List (Option ℕ)). AreHulls d.variables d.constraints ds gs) same_first b.hulls) a.hulls

  same_later : (e : BuildError) → IsLaterFault d other gs e → IsLaterFault d first hs e
  same_later e h = subst (λ (es : List (Option Ends)). IsLaterFault d first es e) same_hulls (subst (λ (ds : List (Option ℕ)). IsLaterFault d ds gs e) same_first h)

later_same : (d : Draft) (e g : BuildError) → HasLaterFault d e → HasLaterFault d g → e ≡ g
later_same d e g h k =
    same_three d (kept d h.0 h.1) h.1 e g (one_of_three d h.0 h.1 e h.3) (one_of_three d h.0 h.1 g (same_later d h.0 k.0 h.1 k.1 h.2 k.2 g k.3))

-- ---- models

same_network : (m n : Network) → m.constraints ≡ n.constraints → m.definers ≡ n.definers → m.hulls ≡ n.hulls → m.domains ≡ n.domains → m ≡ n
same_network m n c d h e =
    ap (λ (cs : List AnyKind). let k : Network = record { constraints = cs; definers = m.definers; hulls = m.hulls; domains = m.domains } in k) c
    ∙ ap (λ (ds : List (Option ℕ)). let k : Network = record { constraints = n.constraints; definers = ds; hulls = m.hulls; domains = m.domains } in k) d
    ∙ ap (λ (hs : List (Option Ends)). let k : Network = record { constraints = n.constraints; definers = n.definers; hulls = hs; domains = m.domains } in k) h
    ∙ ap (λ (es : List (List ℤ)). let k : Network = record { constraints = n.constraints; definers = n.definers; hulls = n.hulls; domains = es } in k) e

same_problem : (p q : Problem) → p.variables ≡ q.variables → p.network ≡ q.network → p.goal ≡ q.goal → p.outputs ≡ q.outputs → p ≡ q
same_problem p q v n g o =
    ap (λ (x : _). let r : Problem = record { variables = x; network = p.network; goal = p.goal; outputs = p.outputs } in r) v
    ∙ ap (λ (x : Network). let r : Problem = record { variables = q.variables; network = x; goal = p.goal; outputs = p.outputs } in r) n
    ∙ ap (λ (x : _). let r : Problem = record { variables = q.variables; network = q.network; goal = x; outputs = p.outputs } in r) g
    ∙ ap (λ (x : _). let r : Problem = record { variables = q.variables; network = q.network; goal = q.goal; outputs = x } in r) o

module _ (d : Draft) (p q : Problem) (h : IsFinished d p) (g : IsFinished d q) where
  finished_first : h.first ≡ g.first
  finished_first = same_first d g.first h.first q.network.hulls p.network.hulls g.faultless.defined h.faultless.defined

  finished_hulls : p.network.hulls ≡ q.network.hulls
  finished_hulls = same_hulls d g.first h.first q.network.hulls p.network.hulls g.faultless.defined h.faultless.defined

  finished_definers : p.network.definers ≡ q.network.definers
  finished_definers =
      h.parts.definers ∙ ap (λ (ds : List (Option ℕ)). kept d ds p.network.hulls) finished_first
      ∙ ap (λ (hs : List (Option Ends)). kept d g.first hs) finished_hulls ∙ sym g.parts.definers

  finished_domains : p.network.domains ≡ q.network.domains
  finished_domains = h.parts.domains ∙ ap (λ (ds : List (Option ℕ)). free_domains d.variables ds) finished_definers ∙ sym g.parts.domains

  finished_restrictions : h.parts.restrictions ≡ g.parts.restrictions
  finished_restrictions =
      same_restrictions d.variables q.network.definers h.parts.restrictions g.parts.restrictions
      (subst (λ (ds : List (Option ℕ)). AreRestrictions d.variables ds h.parts.restrictions) finished_definers h.parts.restricted) g.parts.restricted

  finished_constraints : p.network.constraints ≡ q.network.constraints
  finished_constraints = h.parts.constraints ∙ ap (λ (rs : List AnyKind). map (λ c. c.kind) d.constraints ++ rs) finished_restrictions ∙ sym g.parts.constraints

  finished_same : p ≡ q
  finished_same =
      same_problem p q (h.parts.variables ∙ sym g.parts.variables)
      (same_network p.network q.network finished_constraints finished_definers finished_hulls finished_domains)
      (h.parts.goal ∙ sym g.parts.goal) (h.parts.outputs ∙ sym g.parts.outputs)

-- ---- outcomes

-- a definition is cyclic, or a fault is found once the hulls are known
record IsCyclicError (d : Draft) (e : BuildError) : Type 0 where
  var : VarId
  first : IsFirstCyclic d var.0
  told : e ≡ CyclicDefinition var

error_cases : (d : Draft) (e : BuildError) → Finishes d (Err e) → (e ≡ Memory → ⊥) → IsCyclicError d e ⊎ HasLaterFault d e
error_cases d (CyclicDefinition x) h m = inl (record { var = x; first = h; told = refl })
error_cases d (EmptyDomain x) h m = inr h
error_cases d (Unbounded x) h m = inr h
error_cases d (DomainTooLarge x n) h m = inr h
error_cases d (TooMany what n) h m = inr h
error_cases d (TooWide c) h m = inr h
error_cases d Memory h m = absurd (m refl)

module _ (acyclic : OrderedIsAcyclic) (d : Draft) where
  errors_same : (e g : BuildError) → IsCyclicError d e ⊎ HasLaterFault d e → IsCyclicError d g ⊎ HasLaterFault d g → e ≡ g
  errors_same e g (inl p) (inl q) =
      p.told ∙ ap (λ (x : VarId). CyclicDefinition x) (same_var q.var p.var (cyclic_same acyclic d p.var.0 q.var.0 p.first q.first)) ∙ sym q.told
  errors_same e g (inl p) (inr q) = absurd (never_cyclic acyclic d q.0 q.1 p.var.0 q.2 p.first)
  errors_same e g (inr p) (inl q) = absurd (never_cyclic acyclic d p.0 p.1 q.var.0 p.2 q.first)
  errors_same e g (inr p) (inr q) = later_same d e g p q

  -- there is no fault beside a model
  never_both : (p : Problem) (e : BuildError) → IsFinished d p → IsCyclicError d e ⊎ HasLaterFault d e → ⊥
  never_both p e h (inl c) = never_cyclic acyclic d h.first p.network.hulls c.var.0 h.faultless.defined c.first
  never_both p e h (inr l) =
      never_faulty d h.first p.network.hulls e h.faultless
      (one_of_three d h.first p.network.hulls e (same_later d h.first l.0 p.network.hulls l.1 h.faultless.defined l.2 e l.3))

abbrev failed : BuildError → Result Problem BuildError
failed e = Err e

told_memory : (e : BuildError) → (failed e ≡ failed Memory → ⊥) → e ≡ Memory → ⊥
told_memory e other same = other (ap (λ (x : BuildError). failed x) same)

-- what was put together has one outcome at most
pub one_outcome : OrderedIsAcyclic → HasOneOutcome
one_outcome acyclic d (Ok p) (Ok q) h g m n = ap (λ (x : Problem). let r : Result Problem BuildError = Ok x in r) (finished_same d p q h g)
one_outcome acyclic d (Ok p) (Err e) h g m n = absurd (never_both acyclic d p e h (error_cases d e g (told_memory e n)))
one_outcome acyclic d (Err e) (Ok q) h g m n = absurd (never_both acyclic d q e g (error_cases d e h (told_memory e m)))
one_outcome acyclic d (Err e) (Err f) h g m n =
    ap (λ (x : BuildError). failed x) (errors_same acyclic d e f (error_cases d e h (told_memory e m)) (error_cases d f g (told_memory f n)))
