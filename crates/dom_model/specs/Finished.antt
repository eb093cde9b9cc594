-- The model of what was put together, or its first fault.
use Rattle.std.specs.Prelude.{◌≡◌, ℕ, ◌+◌, ◌<◌, ◌≤◌, true, List, ◌++◌, length, map, replicate, Option, Some, None, Result, Ok, Err}
use Rattle.any_kind.specs.declared.any.AnyKind.{AnyKind}
use Rattle.digraph.specs.Cycle.{IsFirstOnCycle}
use Rattle.digraph.specs.Order.{IsOrder}
use Rattle.dom_core.specs.Ends.{Ends}
use Rattle.dom_definers.specs.Definers.{AreDefiners, dependence}
use Rattle.dom_definers.specs.Hulls.{AreHulls}
use Rattle.dom_definers.specs.Known.{kept_of}
use Rattle.dom_definers.specs.Width.{wide_from}
use Rattle.dom_domains.specs.Faults.{AreFaultless, IsFirstFault}
use Rattle.dom_domains.specs.FreeDomains.{free_domains}
use Rattle.dom_domains.specs.Restrictions.{AreRestrictions}
use Rattle.dom_domains.specs.declared.fault.DomainFault.{DomainFault}
use Rattle.dom_domains.specs.declared.fault.DomainFault.TheVariants as faults
use Rattle.dom_limits.specs.declared.counted.Counted.TheVariants.{Free}
use Rattle.dom_model.specs.Draft.{Draft}
use Rattle.dom_model.specs.Problem.{Problem}
use Rattle.dom_model.specs.declared.error.BuildError.{BuildError}
use Rattle.dom_model.specs.declared.error.BuildError.TheVariants.{CyclicDefinition, EmptyDomain, Unbounded, DomainTooLarge, TooMany, TooWide, Memory}
use Rattle.dom_network.specs.Free.{free_of}

-- for each variable what its definition reads
abbrev pub graph_of : Draft → List (Option ℕ) → List (List ℕ)
graph_of d ds = dependence d.constraints ds

-- the constraints that are to define the variables, an order in which variables come behind what their definitions read, so that none
-- is cyclic, and the hulls that they give
pub record AreDefined (d : Draft) (first : List (Option ℕ)) (hs : List (Option Ends)) : Type 0 where
  pub definers : AreDefiners d.constraints (length d.variables) first
  pub order : List ℕ
  pub is_order : IsOrder (graph_of d first) order
  pub hulls : AreHulls d.variables d.constraints first hs

-- the definers that stay: a definition without a value somewhere over its inputs' hulls is dropped
abbrev pub kept : Draft → List (Option ℕ) → List (Option Ends) → List (Option ℕ)
kept d first hs = kept_of d.constraints hs first

-- every variable has a domain, or a definition and a declaration that allows a value
abbrev pub HasDomains : Draft → List (Option ℕ) → Type 0
HasDomains d ds = AreFaultless d.variables ds

-- no more than 4096 variables are free
abbrev pub HasFewFree : List (Option ℕ) → Type 0
HasFewFree ds = length (free_of ds) ≤ 4096

-- what is found once the hulls are known
pub record HasNoFault (d : Draft) (first : List (Option ℕ)) (hs : List (Option Ends)) : Type 0 where
  pub defined : AreDefined d first hs
  pub domains : HasDomains d (kept d first hs)
  pub few : HasFewFree (kept d first hs)
  pub narrow : wide_from 0 d.constraints (kept d first hs) hs ≡ None

-- the model has these parts
pub record HasParts (d : Draft) (first : List (Option ℕ)) (p : Problem) : Type 0 where
  pub variables : p.variables ≡ d.variables
  pub goal : p.goal ≡ d.goal
  pub outputs : p.outputs ≡ d.outputs
  pub definers : p.network.definers ≡ kept d first p.network.hulls
  pub domains : p.network.domains ≡ free_domains d.variables p.network.definers
  pub restrictions : List AnyKind
  pub restricted : AreRestrictions d.variables p.network.definers restrictions
  pub constraints : p.network.constraints ≡ map (λ c. c.kind) d.constraints ++ restrictions

-- the model is that of what was put together, which has no fault
pub record IsFinished (d : Draft) (p : Problem) : Type 0 where
  pub first : List (Option ℕ)
  pub faultless : HasNoFault d first p.network.hulls
  pub parts : HasParts d first p

-- a fault that is found once the hulls are known, and none before it
abbrev pub IsLaterFault : Draft → List (Option ℕ) → List (Option Ends) → BuildError → Type 0
IsLaterFault d first hs (CyclicDefinition x) = ⊥
IsLaterFault d first hs (EmptyDomain x) = IsFirstFault d.variables (kept d first hs) (faults.Empty x)
IsLaterFault d first hs (Unbounded x) = IsFirstFault d.variables (kept d first hs) (faults.Unbounded x)
IsLaterFault d first hs (DomainTooLarge x n) = IsFirstFault d.variables (kept d first hs) (faults.TooLarge x n)
IsLaterFault d first hs (TooMany what n) =
    (what ≡ Free) × (n ≡ length (free_of (kept d first hs))) × (4096 < n) × HasDomains d (kept d first hs)
IsLaterFault d first hs (TooWide c) =
    (i : ℕ) × (c ≡ i + 1) × (wide_from 0 d.constraints (kept d first hs) hs ≡ Some i) × HasDomains d (kept d first hs) × HasFewFree (kept d first hs)
IsLaterFault d first hs Memory = ⊥

-- some such fault is found
abbrev pub HasLaterFault : Draft → BuildError → Type 0
HasLaterFault d e = (first : List (Option ℕ)) × (hs : List (Option Ends)) × AreDefined d first hs × IsLaterFault d first hs e

-- this is the first variable whose definition depends on it
abbrev pub IsFirstCyclic : Draft → ℕ → Type 0
IsFirstCyclic d v =
    (first : List (Option ℕ)) × AreDefiners d.constraints (length d.variables) first × IsFirstOnCycle (graph_of d first) (replicate (length first) true) v

-- the first node on a cycle, or memory is wanting
abbrev pub IsFirstOfCycle : List (List ℕ) → BuildError → Type 0
IsFirstOfCycle g (CyclicDefinition x) = IsFirstOnCycle g (replicate (length g) true) x.0
IsFirstOfCycle g Memory = Unit {0}
IsFirstOfCycle g e = ⊥

-- the number, from 1, of the constraint at this place
abbrev pub IsWide : Option ℕ → Option ℕ → Type 0
IsWide place None = place ≡ None
IsWide place (Some c) = (i : ℕ) × (c ≡ i + 1) × (place ≡ Some i)

-- the fault of a variable without a domain
abbrev pub error_of : DomainFault → BuildError
error_of (faults.Empty x) = EmptyDomain x
error_of (faults.Unbounded x) = Unbounded x
error_of (faults.TooLarge x n) = DomainTooLarge x n
error_of faults.Memory = Memory

-- the first fault of what was put together
abbrev pub IsBuildFault : Draft → BuildError → Type 0
IsBuildFault d (CyclicDefinition x) = IsFirstCyclic d x.0
IsBuildFault d e = HasLaterFault d e

-- the model, or the first fault, unless memory ran out
abbrev pub Finishes : Draft → Result Problem BuildError → Type 0
Finishes d (Ok p) = IsFinished d p
Finishes d (Err Memory) = Unit {0}
Finishes d (Err e) = IsBuildFault d e

-- what was put together has one outcome at most, want of memory aside
abbrev pub HasOneOutcome : Type 0
HasOneOutcome =
    (d : Draft) (one other : Result Problem BuildError) → Finishes d one → Finishes d other → (one ≡ Err Memory → ⊥) → (other ≡ Err Memory → ⊥) → one ≡ other
