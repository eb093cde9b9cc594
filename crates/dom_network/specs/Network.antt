-- A constraint network: constraints, which of them define a variable, and what values the variables can have.
use Rattle.std.specs.Prelude.{◌≡◌, ◌<◌, ◌≤◌, true, Option, Some, None, List, [], ◌∷◌, ℕ, length, slice_get, ℤ}
use Rattle.any_kind.specs.Any.{AnyFits, AnyInputsFit, any_functional, any_output, any_ranged, any_vars}
use Rattle.any_kind.specs.declared.any.AnyKind.{AnyKind}
use Rattle.digraph.specs.Order.{IsOrder}
use Rattle.dom_core.specs.Domain.{IsDomain}
use Rattle.dom_core.specs.Ends.{Ends}
use Rattle.dom_core.specs.Rises.{first_of, last_of}
use Rattle.dom_core.specs.declared.var_id.VarId.{VarId}
use Rattle.dom_definers.specs.Definers.{definer_at}
use Rattle.dom_definers.specs.Hulls.{AreSmallHulls, hull_at, is_known, spans}
use Rattle.dom_network.specs.Completion.{reading_of}
use Rattle.dom_network.specs.Free.{free_of}
use Rattle.kind_law.specs.Laws.{AllBelow}

-- the constraints, for each variable the place of the constraint that defines it and its hull, and the domain of each free variable
pub record Network : Type 0 where
  pub constraints : List AnyKind
  pub definers : List (Option ℕ)
  pub hulls : List (Option Ends)
  pub domains : List (List ℤ)

-- the network of these parts
abbrev pub network_of : List AnyKind → List (Option ℕ) → List (Option Ends) → List (List ℤ) → Network
network_of ks ds hs domains = record { constraints = ks; definers = ds; hulls = hs; domains = domains }

-- the constraint reads so many variables, and stays far from a machine's ends over their hulls
pub record IsFitOver (hs : List (Option Ends)) (k : AnyKind) : Type 0 where
  pub below : AllBelow (length hs) (any_vars k)
  pub fits : AnyFits k (spans hs)

-- each of the constraints does
abbrev pub AreFitOver : List (Option Ends) → List AnyKind → Type 0
AreFitOver hs [] = Unit {0}
AreFitOver hs (k ∷ ks) = IsFitOver hs k × AreFitOver hs ks

-- the constraint gives the variable with this number its value, and that variable's hull is the range over its inputs' hulls
pub record Gives (hs : List (Option Ends)) (v : ℕ) (k : AnyKind) : Type 0 where
  pub functional : any_functional k ≡ true
  pub output : any_output k ≡ record { 0 = v }
  pub fits : AnyInputsFit k (spans hs)
  pub hull : hull_at hs v ≡ Some (any_ranged k (spans hs))

-- a definer is the place of a constraint that gives the variable its value
abbrev pub IsGiven : List (Option Ends) → List AnyKind → ℕ → Option ℕ → Type 0
IsGiven hs ks v None = Unit {0}
IsGiven hs ks v (Some i) = (k : AnyKind) × (slice_get ks i ≡ Some k) × Gives hs v k

-- the interval from the first to the last value
abbrev pub ends_of_values : List ℤ → Ends
ends_of_values d = record { lo = first_of d; hi = last_of d }

-- each free variable has a domain, the ends of which are its hull
abbrev pub AreDomains : List (Option Ends) → List VarId → List (List ℤ) → Type 0
AreDomains hs [] [] = Unit {0}
AreDomains hs [] (d ∷ ds) = ⊥
AreDomains hs (x ∷ xs) [] = ⊥
AreDomains hs (x ∷ xs) (d ∷ ds) = IsDomain d × (hull_at hs x.0 ≡ Some (ends_of_values d)) × AreDomains hs xs ds

-- what is asked of a network; the order has each variable once and behind what its definition reads
pub record IsNetwork (m : Network) (order : List ℕ) : Type 0 where
  pub few : length m.hulls ≤ 100000
  pub whole : length m.definers ≡ length m.hulls
  pub known : (v : ℕ) → v < length m.hulls → is_known (hull_at m.hulls v) ≡ true
  pub small : AreSmallHulls m.hulls
  pub fit : AreFitOver m.hulls m.constraints
  pub given : (v : ℕ) → v < length m.definers → IsGiven m.hulls m.constraints v (definer_at m.definers v)
  pub domains : AreDomains m.hulls (free_of m.definers) m.domains
  pub is_order : IsOrder (reading_of m.constraints m.definers) order
