-- The domains of free variables.
use Rattle.std.specs.Prelude.{◌≡◌, Option, Some, None, Result, Ok, Err, Vec, List, [], ◌∷◌, ℕ, ℤ}
use Rattle.std.specs.Global.{Global}
use Rattle.dom_core.specs.Domain.{IsDomain}
use Rattle.dom_core.specs.declared.var_id.VarId.{VarId}
use Rattle.dom_definers.specs.Domains.{AreSmallEnds}
use Rattle.dom_definers.specs.declared.variable.Variable.{Variable}
use Rattle.dom_domains.specs.Allowed.{values_of}
use Rattle.dom_domains.specs.Faults.{AreFaultless, IsFaultBy, IsFirstFault, IsFreeFault}
use Rattle.dom_domains.specs.declared.fault.DomainFault.{DomainFault}
use Rattle.dom_domains.specs.declared.fault.DomainFault.TheVariants.{Empty, Unbounded, TooLarge, Memory}

-- the ends of each declared range lie within plus and minus 2 ^ 62
abbrev pub AreSmallVariables : List Variable → Type 0
AreSmallVariables [] = Unit {0}
AreSmallVariables (v ∷ vs) = AreSmallEnds v.declared × AreSmallVariables vs

-- the lists with this one in front, where there is no definer
abbrev pub with_free : Option ℕ → List ℤ → List (List ℤ) → List (List ℤ)
with_free None xs rest = xs ∷ rest
with_free (Some i) xs rest = rest

-- the values of each variable without a definer, in order
abbrev pub free_domains : List Variable → List (Option ℕ) → List (List ℤ)
free_domains [] ds = []
free_domains (v ∷ vs) [] = []
free_domains (v ∷ vs) (d ∷ ds) = with_free d (values_of v) (free_domains vs ds)

-- each list is a domain
abbrev pub AreDomains : List (List ℤ) → Type 0
AreDomains [] = Unit {0}
AreDomains (xs ∷ rest) = IsDomain xs × AreDomains rest

-- the fault is want of memory, or this holds of it
abbrev pub IsMemoryOr : (DomainFault → Type 0) → DomainFault → Type 0
IsMemoryOr P (Empty x) = P (Empty x)
IsMemoryOr P (Unbounded x) = P (Unbounded x)
IsMemoryOr P (TooLarge x count) = P (TooLarge x count)
IsMemoryOr P Memory = Unit {0}

-- the variable with this number has no fault
abbrev pub HasNoFault : Option ℕ → Variable → VarId → Type 0
HasNoFault d v x = (f : DomainFault) → IsFaultBy d v x f → ⊥

-- the free variable with this number has no fault, and the list is its domain
pub record IsFreeDomain (v : Variable) (x : VarId) (xs : List ℤ) : Type 0 where
  pub values : xs ≡ values_of v
  pub is_domain : IsDomain xs
  pub faultless : HasNoFault None v x

-- the domain of the free variable with this number, or its fault
abbrev pub GivesFreeDomain : Variable → VarId → Result (List ℤ) DomainFault → Type 0
GivesFreeDomain v x (Ok xs) = IsFreeDomain v x xs
GivesFreeDomain v x (Err f) = IsMemoryOr (IsFreeFault v x) f

-- no variable has a fault, and the lists are the domains of the free ones, in order
pub record AreFreeDomains (vs : List Variable) (ds : List (Option ℕ)) (xss : List (List ℤ)) : Type 0 where
  pub faultless : AreFaultless vs ds
  pub values : xss ≡ free_domains vs ds
  pub are_domains : AreDomains xss

-- the domains of the free variables, or what the first variable with a fault has, or memory is wanting
abbrev pub GivesFreeDomains : List Variable → List (Option ℕ) → Result (Vec (List ℤ) Global) DomainFault → Type 0
GivesFreeDomains vs ds (Ok domains) = AreFreeDomains vs ds domains.items
GivesFreeDomains vs ds (Err f) = IsMemoryOr (IsFirstFault vs ds) f
