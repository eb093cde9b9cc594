-- The first variable whose declaration gives it no domain.
use Rattle.std.specs.Prelude.{◌≡◌, ◌<◌, Option, Some, None, List, [], ℕ, length, slice_get}
use Rattle.dom_core.specs.declared.var_id.VarId.{VarId}
use Rattle.dom_definers.specs.Definers.{definer_at}
use Rattle.dom_definers.specs.declared.form.Declared.{Declared}
use Rattle.dom_definers.specs.declared.form.Declared.TheVariants.{Any, Range, Values}
use Rattle.dom_definers.specs.declared.form.Form.{Form}
use Rattle.dom_definers.specs.declared.form.Form.TheVariants.{Bool as Truths, Int}
use Rattle.dom_definers.specs.declared.variable.Variable.{Variable}
use Rattle.dom_domains.specs.Allowed.{form_values}
use Rattle.dom_domains.specs.declared.fault.DomainFault.{DomainFault}
use Rattle.dom_domains.specs.declared.fault.DomainFault.TheVariants.{Empty, Unbounded, TooLarge, Memory}

-- nothing is declared, so every integer is allowed
abbrev pub IsOpen : Form → Declared → Type 0
IsOpen Truths d = ⊥
IsOpen Int Any = Unit {0}
IsOpen Int (Range lo hi) = ⊥
IsOpen Int (Values vs) = ⊥

-- what is declared allows no value
pub record IsEmptyDeclared (v : Variable) : Type 0 where
  pub closed : IsOpen v.form v.declared → ⊥
  pub none : form_values v.form v.declared ≡ []

-- the free variable with this number has this fault: nothing is declared, no value is allowed, or more than 4096 are
abbrev pub IsFreeFault : Variable → VarId → DomainFault → Type 0
IsFreeFault v x (Empty y) = (y ≡ x) × IsEmptyDeclared v
IsFreeFault v x (Unbounded y) = (y ≡ x) × IsOpen v.form v.declared
IsFreeFault v x (TooLarge y count) = (y ≡ x) × (4096 < count) × (count ≡ length (form_values v.form v.declared))
IsFreeFault v x Memory = ⊥

-- the defined variable with this number has this fault: no value is allowed
abbrev pub IsDefinedFault : Variable → VarId → DomainFault → Type 0
IsDefinedFault v x (Empty y) = (y ≡ x) × IsEmptyDeclared v
IsDefinedFault v x (Unbounded y) = ⊥
IsDefinedFault v x (TooLarge y count) = ⊥
IsDefinedFault v x Memory = ⊥

-- the variable has this fault, where this is its definer
abbrev pub IsFaultBy : Option ℕ → Variable → VarId → DomainFault → Type 0
IsFaultBy None v x f = IsFreeFault v x f
IsFaultBy (Some i) v x f = IsDefinedFault v x f

-- the variable with this number has this fault
abbrev pub IsFaultAt : List Variable → List (Option ℕ) → ℕ → DomainFault → Type 0
IsFaultAt vs ds n f = (v : Variable) × (slice_get vs n ≡ Some v) × IsFaultBy (definer_at ds n) v (record { 0 = n }) f

-- no variable has a fault
abbrev pub AreFaultless : List Variable → List (Option ℕ) → Type 0
AreFaultless vs ds = (n : ℕ) (f : DomainFault) → IsFaultAt vs ds n f → ⊥

-- this is what the first variable with a fault has
pub record IsFirstFault (vs : List Variable) (ds : List (Option ℕ)) (f : DomainFault) : Type 0 where
  pub place : ℕ
  pub fault : IsFaultAt vs ds place f
  pub first : (n : ℕ) (g : DomainFault) → n < place → IsFaultAt vs ds n g → ⊥
