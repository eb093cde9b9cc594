-- The domain of a declaration.
use Rattle.std.specs.Prelude.{Option, Some, None, Result, Ok, Err, List, ℤ, pos}
use Rattle.dom_core.specs.Domain.{IsRange, IsOfValues}
use Rattle.dom_core.specs.Small.{IsSmall}
use Rattle.dom_core.specs.declared.domain.DomainError.{DomainError}
use Rattle.dom_definers.specs.declared.form.Declared.{Declared}
use Rattle.dom_definers.specs.declared.form.Declared.TheVariants.{Any, Range, Values}
use Rattle.dom_definers.specs.declared.form.Form.{Form}
use Rattle.dom_definers.specs.declared.form.Form.TheVariants.{Bool as Truths, Int}
use Rattle.dom_definers.specs.declared.variable.Variable.{Variable}

-- the ends of a range lie within plus and minus 2 ^ 62
abbrev pub AreSmallEnds : Declared → Type 0
AreSmallEnds Any = Unit {0}
AreSmallEnds (Range lo hi) = IsSmall lo × IsSmall hi
AreSmallEnds (Values vs) = Unit {0}

-- the declaration says nothing, or this is what building the domain of its integers answers
abbrev pub IsIntegerDomain : Declared → Option (Result (List ℤ) DomainError) → Type 0
IsIntegerDomain Any None = Unit {0}
IsIntegerDomain Any (Some r) = ⊥
IsIntegerDomain (Range lo hi) None = ⊥
IsIntegerDomain (Range lo hi) (Some r) = IsRange lo hi r
IsIntegerDomain (Values vs) None = ⊥
IsIntegerDomain (Values vs) (Some r) = IsOfValues vs r

-- likewise for the values of a form
abbrev pub IsFormDomain : Form → Declared → Option (Result (List ℤ) DomainError) → Type 0
IsFormDomain Truths d None = ⊥
IsFormDomain Truths d (Some r) = IsRange (pos 0) (pos 1) r
IsFormDomain Int d r = IsIntegerDomain d r

-- the variable's declaration says nothing, or this is what building its domain answers
abbrev pub IsDomainOf : Variable → Option (Result (List ℤ) DomainError) → Type 0
IsDomainOf v r = IsFormDomain v.form v.declared r

-- a domain, none, or why there is none
abbrev pub GivesDomain : (Option (Result (List ℤ) DomainError) → Type 0) → Result (Option (List ℤ)) DomainError → Type 0
GivesDomain P (Ok None) = P None
GivesDomain P (Ok (Some d)) = P (Some (Ok d))
GivesDomain P (Err e) = P (Some (Err e))
