-- What declared names are.
use Rattle.std.specs.Prelude.{◌≡◌, Bool, true, false, List, ℕ}
use Rattle.fzn_syntax.specs.declared.declaration.Declaration.{Declaration}
use Rattle.fzn_syntax.specs.declared.declaration.Declaration.TheVariants.{Parameter, Variable, ParameterArray, VariableArray}
use Rattle.fzn_symbols.specs.declared.base.Base.{Base}
use Rattle.fzn_symbols.specs.declared.sort.Sort.{Sort}
use Rattle.fzn_symbols.specs.Bases.{base_of_parameter, base_of_variable}
use Rattle.fzn_symbols.specs.Named.{IsNamed}

-- a sort by its parts
abbrev pub sort : Base → Bool → Bool → Sort
sort base is_variable is_array = record { base = base; is_variable = is_variable; is_array = is_array }

-- the sort of what is declared
abbrev pub sort_of : Declaration → Sort
sort_of (Parameter p) = sort (base_of_parameter p.element) false false
sort_of (Variable v) = sort (base_of_variable v.element) true false
sort_of (ParameterArray a) = sort (base_of_parameter a.entries.element) false true
sort_of (VariableArray a) = sort (base_of_variable a.element) true true

-- the name is declared, and is of this sort
abbrev pub Names : List Declaration → List ℕ → Sort → Type 0
Names ds n s = (d : Declaration) × IsNamed ds n d × (sort_of d ≡ s)
