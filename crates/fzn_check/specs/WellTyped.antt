-- Which declarations are right, floats and set variables aside.
use Rattle.std.specs.Prelude.{◌≡◌, ℕ, ℤ, pos, ◌≤ℤ◌, List, length, MatchOption}
use Rattle.fzn_syntax.specs.declared.declaration.IndexRange.{IndexRange}
use Rattle.fzn_syntax.specs.declared.declaration.Declaration.{Declaration}
use Rattle.fzn_syntax.specs.declared.declaration.Declaration.TheVariants as declarations
use Rattle.fzn_syntax.specs.declared.declaration.VariableDeclaration.{VariableDeclaration}
use Rattle.fzn_syntax.specs.declared.declaration.VariableArray.{VariableArray}
use Rattle.fzn_syntax.specs.declared.expression.Basic.{Basic}
use Rattle.fzn_syntax.specs.declared.expression.Basic.TheVariants as basics
use Rattle.fzn_syntax.specs.declared.expression.Expression.{Expression}
use Rattle.fzn_syntax.specs.declared.expression.Expression.TheVariants as expressions
use Rattle.fzn_symbols.specs.declared.base.Base.{Base}
use Rattle.fzn_symbols.specs.declared.typing.Instantiation.{Instantiation}
use Rattle.fzn_symbols.specs.declared.typing.Instantiation.TheVariants as instantiations
use Rattle.fzn_symbols.specs.Bases.{base_of_parameter, base_of_variable}
use Rattle.fzn_symbols.specs.Named.{IsNamed}
use Rattle.fzn_symbols.specs.Typing.{IsScalar, AllFit}
use Rattle.fzn_check.specs.OutputArrays.{AreOutputArraysOf}

-- the indices begin with 1 and end with 0 or above
abbrev pub IsIndex : IndexRange → Type 0
IsIndex r = (r.first ≡ pos 1) × (pos 0 ≤ℤ r.last)

-- a list of so many literals or names that fit
abbrev pub AreEntries : List Declaration → Instantiation → Base → ℤ → Expression → Type 0
AreEntries ds r base last (expressions.Basic b) = ⊥
AreEntries ds r base last (expressions.List bs) = (last ≡ pos (length bs)) × AllFit ds r base bs

-- an array of parameters of this base type with this last index
abbrev pub IsParameters : Base → ℤ → Declaration → Type 0
IsParameters base last (declarations.ParameterArray a) = (base_of_parameter a.entries.element ≡ base) × (a.index.last ≡ last)
IsParameters base last (declarations.Parameter p) = ⊥
IsParameters base last (declarations.Variable v) = ⊥
IsParameters base last (declarations.VariableArray a) = ⊥

-- a declaration of this name is such an array
abbrev pub NamesParameters : List Declaration → Base → ℤ → List ℕ → Type 0
NamesParameters ds base last n = (d : Declaration) × IsNamed ds n d × IsParameters base last d

-- the name of such an array
abbrev pub IsArray : List Declaration → Base → ℤ → Basic → Type 0
IsArray ds base last (basics.Name n) = NamesParameters ds base last n.name
IsArray ds base last basics.True = ⊥
IsArray ds base last basics.False = ⊥
IsArray ds base last (basics.Number z) = ⊥
IsArray ds base last (basics.Range b) = ⊥
IsArray ds base last (basics.Set zs) = ⊥

-- a list of so many constants, or the name of an array of so many parameters
abbrev pub AreConstants : List Declaration → Base → ℤ → Expression → Type 0
AreConstants ds base last (expressions.Basic b) = IsArray ds base last b
AreConstants ds base last (expressions.List bs) = (last ≡ pos (length bs)) × AllFit ds instantiations.Constant base bs

-- there is no value, or one that fits
abbrev pub IsWellTypedValue : List Declaration → VariableDeclaration → Type 0
IsWellTypedValue ds v = MatchOption v.value (Unit {0}) (IsScalar ds instantiations.Entry (base_of_variable v.element))

-- as many entries that fit as the last index says, and each mark for printing with index sets of as many places
abbrev pub IsWellTypedArray : List Declaration → VariableArray → Type 0
IsWellTypedArray ds a = IsIndex a.index × AreEntries ds instantiations.Entry (base_of_variable a.element) a.index.last a.value × AreOutputArraysOf a

-- the declaration is right; floats, set variables and cycles are not looked at
abbrev pub IsWellTyped : List Declaration → Declaration → Type 0
IsWellTyped ds (declarations.Parameter p) = IsScalar ds instantiations.Constant (base_of_parameter p.element) p.value
IsWellTyped ds (declarations.Variable v) = IsWellTypedValue ds v
IsWellTyped ds (declarations.ParameterArray a) = IsIndex a.index × AreConstants ds (base_of_parameter a.entries.element) a.index.last a.entries.value
IsWellTyped ds (declarations.VariableArray a) = IsWellTypedArray ds a
