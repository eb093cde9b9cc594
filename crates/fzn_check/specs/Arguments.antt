-- Which expressions are of the type that an argument is to have.
use Rattle.std.specs.Prelude.{◌≡◌, ◌⊎◌, ℕ, true, false, List, length, slice_get, Some}
use Rattle.fzn_syntax.specs.declared.declaration.Declaration.{Declaration}
use Rattle.fzn_syntax.specs.declared.expression.Basic.{Basic}
use Rattle.fzn_syntax.specs.declared.expression.Basic.TheVariants as basics
use Rattle.fzn_syntax.specs.declared.expression.Expression.{Expression}
use Rattle.fzn_syntax.specs.declared.expression.Expression.TheVariants as expressions
use Rattle.fzn_signatures.specs.declared.argument_type.ArgumentType.{ArgumentType}
use Rattle.fzn_signatures.specs.declared.argument_type.ArgumentType.TheVariants as types
use Rattle.fzn_symbols.specs.declared.base.Base.{Base}
use Rattle.fzn_symbols.specs.declared.base.Base.TheVariants as bases
use Rattle.fzn_symbols.specs.declared.typing.Instantiation.{Instantiation}
use Rattle.fzn_symbols.specs.declared.typing.Instantiation.TheVariants as instantiations
use Rattle.fzn_symbols.specs.Sorts.{sort, Names}
use Rattle.fzn_symbols.specs.Typing.{IsScalar, AllFit}

-- names of arrays of this base type serve here: those of parameters, and those of variables where variables may stand
abbrev pub NamesArray : List Declaration → Instantiation → Base → List ℕ → Type 0
NamesArray ds instantiations.Constant base n = Names ds n (sort base false true)
NamesArray ds instantiations.Entry base n = Names ds n (sort base false true) ⊎ Names ds n (sort base true true)

-- the expression is such a name
abbrev pub IsArrayName : List Declaration → Instantiation → Base → Basic → Type 0
IsArrayName ds r base basics.True = ⊥
IsArrayName ds r base basics.False = ⊥
IsArrayName ds r base (basics.Name n) = NamesArray ds r base n.name
IsArrayName ds r base (basics.Number z) = ⊥
IsArrayName ds r base (basics.Range b) = ⊥
IsArrayName ds r base (basics.Set zs) = ⊥

-- a list of literals and names that fit, or the name of an array
abbrev pub IsArray : List Declaration → Instantiation → Base → Expression → Type 0
IsArray ds r base (expressions.Basic b) = IsArrayName ds r base b
IsArray ds r base (expressions.List bs) = AllFit ds r base bs

-- the expression is of this type
abbrev pub IsOfType : List Declaration → ArgumentType → Expression → Type 0
IsOfType ds types.ConstantInteger e = IsScalar ds instantiations.Constant bases.Int e
IsOfType ds types.Set e = IsScalar ds instantiations.Constant bases.Set e
IsOfType ds types.ConstantIntegerArray e = IsArray ds instantiations.Constant bases.Int e
IsOfType ds types.ConstantBooleanArray e = IsArray ds instantiations.Constant bases.Bool e
IsOfType ds types.Integer e = IsScalar ds instantiations.Entry bases.Int e
IsOfType ds types.Boolean e = IsScalar ds instantiations.Entry bases.Bool e
IsOfType ds types.IntegerArray e = IsArray ds instantiations.Entry bases.Int e
IsOfType ds types.BooleanArray e = IsArray ds instantiations.Entry bases.Bool e

-- an argument of this type stands at this place
abbrev pub IsArgumentAt : List Declaration → ArgumentType → List Expression → ℕ → Type 0
IsArgumentAt ds t es k = (e : Expression) × (slice_get es k ≡ Some e) × IsOfType ds t e

-- there are as many arguments as types, and each is of its type
abbrev pub AreArguments : List Declaration → List ArgumentType → List Expression → Type 0
AreArguments ds ts es = (length es ≡ length ts) × ((k : ℕ) (t : ArgumentType) → slice_get ts k ≡ Some t → IsArgumentAt ds t es k)
