-- Which expressions have a float, or name a float or a set variable.
use Rattle.std.specs.Prelude.{◌≡◌, ◌⊎◌, ℕ, List}
use Rattle.std.specs.List.{Any}
use Rattle.fzn_syntax.specs.declared.declaration.Declaration.{Declaration}
use Rattle.fzn_syntax.specs.declared.expression.Basic.{Basic}
use Rattle.fzn_syntax.specs.declared.expression.Basic.TheVariants as basics
use Rattle.fzn_syntax.specs.declared.expression.Expression.{Expression}
use Rattle.fzn_syntax.specs.declared.expression.Expression.TheVariants as expressions
use Rattle.fzn_syntax.specs.declared.number.Number.{Number}
use Rattle.fzn_syntax.specs.declared.number.Number.TheVariants as numbers
use Rattle.fzn_symbols.specs.declared.base.Base.TheVariants as bases
use Rattle.fzn_symbols.specs.Named.{IsNamed}
use Rattle.fzn_symbols.specs.Sorts.{sort_of}

-- the number is written as a float
abbrev pub IsFloat : Number → Type 0
IsFloat (numbers.Int z) = ⊥
IsFloat (numbers.Float text) = Unit {0}

-- the declaration is of a float or of a set variable, or of an array of them
abbrev pub IsFloatOrSet : Declaration → Type 0
IsFloatOrSet d = (sort_of d).base ≡ bases.FloatOrSet

-- a declaration of this name is
abbrev pub NamesFloatOrSet : List Declaration → List ℕ → Type 0
NamesFloatOrSet ds n = (d : Declaration) × IsNamed ds n d × IsFloatOrSet d

-- it is such a name, or a float number stands in it
abbrev pub BasicHasFloatOrSet : List Declaration → Basic → Type 0
BasicHasFloatOrSet ds basics.True = ⊥
BasicHasFloatOrSet ds basics.False = ⊥
BasicHasFloatOrSet ds (basics.Name n) = NamesFloatOrSet ds n.name
BasicHasFloatOrSet ds (basics.Number z) = IsFloat z
BasicHasFloatOrSet ds (basics.Range b) = IsFloat b.lower ⊎ IsFloat b.upper
BasicHasFloatOrSet ds (basics.Set zs) = Any IsFloat zs

-- such a name or a float number stands in the expression
abbrev pub HasFloatOrSet : List Declaration → Expression → Type 0
HasFloatOrSet ds (expressions.Basic b) = BasicHasFloatOrSet ds b
HasFloatOrSet ds (expressions.List bs) = Any (BasicHasFloatOrSet ds) bs
