-- Which expressions are constants, or variables, of a base type.
use Rattle.std.specs.Prelude.{◌≡◌, ◌⊎◌, ℕ, true, false, List, All}
use Rattle.std.specs.List.{list_all}
use Rattle.fzn_syntax.specs.declared.declaration.Declaration.{Declaration}
use Rattle.fzn_syntax.specs.declared.expression.Basic.{Basic}
use Rattle.fzn_syntax.specs.declared.expression.Basic.TheVariants as basics
use Rattle.fzn_syntax.specs.declared.expression.Expression.{Expression}
use Rattle.fzn_syntax.specs.declared.expression.Expression.TheVariants as expressions
use Rattle.fzn_symbols.specs.declared.base.Base.{Base}
use Rattle.fzn_symbols.specs.declared.base.Base.TheVariants as bases
use Rattle.fzn_symbols.specs.declared.typing.Instantiation.{Instantiation}
use Rattle.fzn_symbols.specs.declared.typing.Instantiation.TheVariants as instantiations
use Rattle.fzn_symbols.specs.Bases.{is_integer}
use Rattle.fzn_symbols.specs.Sorts.{sort, Names}

-- names of scalars of this base type serve here: those of parameters, and those of variables where variables may stand
abbrev pub NamesScalar : List Declaration → Instantiation → Base → List ℕ → Type 0
NamesScalar ds instantiations.Constant base n = Names ds n (sort base false false)
NamesScalar ds instantiations.Entry base n = Names ds n (sort base false false) ⊎ Names ds n (sort base true false)

-- the expression is a literal of this base type, or names a scalar that serves here
abbrev pub Fits : List Declaration → Instantiation → Base → Basic → Type 0
Fits ds r base basics.True = base ≡ bases.Bool
Fits ds r base basics.False = base ≡ bases.Bool
Fits ds r base (basics.Name n) = NamesScalar ds r base n.name
Fits ds r base (basics.Number z) = (base ≡ bases.Int) × (is_integer z ≡ true)
Fits ds r base (basics.Range b) = (base ≡ bases.Set) × (is_integer b.lower ≡ true) × (is_integer b.upper ≡ true)
Fits ds r base (basics.Set ns) = (base ≡ bases.Set) × (list_all is_integer ns ≡ true)

-- the expression is one such literal or name, and no list
abbrev pub IsScalar : List Declaration → Instantiation → Base → Expression → Type 0
IsScalar ds r base (expressions.Basic b) = Fits ds r base b
IsScalar ds r base (expressions.List bs) = ⊥

-- each of them does
abbrev pub AllFit : List Declaration → Instantiation → Base → List Basic → Type 0
AllFit ds r base bs = All (Fits ds r base) bs
