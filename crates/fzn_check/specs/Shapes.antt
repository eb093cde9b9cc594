-- What arguments have to meet beyond their types.
use Rattle.std.specs.Prelude.{◌≡◌, ℕ, ℤ, pos, List, length, slice_get, Option, None, Some}
use Rattle.fzn_syntax.specs.declared.declaration.Declaration.{Declaration}
use Rattle.fzn_syntax.specs.declared.declaration.Declaration.TheVariants.{Parameter, Variable, ParameterArray, VariableArray}
use Rattle.fzn_syntax.specs.declared.expression.Basic.{Basic}
use Rattle.fzn_syntax.specs.declared.expression.Basic.TheVariants as basics
use Rattle.fzn_syntax.specs.declared.expression.Expression.{Expression}
use Rattle.fzn_syntax.specs.declared.expression.Expression.TheVariants as expressions
use Rattle.fzn_signatures.specs.declared.shape.Shape.{Shape}
use Rattle.fzn_signatures.specs.declared.shape.Shape.TheVariants as shapes
use Rattle.fzn_symbols.specs.Named.{IsNamed}
use Rattle.fzn_values.specs.Constants.{AreIntsOf}

-- the last index of an array, which is its length
abbrev pub last_of : Declaration → Option ℤ
last_of (Parameter p) = None
last_of (Variable v) = None
last_of (ParameterArray a) = Some a.index.last
last_of (VariableArray a) = Some a.index.last

-- the name of an array of this length
abbrev pub IsLengthOfName : List Declaration → Basic → ℤ → Type 0
IsLengthOfName ds basics.True z = ⊥
IsLengthOfName ds basics.False z = ⊥
IsLengthOfName ds (basics.Name n) z = (d : Declaration) × IsNamed ds n.name d × (last_of d ≡ Some z)
IsLengthOfName ds (basics.Number x) z = ⊥
IsLengthOfName ds (basics.Range b) z = ⊥
IsLengthOfName ds (basics.Set zs) z = ⊥

-- the expression is an array of this length, as it is written or as it is declared
abbrev pub IsLength : List Declaration → Expression → ℤ → Type 0
IsLength ds (expressions.Basic b) z = IsLengthOfName ds b z
IsLength ds (expressions.List bs) z = z ≡ pos (length bs)

-- two arrays have one length
abbrev pub HaveOneLength : List Declaration → Expression → Expression → Type 0
HaveOneLength ds a b = (z : ℤ) × IsLength ds a z × IsLength ds b z

-- the arguments at these places have one length
abbrev pub HaveOneLengthAt : List Declaration → List Expression → ℕ → ℕ → Type 0
HaveOneLengthAt ds es i j = (a : Expression) × (b : Expression) × (slice_get es i ≡ Some a) × (slice_get es j ≡ Some b) × HaveOneLength ds a b

-- no integer stands at two places
abbrev pub AreDifferent : List ℤ → Type 0
AreDifferent zs = (i j : ℕ) (z : ℤ) → slice_get zs i ≡ Some z → slice_get zs j ≡ Some z → i ≡ j

-- the expression stands for integers that are different
abbrev pub HasDifferent : List Declaration → Expression → Type 0
HasDifferent ds e = (zs : List ℤ) × AreIntsOf ds e zs × AreDifferent zs

-- the argument at this place does
abbrev pub HasDifferentAt : List Declaration → List Expression → ℕ → Type 0
HasDifferentAt ds es i = (e : Expression) × (slice_get es i ≡ Some e) × HasDifferent ds e

-- a sum has as many coefficients as values, and the numbers that are counted are different and as many as their counts
abbrev pub MeetsShape : List Declaration → Shape → List Expression → Type 0
MeetsShape ds (shapes.Linear r) es = HaveOneLengthAt ds es 0 1
MeetsShape ds (shapes.LinearReified r) es = HaveOneLengthAt ds es 0 1
MeetsShape ds shapes.Cardinality es = HaveOneLengthAt ds es 1 2 × HasDifferentAt ds es 1
MeetsShape ds shape es = Unit {0}
