-- What the arguments of a constraint stand for by their types.
use Rattle.std.specs.Prelude.{◌≡◌, ℤ, List, [], ◌∷◌}
use Rattle.dom_core.specs.declared.arg.Arg.{Arg}
use Rattle.dom_definers.specs.declared.form.Form.{Form}
use Rattle.dom_definers.specs.declared.form.Form.TheVariants as forms
use Rattle.fzn_arguments.specs.Arguments.{AreArgsOf, IsScalarArg}
use Rattle.fzn_forms.specs.declared.argument.Argument.{Argument}
use Rattle.fzn_forms.specs.declared.argument.Argument.TheVariants.{Integer, Integers, Scalar, Array}
use Rattle.fzn_signatures.specs.declared.argument_type.ArgumentType.{ArgumentType}
use Rattle.fzn_signatures.specs.declared.argument_type.ArgumentType.TheVariants as types
use Rattle.fzn_syntax.specs.declared.declaration.Declaration.{Declaration}
use Rattle.fzn_syntax.specs.declared.expression.Expression.{Expression}
use Rattle.fzn_syntax.specs.declared.expression.Expression.TheVariants as expressions
use Rattle.fzn_values.specs.Constants.{IsIntOf, AreIntsOf}

-- the expression has this integer as its value, and is no list
abbrev pub IsConstant : List Declaration → Expression → ℤ → Type 0
IsConstant ds (expressions.Basic b) z = IsIntOf ds b z
IsConstant ds (expressions.List bs) z = ⊥

-- the argument is the integer that the expression has as its value
abbrev pub IsInteger : List Declaration → Expression → Argument → Type 0
IsInteger ds e a = (z : ℤ) × (a ≡ Integer z) × IsConstant ds e z

-- the argument is the integers of the list that the expression stands for
abbrev pub AreIntegers : List Declaration → Expression → Argument → Type 0
AreIntegers ds e a = (zs : List ℤ) × (a ≡ Integers zs) × AreIntsOf ds e zs

-- the argument is the constant or the variable of this form that the expression stands for
abbrev pub IsScalar : List Declaration → Form → Expression → Argument → Type 0
IsScalar ds form e a = (x : Arg) × (a ≡ Scalar x) × IsScalarArg ds form e x

-- the argument is the constants and variables of this form in the list that the expression stands for
abbrev pub IsArray : List Declaration → Form → Expression → Argument → Type 0
IsArray ds form e a = (xs : List Arg) × (a ≡ Array xs) × AreArgsOf ds form e xs

-- the argument is what the expression stands for as one of this type; sets and arrays of truth values aren't built
abbrev pub IsReadAs : List Declaration → ArgumentType → Expression → Argument → Type 0
IsReadAs ds types.ConstantInteger e a = IsInteger ds e a
IsReadAs ds types.Set e a = ⊥
IsReadAs ds types.ConstantIntegerArray e a = AreIntegers ds e a
IsReadAs ds types.ConstantBooleanArray e a = ⊥
IsReadAs ds types.Integer e a = IsScalar ds forms.Int e a
IsReadAs ds types.Boolean e a = IsScalar ds forms.Bool e a
IsReadAs ds types.IntegerArray e a = IsArray ds forms.Int e a
IsReadAs ds types.BooleanArray e a = IsArray ds forms.Bool e a

-- there are as many expressions as types, and the arguments are what they stand for, one by one
abbrev pub AreReadAs : List Declaration → List ArgumentType → List Expression → List Argument → Type 0
AreReadAs ds [] [] [] = Unit {0}
AreReadAs ds [] [] (a ∷ args) = ⊥
AreReadAs ds [] (e ∷ es) args = ⊥
AreReadAs ds (t ∷ ts) [] args = ⊥
AreReadAs ds (t ∷ ts) (e ∷ es) [] = ⊥
AreReadAs ds (t ∷ ts) (e ∷ es) (a ∷ args) = IsReadAs ds t e a × AreReadAs ds ts es args
