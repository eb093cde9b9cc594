-- Which literal an expression stands for.
use Rattle.std.specs.Prelude.{◌≡◌, ℕ, Bool, true, false, List, Option, None, Some}
use Rattle.fzn_syntax.specs.declared.declaration.Declaration.{Declaration}
use Rattle.fzn_syntax.specs.declared.declaration.Declaration.TheVariants.{Parameter, Variable, ParameterArray, VariableArray}
use Rattle.fzn_syntax.specs.declared.element.ParameterType.{ParameterType}
use Rattle.fzn_syntax.specs.declared.element.ParameterType.TheVariants as types
use Rattle.fzn_syntax.specs.declared.expression.Basic.{Basic}
use Rattle.fzn_syntax.specs.declared.expression.Basic.TheVariants as basics
use Rattle.fzn_syntax.specs.declared.expression.Expression.{Expression}
use Rattle.fzn_syntax.specs.declared.expression.Expression.TheVariants as expressions
use Rattle.fzn_symbols.specs.Bases.{is_integer}
use Rattle.fzn_symbols.specs.Named.{IsNamed}
use Rattle.fzn_values.specs.declared.literal.LiteralKind.{LiteralKind}
use Rattle.fzn_values.specs.declared.literal.LiteralKind.TheVariants as literals

-- a truth value as it is written
abbrev pub is_truth : Basic → Bool
is_truth basics.True = true
is_truth basics.False = true
is_truth (basics.Name n) = false
is_truth (basics.Number z) = false
is_truth (basics.Range b) = false
is_truth (basics.Set zs) = false

-- an integer as it is written
abbrev pub is_number : Basic → Bool
is_number basics.True = false
is_number basics.False = false
is_number (basics.Name n) = false
is_number (basics.Number z) = is_integer z
is_number (basics.Range b) = false
is_number (basics.Set zs) = false

-- the expression is such a literal
abbrev pub is_literal : LiteralKind → Expression → Bool
is_literal literals.Boolean (expressions.Basic b) = is_truth b
is_literal literals.Boolean (expressions.List bs) = false
is_literal literals.Integer (expressions.Basic b) = is_number b
is_literal literals.Integer (expressions.List bs) = false
is_literal literals.List (expressions.Basic b) = false
is_literal literals.List (expressions.List bs) = true

-- the name that stands alone
abbrev pub name_in : Basic → Option (List ℕ)
name_in basics.True = None
name_in basics.False = None
name_in (basics.Name n) = Some n.name
name_in (basics.Number z) = None
name_in (basics.Range b) = None
name_in (basics.Set zs) = None

-- the name that is the whole expression
abbrev pub named_by : Expression → Option (List ℕ)
named_by (expressions.Basic b) = name_in b
named_by (expressions.List bs) = None

-- the value of a parameter where it is a truth value
abbrev pub boolean_value : ParameterType → Expression → Option Expression
boolean_value types.Bool v = Some v
boolean_value types.Int v = None
boolean_value types.Float v = None
boolean_value (types.SetOf e) v = None

-- the value of a parameter where it is an integer
abbrev pub integer_value : ParameterType → Expression → Option Expression
integer_value types.Bool v = None
integer_value types.Int v = Some v
integer_value types.Float v = None
integer_value (types.SetOf e) v = None

-- the value of a declaration whose name may stand for such a literal: of a Boolean or an integer parameter, or of an array
abbrev pub value_for : LiteralKind → Declaration → Option Expression
value_for literals.Boolean (Parameter p) = boolean_value p.element p.value
value_for literals.Boolean (Variable v) = None
value_for literals.Boolean (ParameterArray a) = None
value_for literals.Boolean (VariableArray a) = None
value_for literals.Integer (Parameter p) = integer_value p.element p.value
value_for literals.Integer (Variable v) = None
value_for literals.Integer (ParameterArray a) = None
value_for literals.Integer (VariableArray a) = None
value_for literals.List (Parameter p) = None
value_for literals.List (Variable v) = None
value_for literals.List (ParameterArray a) = Some a.entries.value
value_for literals.List (VariableArray a) = Some a.value

-- the first is this literal, or names a declaration whose value stands for it
pub data StandsFor (ds : List Declaration) (literal : LiteralKind) : Expression → Expression → Type 0 where
  itself : {e l : Expression} → is_literal literal e ≡ true → l ≡ e → StandsFor ds literal e l
  through : {e l : Expression} (n : List ℕ) (d : Declaration) (v : Expression) → named_by e ≡ Some n → IsNamed ds n d → value_for literal d ≡ Some v → StandsFor ds literal v l → StandsFor ds literal e l
