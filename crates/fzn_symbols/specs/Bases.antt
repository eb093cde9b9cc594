-- The base types of parameters and variables.
use Rattle.std.specs.Prelude.{Bool, true, false, ◌&&◌, if◌then◌else◌}
use Rattle.std.specs.List.{list_all}
use Rattle.fzn_syntax.specs.declared.number.Number.{Number}
use Rattle.fzn_syntax.specs.declared.number.Number.TheVariants as numbers
use Rattle.fzn_syntax.specs.declared.element.Element.{Element}
use Rattle.fzn_syntax.specs.declared.element.Element.TheVariants as elements
use Rattle.fzn_syntax.specs.declared.element.ParameterType.{ParameterType}
use Rattle.fzn_syntax.specs.declared.element.ParameterType.TheVariants as parameters
use Rattle.fzn_syntax.specs.declared.element.VariableType.{VariableType}
use Rattle.fzn_syntax.specs.declared.element.VariableType.TheVariants as variables
use Rattle.fzn_symbols.specs.declared.base.Base.{Base}
use Rattle.fzn_symbols.specs.declared.base.Base.TheVariants as bases

-- the number is an integer
abbrev pub is_integer : Number → Bool
is_integer (numbers.Int z) = true
is_integer (numbers.Float text) = false

-- the element holds integers alone
abbrev pub is_integer_element : Element → Bool
is_integer_element elements.Int = true
is_integer_element elements.Float = false
is_integer_element (elements.Range b) = is_integer b.lower && is_integer b.upper
is_integer_element (elements.Set ns) = list_all is_integer ns

-- the base type of a parameter
abbrev pub base_of_parameter : ParameterType → Base
base_of_parameter parameters.Bool = bases.Bool
base_of_parameter parameters.Int = bases.Int
base_of_parameter parameters.Float = bases.FloatOrSet
base_of_parameter (parameters.SetOf e) = if is_integer_element e then bases.Set else bases.FloatOrSet

-- the base type of a variable
abbrev pub base_of_variable : VariableType → Base
base_of_variable variables.Bool = bases.Bool
base_of_variable (variables.Plain e) = if is_integer_element e then bases.Int else bases.FloatOrSet
base_of_variable (variables.SetOf e) = bases.FloatOrSet
