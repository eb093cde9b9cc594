-- The values of declarations.
use Rattle.std.specs.Prelude.{Option, Some}
use Rattle.fzn_syntax.specs.declared.declaration.Declaration.{Declaration}
use Rattle.fzn_syntax.specs.declared.declaration.Declaration.TheVariants.{Parameter, Variable, ParameterArray, VariableArray}
use Rattle.fzn_syntax.specs.declared.expression.Expression.{Expression}

-- what stands behind the equals sign; only a variable may have none
abbrev pub value_of : Declaration → Option Expression
value_of (Parameter p) = Some p.value
value_of (Variable v) = v.value
value_of (ParameterArray a) = Some a.entries.value
value_of (VariableArray a) = Some a.value
