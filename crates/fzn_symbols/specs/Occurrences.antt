-- Where names stand in items.
use Rattle.std.specs.Prelude.{List, [], ◌∷◌, ◌++◌, Option, Some, None}
use Rattle.std.specs.List.{flat_map}
use Rattle.fzn_symbols.specs.declared.occurrence.Role.{Role}
use Rattle.fzn_symbols.specs.declared.occurrence.Role.TheVariants.{Declares, Uses}
use Rattle.fzn_symbols.specs.Numbered.{Mark}
use Rattle.fzn_symbols.specs.Named.{identifier_of}
use Rattle.fzn_syntax.specs.declared.constraint.Constraint.{Constraint}
use Rattle.fzn_syntax.specs.declared.declaration.Declaration.{Declaration}
use Rattle.fzn_syntax.specs.declared.declaration.Declaration.TheVariants as declarations
use Rattle.fzn_syntax.specs.declared.expression.Basic.{Basic}
use Rattle.fzn_syntax.specs.declared.expression.Basic.TheVariants as basics
use Rattle.fzn_syntax.specs.declared.expression.Expression.{Expression}
use Rattle.fzn_syntax.specs.declared.expression.Expression.TheVariants as expressions
use Rattle.fzn_syntax.specs.declared.identifier.Identifier.{Identifier}
use Rattle.fzn_syntax.specs.declared.items.Items.{Items}
use Rattle.fzn_syntax.specs.declared.solve.SolveGoal.{SolveGoal}
use Rattle.fzn_syntax.specs.declared.solve.SolveGoal.TheVariants as goals

-- a name where it stands, and what it does there
abbrev pub mark : Role → Identifier → Mark
mark role n = record { name = n.name; at = n.at; role = role }

-- a name uses itself, all else none
abbrev pub marks_of_basic : Basic → List Mark
marks_of_basic basics.True = []
marks_of_basic basics.False = []
marks_of_basic (basics.Name n) = mark Uses n ∷ []
marks_of_basic (basics.Number z) = []
marks_of_basic (basics.Range b) = []
marks_of_basic (basics.Set zs) = []

-- those of an expression, or of each entry of a list
abbrev pub marks_of_expression : Expression → List Mark
marks_of_expression (expressions.Basic b) = marks_of_basic b
marks_of_expression (expressions.List bs) = flat_map marks_of_basic bs

-- those of a value, where there is one
abbrev pub marks_of_value : Option Expression → List Mark
marks_of_value None = []
marks_of_value (Some e) = marks_of_expression e

-- those that a declaration uses
abbrev pub marks_used_by : Declaration → List Mark
marks_used_by (declarations.Parameter p) = marks_of_expression p.value
marks_used_by (declarations.Variable v) = marks_of_value v.value
marks_used_by (declarations.ParameterArray a) = marks_of_expression a.entries.value
marks_used_by (declarations.VariableArray a) = marks_of_expression a.value

-- the declared name, and those of the value
abbrev pub marks_of_declaration : Declaration → List Mark
marks_of_declaration d = mark Declares (identifier_of d) ∷ marks_used_by d

-- those of the arguments
abbrev pub marks_of_constraint : Constraint → List Mark
marks_of_constraint c = flat_map marks_of_expression c.arguments

-- the objective's name
abbrev pub marks_of_goal : SolveGoal → List Mark
marks_of_goal goals.Satisfy = []
marks_of_goal (goals.Minimize n) = mark Uses n ∷ []
marks_of_goal (goals.Maximize n) = mark Uses n ∷ []

-- all of them in order of the text
abbrev pub marks_of : Items → List Mark
marks_of items = flat_map marks_of_declaration items.declarations ++ (flat_map marks_of_constraint items.constraints ++ marks_of_goal items.solve.goal)
