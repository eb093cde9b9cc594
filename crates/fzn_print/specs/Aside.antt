-- Productions with their places put aside.
use Rattle.std.specs.Prelude.{ℕ, List, map, Option, Some, None, option_map}
use Rattle.fzn_syntax.specs.declared.identifier.Identifier.{Identifier}
use Rattle.fzn_syntax.specs.declared.expression.Basic.{Basic}
use Rattle.fzn_syntax.specs.declared.expression.Basic.TheVariants as basics
use Rattle.fzn_syntax.specs.declared.expression.Expression.{Expression}
use Rattle.fzn_syntax.specs.declared.expression.Expression.TheVariants as expressions
use Rattle.fzn_words.specs.declared.word.Word.{Word}
use Rattle.fzn_syntax.specs.declared.annotation.Annotation.{Annotation}
use Rattle.fzn_syntax.specs.declared.predicate.Predicate.{Predicate}
use Rattle.fzn_syntax.specs.declared.declaration.Parameter.{Parameter}
use Rattle.fzn_syntax.specs.declared.declaration.VariableDeclaration.{VariableDeclaration}
use Rattle.fzn_syntax.specs.declared.declaration.ParameterArray.{ParameterArray}
use Rattle.fzn_syntax.specs.declared.declaration.VariableArray.{VariableArray}
use Rattle.fzn_syntax.specs.declared.declaration.Declaration.{Declaration}
use Rattle.fzn_syntax.specs.declared.declaration.Declaration.TheVariants as declarations
use Rattle.fzn_syntax.specs.declared.constraint.Constraint.{Constraint}
use Rattle.fzn_syntax.specs.declared.solve.SolveGoal.{SolveGoal}
use Rattle.fzn_syntax.specs.declared.solve.SolveGoal.TheVariants as goals
use Rattle.fzn_syntax.specs.declared.solve.Solve.{Solve}
use Rattle.fzn_syntax.specs.declared.items.Items.{Items}

-- a name without its place
abbrev pub name_aside : Identifier → Identifier
name_aside n = record { name = n.name; at = 0 }

-- an expression without a list
abbrev pub basic_aside : Basic → Basic
basic_aside (basics.Name n) = basics.Name (name_aside n)
basic_aside b = b

-- an expression
abbrev pub expression_aside : Expression → Expression
expression_aside (expressions.Basic b) = expressions.Basic (basic_aside b)
expression_aside (expressions.List bs) = expressions.List (map basic_aside bs)

-- a word without its place
abbrev pub word_aside : Word → Word
word_aside w = record { what = w.what; text = w.text; at = 0 }

-- flat words
abbrev pub words_aside : List Word → List Word
words_aside ws = map word_aside ws

-- an annotation
abbrev pub annotation_aside : Annotation → Annotation
annotation_aside a = record { name = name_aside a.name; arguments = option_map words_aside a.arguments }

-- annotations
abbrev pub annotations_aside : List Annotation → List Annotation
annotations_aside ns = map annotation_aside ns

-- a predicate
abbrev pub predicate_aside : Predicate → Predicate
predicate_aside p = record { name = name_aside p.name; body = words_aside p.body }

-- a parameter
abbrev pub parameter_aside : Parameter → Parameter
parameter_aside p = record { element = p.element; name = name_aside p.name; value = expression_aside p.value }

-- a variable
abbrev pub variable_aside : VariableDeclaration → VariableDeclaration
variable_aside v = record { element = v.element; name = name_aside v.name; annotations = annotations_aside v.annotations; value = option_map expression_aside v.value }

-- an array of parameters
abbrev pub parameter_array_aside : ParameterArray → ParameterArray
parameter_array_aside a = record { index = a.index; entries = parameter_aside a.entries }

-- an array of variables
abbrev pub variable_array_aside : VariableArray → VariableArray
variable_array_aside a =
    record { index = a.index; element = a.element; name = name_aside a.name; annotations = annotations_aside a.annotations; value = expression_aside a.value }

-- a declaration
abbrev pub declaration_aside : Declaration → Declaration
declaration_aside (declarations.Parameter p) = declarations.Parameter (parameter_aside p)
declaration_aside (declarations.Variable v) = declarations.Variable (variable_aside v)
declaration_aside (declarations.ParameterArray a) = declarations.ParameterArray (parameter_array_aside a)
declaration_aside (declarations.VariableArray a) = declarations.VariableArray (variable_array_aside a)

-- a constraint
abbrev pub constraint_aside : Constraint → Constraint
constraint_aside c = record { name = name_aside c.name; arguments = map expression_aside c.arguments; annotations = annotations_aside c.annotations }

-- the goal
abbrev pub goal_aside : SolveGoal → SolveGoal
goal_aside goals.Satisfy = goals.Satisfy
goal_aside (goals.Minimize n) = goals.Minimize (name_aside n)
goal_aside (goals.Maximize n) = goals.Maximize (name_aside n)

-- the solve item
abbrev pub solve_aside : Solve → Solve
solve_aside s = record { at = 0; annotations = annotations_aside s.annotations; goal = goal_aside s.goal }

-- all items
abbrev pub items_aside : Items → Items
items_aside t =
    record { predicates = map predicate_aside t.predicates; declarations = map declaration_aside t.declarations; constraints = map constraint_aside t.constraints; solve = solve_aside t.solve }
