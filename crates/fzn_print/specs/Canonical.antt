-- The one way in which each production is written.
use Rattle.std.specs.Prelude.{ℕ, ◌-◌, List, [], ◌∷◌, ◌++◌, length, take, drop, Option, Some, None, codes}
use Rattle.fzn_lex.specs.declared.words.What.TheVariants as what
use Rattle.fzn_syntax.specs.declared.number.Number.{Number}
use Rattle.fzn_syntax.specs.declared.number.Number.TheVariants as numbers
use Rattle.fzn_syntax.specs.declared.number.Bounds.{Bounds}
use Rattle.fzn_syntax.specs.declared.element.Element.{Element}
use Rattle.fzn_syntax.specs.declared.element.Element.TheVariants as elements
use Rattle.fzn_syntax.specs.declared.element.ParameterType.{ParameterType}
use Rattle.fzn_syntax.specs.declared.element.ParameterType.TheVariants as parameters
use Rattle.fzn_syntax.specs.declared.element.VariableType.{VariableType}
use Rattle.fzn_syntax.specs.declared.element.VariableType.TheVariants as variables
use Rattle.fzn_syntax.specs.declared.expression.Basic.{Basic}
use Rattle.fzn_syntax.specs.declared.expression.Basic.TheVariants as basics
use Rattle.fzn_syntax.specs.declared.expression.Expression.{Expression}
use Rattle.fzn_syntax.specs.declared.expression.Expression.TheVariants as expressions
use Rattle.fzn_words.specs.declared.word.Word.{Word}
use Rattle.fzn_syntax.specs.declared.identifier.Identifier.{Identifier}
use Rattle.fzn_syntax.specs.declared.annotation.Annotation.{Annotation}
use Rattle.fzn_syntax.specs.declared.predicate.Predicate.{Predicate}
use Rattle.fzn_syntax.specs.declared.declaration.Parameter.{Parameter}
use Rattle.fzn_syntax.specs.declared.declaration.VariableDeclaration.{VariableDeclaration}
use Rattle.fzn_syntax.specs.declared.declaration.IndexRange.{IndexRange}
use Rattle.fzn_syntax.specs.declared.declaration.ParameterArray.{ParameterArray}
use Rattle.fzn_syntax.specs.declared.declaration.VariableArray.{VariableArray}
use Rattle.fzn_syntax.specs.declared.declaration.Declaration.{Declaration}
use Rattle.fzn_syntax.specs.declared.declaration.Declaration.TheVariants as declarations
use Rattle.fzn_syntax.specs.declared.constraint.Constraint.{Constraint}
use Rattle.fzn_syntax.specs.declared.solve.SolveGoal.{SolveGoal}
use Rattle.fzn_syntax.specs.declared.solve.SolveGoal.TheVariants as goals
use Rattle.fzn_syntax.specs.declared.solve.Solve.{Solve}
use Rattle.fzn_syntax.specs.declared.items.Items.{Items}
use Rattle.fzn_print.specs.Marks.{Mark, token, space, newline, symbol, name, listed, each}

-- an integer in decimal, or a float as it was written
abbrev pub number_marks : Number → List Mark
number_marks (numbers.Int z) = token (what.Int z) [] ∷ []
number_marks (numbers.Float text) = token what.Float text ∷ []

-- two numbers with two points between them
abbrev pub bounds_marks : Bounds → List Mark
bounds_marks b = number_marks b.lower ++ symbol what.DotDot ∷ number_marks b.upper

-- numbers in braces
abbrev pub set_marks : List Number → List Mark
set_marks ns = symbol what.LeftBrace ∷ (listed number_marks ns ++ symbol what.RightBrace ∷ [])

-- a type, or the values of one
abbrev pub element_marks : Element → List Mark
element_marks elements.Int = name (codes "int") ∷ []
element_marks elements.Float = name (codes "float") ∷ []
element_marks (elements.Range b) = bounds_marks b
element_marks (elements.Set ns) = set_marks ns

-- each reserved word is separated by one space from what follows it
abbrev pub set_of_marks : Element → List Mark
set_of_marks e = name (codes "set") ∷ space ∷ name (codes "of") ∷ space ∷ element_marks e

-- the type of a parameter
abbrev pub parameter_type_marks : ParameterType → List Mark
parameter_type_marks parameters.Bool = name (codes "bool") ∷ []
parameter_type_marks parameters.Int = name (codes "int") ∷ []
parameter_type_marks parameters.Float = name (codes "float") ∷ []
parameter_type_marks (parameters.SetOf e) = set_of_marks e

-- the type of a variable behind `var`
abbrev pub domain_marks : VariableType → List Mark
domain_marks variables.Bool = name (codes "bool") ∷ []
domain_marks (variables.Plain e) = element_marks e
domain_marks (variables.SetOf e) = set_of_marks e

-- the type of a variable
abbrev pub variable_type_marks : VariableType → List Mark
variable_type_marks t = name (codes "var") ∷ space ∷ domain_marks t

-- `true` and `false` are written like names
abbrev pub basic_marks : Basic → List Mark
basic_marks basics.True = name (codes "true") ∷ []
basic_marks basics.False = name (codes "false") ∷ []
basic_marks (basics.Name n) = name n.name ∷ []
basic_marks (basics.Number n) = number_marks n
basic_marks (basics.Range b) = bounds_marks b
basic_marks (basics.Set ns) = set_marks ns

-- an expression without a list, or a list in brackets
abbrev pub expression_marks : Expression → List Mark
expression_marks (expressions.Basic b) = basic_marks b
expression_marks (expressions.List bs) = symbol what.LeftBracket ∷ (listed basic_marks bs ++ symbol what.RightBracket ∷ [])

-- a word as it was read
abbrev pub word_marks : Word → List Mark
word_marks w = token w.what w.text ∷ []

-- words without spaces
abbrev pub flat_marks : List Word → List Mark
flat_marks ws = each word_marks ws

-- a word behind a space
abbrev pub spaced_word : Word → List Mark
spaced_word w = space ∷ word_marks w

-- words with one space between them
abbrev pub spaced_marks : List Word → List Mark
spaced_marks [] = []
spaced_marks (w ∷ ws) = word_marks w ++ each spaced_word ws

-- the first and the last word are the parentheses: what stands between them is joined by one space
abbrev pub body_marks : List Word → List Mark
body_marks ws = flat_marks (take 1 ws) ++ (spaced_marks (take (length ws - 2) (drop 1 ws)) ++ flat_marks (drop (length ws - 2) (drop 1 ws)))

-- the arguments of an annotation, where it has some
abbrev pub arguments_marks : Option (List Word) → List Mark
arguments_marks None = []
arguments_marks (Some ws) = flat_marks ws

-- an annotation behind its colons
abbrev pub annotation_marks : Annotation → List Mark
annotation_marks a = space ∷ symbol what.DoubleColon ∷ space ∷ name a.name.name ∷ arguments_marks a.arguments

-- one annotation after the other
abbrev pub annotations_marks : List Annotation → List Mark
annotations_marks ns = each annotation_marks ns

-- the end of an item and of its line
abbrev pub ended : List Mark
ended = symbol what.Semicolon ∷ newline ∷ []

-- a predicate on its line
abbrev pub predicate_marks : Predicate → List Mark
predicate_marks p = name (codes "predicate") ∷ space ∷ name p.name.name ∷ (body_marks p.body ++ ended)

-- after the colon of a declaration stands one space
abbrev pub declared_marks : Identifier → List Mark
declared_marks n = symbol what.Colon ∷ space ∷ name n.name ∷ []

-- a value behind its sign
abbrev pub value_marks : Expression → List Mark
value_marks x = space ∷ symbol what.Equal ∷ space ∷ expression_marks x

-- a value where there is one
abbrev pub maybe_value_marks : Option Expression → List Mark
maybe_value_marks None = []
maybe_value_marks (Some x) = value_marks x

-- a parameter on its line
abbrev pub parameter_marks : Parameter → List Mark
parameter_marks p = parameter_type_marks p.element ++ (declared_marks p.name ++ (value_marks p.value ++ ended))

-- a variable on its line
abbrev pub variable_marks : VariableDeclaration → List Mark
variable_marks v = variable_type_marks v.element ++ (declared_marks v.name ++ (annotations_marks v.annotations ++ (maybe_value_marks v.value ++ ended)))

-- the first and the last index in brackets
abbrev pub range_marks : IndexRange → List Mark
range_marks r = symbol what.LeftBracket ∷ token (what.Int r.first) [] ∷ symbol what.DotDot ∷ token (what.Int r.last) [] ∷ symbol what.RightBracket ∷ []

-- the word `of` between spaces
abbrev pub of_marks : List Mark
of_marks = space ∷ name (codes "of") ∷ space ∷ []

-- what stands before the type of an array's entries
abbrev pub index_marks : IndexRange → List Mark
index_marks r = name (codes "array") ∷ space ∷ (range_marks r ++ of_marks)

-- an array of parameters on its line
abbrev pub parameter_array_marks : ParameterArray → List Mark
parameter_array_marks a = index_marks a.index ++ parameter_marks a.entries

-- an array of variables on its line
abbrev pub variable_array_marks : VariableArray → List Mark
variable_array_marks a =
    index_marks a.index ++ (variable_type_marks a.element ++ (declared_marks a.name ++ (annotations_marks a.annotations ++ (value_marks a.value ++ ended))))

-- a declaration on its line
abbrev pub declaration_marks : Declaration → List Mark
declaration_marks (declarations.Parameter p) = parameter_marks p
declaration_marks (declarations.Variable v) = variable_marks v
declaration_marks (declarations.ParameterArray a) = parameter_array_marks a
declaration_marks (declarations.VariableArray a) = variable_array_marks a

-- a constraint on its line
abbrev pub constraint_marks : Constraint → List Mark
constraint_marks c =
    name (codes "constraint") ∷ space ∷ name c.name.name ∷ symbol what.LeftParen
    ∷ (listed expression_marks c.arguments ++ symbol what.RightParen ∷ (annotations_marks c.annotations ++ ended))

-- a reserved word and the name of an objective
abbrev pub objective_marks : List ℕ → Identifier → List Mark
objective_marks word n = name word ∷ space ∷ name n.name ∷ []

-- the goal
abbrev pub goal_marks : SolveGoal → List Mark
goal_marks goals.Satisfy = name (codes "satisfy") ∷ []
goal_marks (goals.Minimize n) = objective_marks (codes "minimize") n
goal_marks (goals.Maximize n) = objective_marks (codes "maximize") n

-- the solve item on its line
abbrev pub solve_marks : Solve → List Mark
solve_marks s = name (codes "solve") ∷ (annotations_marks s.annotations ++ space ∷ (goal_marks s.goal ++ ended))

-- one item a line
abbrev pub items_marks : Items → List Mark
items_marks t = each predicate_marks t.predicates ++ (each declaration_marks t.declarations ++ (each constraint_marks t.constraints ++ solve_marks t.solve))
