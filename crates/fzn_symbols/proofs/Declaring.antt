-- The declared names of items, in order.
use Rattle.std.proofs.Common.{◌≡◌, ℕ, List, [], ◌∷◌, ◌++◌, Option, Some, None, refl, ◌∙◌, ap}
use Rattle.std.proofs.lemmas.List.{append-nil}
use Rattle.std.specs.List.{flat_map}
use Rattle.fzn_symbols.specs.Numbered.{declared_names}
use Rattle.fzn_symbols.specs.Occurrences.{marks_of_basic, marks_of_expression, marks_of_value, marks_used_by, marks_of_declaration, marks_of_constraint, marks_of_goal, marks_of}
use Rattle.fzn_symbols.proofs.Declared.{declared_names_append, declares_none, declares_each}
use Rattle.fzn_symbols.specs.Named.{name_of, names_of}
use Rattle.fzn_syntax.specs.declared.constraint.Constraint.{Constraint}
use Rattle.fzn_syntax.specs.declared.declaration.Declaration.{Declaration}
use Rattle.fzn_syntax.specs.declared.declaration.Declaration.TheVariants as declarations
use Rattle.fzn_syntax.specs.declared.expression.Basic.{Basic}
use Rattle.fzn_syntax.specs.declared.expression.Basic.TheVariants as basics
use Rattle.fzn_syntax.specs.declared.expression.Expression.{Expression}
use Rattle.fzn_syntax.specs.declared.expression.Expression.TheVariants as expressions
use Rattle.fzn_syntax.specs.declared.items.Items.{Items}
use Rattle.fzn_syntax.specs.declared.solve.SolveGoal.{SolveGoal}
use Rattle.fzn_syntax.specs.declared.solve.SolveGoal.TheVariants as goals

basic_declares_none : (b : Basic) → declared_names (marks_of_basic b) ≡ []
basic_declares_none basics.True = refl
basic_declares_none basics.False = refl
basic_declares_none (basics.Name n) = refl
basic_declares_none (basics.Number z) = refl
basic_declares_none (basics.Range b) = refl
basic_declares_none (basics.Set zs) = refl

expression_declares_none : (e : Expression) → declared_names (marks_of_expression e) ≡ []
expression_declares_none (expressions.Basic b) = basic_declares_none b
expression_declares_none (expressions.List bs) = declares_none marks_of_basic basic_declares_none bs

value_declares_none : (v : Option Expression) → declared_names (marks_of_value v) ≡ []
value_declares_none None = refl
value_declares_none (Some e) = expression_declares_none e

used_declares_none : (d : Declaration) → declared_names (marks_used_by d) ≡ []
used_declares_none (declarations.Parameter p) = expression_declares_none p.value
used_declares_none (declarations.Variable v) = value_declares_none v.value
used_declares_none (declarations.ParameterArray a) = expression_declares_none a.entries.value
used_declares_none (declarations.VariableArray a) = expression_declares_none a.value

declaration_declares : (d : Declaration) → declared_names (marks_of_declaration d) ≡ name_of d ∷ []
declaration_declares d = ap (λ (ns : List (List ℕ)). name_of d ∷ ns) (used_declares_none d)

constraint_declares_none : (c : Constraint) → declared_names (marks_of_constraint c) ≡ []
constraint_declares_none c = declares_none marks_of_expression expression_declares_none c.arguments

goal_declares_none : (g : SolveGoal) → declared_names (marks_of_goal g) ≡ []
goal_declares_none goals.Satisfy = refl
goal_declares_none (goals.Minimize n) = refl
goal_declares_none (goals.Maximize n) = refl

-- items declare the names of their declarations
pub items_declare : (items : Items) → declared_names (marks_of items) ≡ names_of items.declarations
items_declare items =
    let first = flat_map marks_of_declaration items.declarations in
    let then = flat_map marks_of_constraint items.constraints in
    let last = marks_of_goal items.solve.goal in
    declared_names_append first (then ++ last) ∙ ap (λ (ns : List (List ℕ)). declared_names first ++ ns) (declared_names_append then last)
    ∙ rw (declares_each marks_of_declaration name_of declaration_declares items.declarations, declares_none marks_of_constraint constraint_declares_none items.constraints, goal_declares_none items.solve.goal)
    (append-nil (names_of items.declarations))
