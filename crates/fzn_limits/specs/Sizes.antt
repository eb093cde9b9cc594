-- How many variables, constraints and entries of lists items have.
use Rattle.std.specs.Prelude.{◌≡◌, ℕ, ◌<◌, ◌≤◌, Bool, true, false, nat_lt, List, [], ◌∷◌, ◌++◌, length, Option, Some, None, Result, Ok, Err}
use Rattle.std.specs.List.{count_by, find, flat_map}
use Rattle.dom_limits.specs.declared.counted.Counted.{Counted}
use Rattle.dom_limits.specs.declared.counted.Counted.TheVariants.{Variables, Constraints, ArrayEntries, ArgumentEntries, Free}
use Rattle.fzn_limits.specs.declared.too_many.TooMany.{TooMany}
use Rattle.fzn_syntax.specs.declared.constraint.Constraint.{Constraint}
use Rattle.fzn_syntax.specs.declared.declaration.Declaration.{Declaration}
use Rattle.fzn_syntax.specs.declared.declaration.Declaration.TheVariants as declarations
use Rattle.fzn_syntax.specs.declared.expression.Expression.{Expression}
use Rattle.fzn_syntax.specs.declared.expression.Expression.TheVariants as expressions
use Rattle.fzn_syntax.specs.declared.items.Items.{Items}

-- more of one thing are too many
abbrev pub limit : ℕ
limit = 100000

-- a variable is declared, and no array
abbrev pub is_variable : Declaration → Bool
is_variable (declarations.Parameter p) = false
is_variable (declarations.Variable v) = true
is_variable (declarations.ParameterArray a) = false
is_variable (declarations.VariableArray a) = false

-- how many variables are declared, without arrays
abbrev pub variables_in : List Declaration → ℕ
variables_in ds = count_by is_variable ds

-- the length of a list that is written here
abbrev pub lengths_of_expression : Expression → List ℕ
lengths_of_expression (expressions.Basic b) = []
lengths_of_expression (expressions.List bs) = length bs ∷ []

-- the length of the list that is a value, where there is one
abbrev pub lengths_of_value : Option Expression → List ℕ
lengths_of_value None = []
lengths_of_value (Some e) = lengths_of_expression e

-- the length of the list that is a declaration's value
abbrev pub lengths_of_declaration : Declaration → List ℕ
lengths_of_declaration (declarations.Parameter p) = lengths_of_expression p.value
lengths_of_declaration (declarations.Variable v) = lengths_of_value v.value
lengths_of_declaration (declarations.ParameterArray a) = lengths_of_expression a.entries.value
lengths_of_declaration (declarations.VariableArray a) = lengths_of_expression a.value

-- the lengths of the lists among a constraint's arguments
abbrev pub lengths_of_constraint : Constraint → List ℕ
lengths_of_constraint c = flat_map lengths_of_expression c.arguments

-- the lengths of all lists in order of the text
abbrev pub lengths_of : Items → List ℕ
lengths_of items = flat_map lengths_of_declaration items.declarations ++ flat_map lengths_of_constraint items.constraints

-- the first of these numbers that is above the limit
abbrev pub first_above : List ℕ → Option ℕ
first_above ns = find (λ n. nat_lt limit n) ns

-- so many of this are too many, and nothing is that is told before it
abbrev pub IsFirstTooMany : Items → Counted → ℕ → Type 0
IsFirstTooMany items Variables n = (n ≡ variables_in items.declarations) × (limit < n)
IsFirstTooMany items Constraints n = (variables_in items.declarations ≤ limit) × (n ≡ length items.constraints) × (limit < n)
IsFirstTooMany items ArrayEntries n = (variables_in items.declarations ≤ limit) × (length items.constraints ≤ limit) × (first_above (lengths_of items) ≡ Some n)
IsFirstTooMany items ArgumentEntries n = ⊥
IsFirstTooMany items Free n = ⊥

-- nothing is too many, or this is the first thing that is
abbrev pub IsCounted : Items → Result (Unit {0}) TooMany → Type 0
IsCounted items (Ok u) = (variables_in items.declarations ≤ limit) × (length items.constraints ≤ limit) × (first_above (lengths_of items) ≡ None)
IsCounted items (Err t) = IsFirstTooMany items t.what t.count
