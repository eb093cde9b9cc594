-- The entries of the arrays that constraints take.
use Rattle.std.specs.Prelude.{◌≡◌, ℕ, ◌≤◌, ◌*◌, ℤ, pos, negsuc, Bool, List, length, slice_get, Option, Some, None}
use Rattle.std.specs.List.{find, sum_by}
use Rattle.std.specs.Str.{bytes_eq}
use Rattle.fzn_symbols.specs.Named.{name_of}
use Rattle.fzn_syntax.specs.declared.constraint.Constraint.{Constraint}
use Rattle.fzn_syntax.specs.declared.declaration.Declaration.{Declaration}
use Rattle.fzn_syntax.specs.declared.declaration.Declaration.TheVariants as declarations
use Rattle.fzn_syntax.specs.declared.expression.Basic.{Basic}
use Rattle.fzn_syntax.specs.declared.expression.Basic.TheVariants as basics
use Rattle.fzn_syntax.specs.declared.expression.Expression.{Expression}
use Rattle.fzn_syntax.specs.declared.expression.Expression.TheVariants as expressions

-- the entries of all arrays that constraints take are too many where they are more
abbrev pub most_entries : ℕ
most_entries = 2000000

-- a number as it is, or 0 where it is negative
abbrev pub natural : ℤ → ℕ
natural (pos n) = n
natural (negsuc n) = 0

-- the entries that an array is declared to have; no other declaration has any
abbrev pub declared_entries : Declaration → ℕ
declared_entries (declarations.Parameter p) = 0
declared_entries (declarations.Variable v) = 0
declared_entries (declarations.ParameterArray a) = natural a.index.last
declared_entries (declarations.VariableArray a) = natural a.index.last

-- the declaration is of this name
abbrev pub is_named : List ℕ → Declaration → Bool
is_named n d = bytes_eq (name_of d) n

-- those of a declaration, where there is one
abbrev pub entries_where_declared : Option Declaration → ℕ
entries_where_declared None = 0
entries_where_declared (Some d) = declared_entries d

-- the entries of what the name stands for
abbrev pub named_entries : List Declaration → List ℕ → ℕ
named_entries ds n = entries_where_declared (find (is_named n) ds)

-- those of what an expression without a list names
abbrev pub basic_entries : List Declaration → Basic → ℕ
basic_entries ds basics.True = 0
basic_entries ds basics.False = 0
basic_entries ds (basics.Name n) = named_entries ds n.name
basic_entries ds (basics.Number z) = 0
basic_entries ds (basics.Range b) = 0
basic_entries ds (basics.Set zs) = 0

-- the entries of a list, or of the array that a name stands for
abbrev pub expression_entries : List Declaration → Expression → ℕ
expression_entries ds (expressions.Basic b) = basic_entries ds b
expression_entries ds (expressions.List bs) = length bs

-- those of all arguments of a constraint
abbrev pub constraint_entries : List Declaration → Constraint → ℕ
constraint_entries ds c = sum_by (expression_entries ds) c.arguments

-- those of all constraints
abbrev pub entries_of : List Declaration → List Constraint → ℕ
entries_of ds cs = sum_by (constraint_entries ds) cs

-- where no argument has more than so many entries, the constraint has no more than as many times that
abbrev pub BoundsArguments : Type 0
BoundsArguments =
    (ds : List Declaration) (c : Constraint) (most : ℕ) → ((k : ℕ) (e : Expression) → slice_get c.arguments k ≡ Some e → expression_entries ds e ≤ most)
    → constraint_entries ds c ≤ length c.arguments * most

-- where no constraint has more than so many entries, all of them have no more than as many times that
abbrev pub BoundsConstraints : Type 0
BoundsConstraints =
    (ds : List Declaration) (cs : List Constraint) (most : ℕ) → ((k : ℕ) (c : Constraint) → slice_get cs k ≡ Some c → constraint_entries ds c ≤ most)
    → entries_of ds cs ≤ length cs * most
