-- Which constraints are posted right.
use Rattle.std.specs.Prelude.{List}
use Rattle.fzn_syntax.specs.declared.constraint.Constraint.{Constraint}
use Rattle.fzn_syntax.specs.declared.declaration.Declaration.{Declaration}
use Rattle.fzn_syntax.specs.declared.expression.Expression.{Expression}
use Rattle.fzn_signatures.specs.Table.{Entry, IsEntryOf}
use Rattle.fzn_check.specs.Arguments.{AreArguments}
use Rattle.fzn_check.specs.Shapes.{MeetsShape}

-- the arguments are of the types of the entry, and meet what it says beyond them
abbrev pub FitsEntry : List Declaration → Entry → List Expression → Type 0
FitsEntry ds e es = AreArguments ds e.arguments es × MeetsShape ds e.shape es

-- the constraint's name stands in the table, and its arguments are as the table says
abbrev pub IsPosted : List Declaration → Constraint → Type 0
IsPosted ds c = (e : Entry) × IsEntryOf c.name.name e × FitsEntry ds e c.arguments
