-- The kinds of constraint items.
use Rattle.std.specs.Prelude.{◌≡◌, List}
use Rattle.any_kind.specs.declared.any.AnyKind.{AnyKind}
use Rattle.fzn_forms.specs.Made.{IsMade}
use Rattle.fzn_forms.specs.Reading.{AreReadAs}
use Rattle.fzn_forms.specs.declared.argument.Argument.{Argument}
use Rattle.fzn_signatures.specs.Table.{Entry, IsEntryOf}
use Rattle.fzn_symbols.specs.Named.{names_of, AreDifferent}
use Rattle.fzn_syntax.specs.declared.constraint.Constraint.{Constraint}
use Rattle.fzn_syntax.specs.declared.declaration.Declaration.{Declaration}

-- the table's entry of the constraint's name makes this kind of what the arguments stand for
pub record IsKindOf (ds : List Declaration) (c : Constraint) (k : AnyKind) : Type 0 where
  pub entry : Entry
  pub is_entry : IsEntryOf c.name.name entry
  pub arguments : List Argument
  pub read : AreReadAs ds entry.arguments c.arguments arguments
  pub made : IsMade entry.shape arguments k

-- a constraint has one kind at most, where names are different
abbrev pub HasOneKind : Type 0
HasOneKind = (ds : List Declaration) (c : Constraint) (j k : AnyKind) → AreDifferent (names_of ds) → IsKindOf ds c j → IsKindOf ds c k → j ≡ k
