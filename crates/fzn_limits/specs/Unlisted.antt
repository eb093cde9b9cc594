-- Constraints whose names are in the table, and those whose names are not.
use Rattle.std.specs.Prelude.{◌≡◌, ℕ, ◌<◌, List, Some, slice_get}
use Rattle.fzn_syntax.specs.declared.constraint.Constraint.{Constraint}
use Rattle.fzn_signatures.specs.Table.{Entry, IsEntryOf, IsUnlisted}

-- the constraint's name is in the table
abbrev pub IsKnown : Constraint → Type 0
IsKnown c = (e : Entry) × IsEntryOf c.name.name e

-- the name of each constraint is
abbrev pub AreKnown : List Constraint → Type 0
AreKnown cs = (k : ℕ) (c : Constraint) → slice_get cs k ≡ Some c → IsKnown c

-- the name of the first constraint that is unknown stands at this place of the text
abbrev pub IsFirstUnknown : List Constraint → ℕ → Type 0
IsFirstUnknown cs at =
    (k : ℕ) × (c : Constraint) × (slice_get cs k ≡ Some c) × IsUnlisted c.name.name × (c.name.at ≡ at) × ((j : ℕ) (d : Constraint) → j < k → slice_get cs j ≡ Some d → IsKnown d)
