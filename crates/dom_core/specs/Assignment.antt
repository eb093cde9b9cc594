-- Assignments as lists of values, one for each variable.
use Rattle.std.specs.Prelude.{List, ℕ, ℤ, pos, slice_index_or}
use Rattle.dom_core.specs.declared.var_id.VarId.{VarId}

-- the value of the variable
abbrev pub value_at : List ℤ → VarId → ℤ
value_at xs var = slice_index_or xs var.0 (pos 0)

-- the value of the variable with this number
abbrev pub entry_at : List ℤ → ℕ → ℤ
entry_at xs v = slice_index_or xs v (pos 0)
