-- Implied ends of arguments.
use Rattle.std.specs.Prelude.{◌≡◌, Bool, List, ℕ, Option, None, slice_index_or}
use Rattle.dom_core.specs.declared.arg.Arg.{Arg}
use Rattle.dom_core.specs.declared.arg.Arg.TheVariants.{Var, Const}
use Rattle.dom_core.specs.declared.literal.Literal.{Literal}
use Rattle.dom_cells.specs.declared.start.Start.{Start}
use Rattle.kind_law.specs.Next.{IsFirstEnd}

-- the argument at this place
abbrev pub arg_at : List Arg → ℕ → Arg
arg_at xs i = slice_index_or xs i (Var (record { 0 = 0 }))

-- the implied end of the argument, where that is a variable
abbrev pub IsArgEnd : ((ℕ → Start) → Bool) → (ℕ → Start) → Arg → Option Literal → Type 0
IsArgEnd refuted b (Var u) r = IsFirstEnd refuted b u r
IsArgEnd refuted b (Const c) r = r ≡ None
