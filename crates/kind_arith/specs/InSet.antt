-- Restrictions of an argument to a set.
use Rattle.std.specs.Prelude.{Bool, not, List, length, Option, ℕ, ℤ}
use Rattle.dom_core.specs.declared.arg.Arg.{Arg}
use Rattle.dom_core.specs.declared.literal.Literal.{Literal}
use Rattle.dom_core.specs.declared.set.Set.{Set}
use Rattle.dom_core.specs.declared.var_id.VarId.{VarId}
use Rattle.dom_core.specs.declared.view.Movement.{Movement}
use Rattle.dom_cells.specs.Box.{Box, cell_of}
use Rattle.dom_cells.specs.declared.start.Start.{Start}
use Rattle.kind_law.specs.Argument.{arg_vars, arg_value, arg_left, arg_movement}
use Rattle.kind_law.specs.Next.{IsNext}
use Rattle.kind_law.specs.Visit.{IsVisited}
use Rattle.kind_law.specs.declared.visited.Visited.{Visited}
use Rattle.kind_parts.specs.Set.{set_has, set_meets, set_keeps}

-- an argument and the set in which it lies
pub record Restriction : Type 0 where
  pub arg : Arg
  pub set : Set

-- its variables
abbrev pub restricted_vars : Restriction → List VarId
restricted_vars k = arg_vars k.arg

-- the argument's value lies in the set
abbrev pub restriction_met : Restriction → List ℤ → Bool
restriction_met k a = set_has k.set (arg_value a k.arg)

-- no value that the argument has left lies in the set
abbrev pub restriction_refuted : Restriction → (ℕ → Start) → Bool
restriction_refuted k b = not (set_meets k.set (arg_left b k.arg))

-- the argument stays in the set under the view
abbrev pub restriction_kept : Restriction → List Movement → Bool
restriction_kept k view = set_keeps k.set (arg_movement view k.arg).change (arg_movement view k.arg).after

-- a visit of the restriction over such cells tells this
abbrev pub Visits : Restriction → Box → Visited → List Literal → Type 0
Visits k m v ls = IsVisited (restriction_refuted k) (restricted_vars k) (cell_of m) (length m.starts) v ls

-- the first end that the restriction implies over a box
abbrev pub IsNextEnd : Restriction → (ℕ → Start) → Option Literal → Type 0
IsNextEnd k b r = IsNext (restriction_refuted k) (restricted_vars k) b r
