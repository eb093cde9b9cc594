-- Ends that are told at a bound.
use Rattle.std.specs.Prelude.{◌≡◌, true, List, ℕ, ℤ, ◌≤ℤ◌, Option}
use Rattle.dom_cells.specs.Box.{Box, start_at}
use Rattle.dom_cells.specs.Cell.{has_of, lo_of, hi_of}
use Rattle.dom_cells.specs.declared.start.Start.{Start}
use Rattle.dom_core.specs.declared.literal.Literal.{Literal}
use Rattle.kind_law.specs.Reason.{IsLeft, survives}
use Rattle.kind_law.specs.declared.side.Side.{Side}
use Rattle.kind_law.specs.declared.side.Side.TheVariants.{Low, High}

-- the number lies no further in than this end of the cell
abbrev pub IsNoFurther : Side → Start → ℤ → Type 0
IsNoFurther Low c v = v ≤ℤ lo_of c
IsNoFurther High c v = hi_of c ≤ℤ v

-- the value lies within the bound on this side
abbrev pub IsWithinBound : Side → ℤ → ℤ → Type 0
IsWithinBound Low v x = v ≤ℤ x
IsWithinBound High v x = x ≤ℤ v

-- values that are left lie within the bound
abbrev pub CoversBound : Side → Box → Option Literal → List Literal → ℕ → ℤ → Type 0
CoversBound side m implied ls v bound = (x : ℤ) → IsLeft m implied ls v x → IsWithinBound side bound x

-- values of the start that survive lie within the bound
abbrev pub SurvivorsWithin : Side → Box → List Literal → ℕ → ℤ → Type 0
SurvivorsWithin side m ls v bound = (x : ℤ) → has_of (start_at m.starts v) x ≡ true → survives v ls x ≡ true → IsWithinBound side bound x
