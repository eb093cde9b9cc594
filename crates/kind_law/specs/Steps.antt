-- Steps from an end of a cell, and what they tell of implied ends.
use Rattle.std.specs.Prelude.{◌≡◌, ◌<◌, ◌≤◌, Bool, false, nat_lt, ℕ, ℤ, pos, ◌+ℤ◌, ◌-ℤ◌, ◌<ℤ◌, Option, Some, None, MatchOption}
use Rattle.dom_cells.specs.Box.{kept}
use Rattle.dom_cells.specs.Cell.{lo_of, hi_of, has_of}
use Rattle.dom_cells.specs.Flagged.{IsFloor, IsCeiling}
use Rattle.dom_cells.specs.declared.start.Start.{Start}
use Rattle.dom_core.specs.Rises.{natural_of}
use Rattle.dom_core.specs.declared.literal.Literal.{Literal}
use Rattle.dom_core.specs.declared.literal.Rel.TheVariants.{Le, Ge}
use Rattle.dom_core.specs.declared.var_id.VarId.{VarId}
use Rattle.kind_law.specs.Next.{below, above, size_of, IsSideEnd}
use Rattle.kind_law.specs.declared.side.Side.{Side}
use Rattle.kind_law.specs.declared.side.Side.TheVariants.{Low, High}

-- the most steps that don't pass the test, where some of the steps do
abbrev pub IsStepReach : (ℕ → Bool) → ℕ → Option ℕ → Type 0
IsStepReach test steps None = (m : ℕ) → m ≤ steps → test m ≡ false
IsStepReach test steps (Some n) = (n < steps) × ((m : ℕ) → m ≤ steps → test m ≡ nat_lt n m)

-- the value of the cell that lies furthest from this end, at most so many steps from it
abbrev pub IsFurthest : Side → Start → ℕ → ℤ → Type 0
IsFurthest Low c steps v = IsFloor (has_of c) (lo_of c +ℤ pos steps) v
IsFurthest High c steps v = IsCeiling (has_of c) (hi_of c -ℤ pos steps) v

-- the steps don't reach from end to end
abbrev pub AreFew : Start → Option ℕ → Type 0
AreFew c steps = MatchOption steps (Unit {0}) (λ n. n < size_of c)

-- how many steps the greatest value moves where the variable is bounded below this value
abbrev pub lost_high : (ℕ → Start) → VarId → ℤ → ℕ
lost_high b u v = natural_of (hi_of (b u.0) -ℤ hi_of (kept b (below u v) u.0))

-- how many steps the least value moves where the variable is bounded above this value
abbrev pub lost_low : (ℕ → Start) → VarId → ℤ → ℕ
lost_low b u v = natural_of (lo_of (kept b (above u v) u.0) -ℤ lo_of (b u.0))

-- whether the box is refuted is told by the steps that the greatest value moves
abbrev pub FallsBy : ((ℕ → Start) → Bool) → (ℕ → Start) → VarId → (ℕ → Bool) → Type 0
FallsBy refuted b u test = (v : ℤ) → lo_of (b u.0) <ℤ v → refuted (kept b (below u v)) ≡ test (lost_high b u v)

-- whether the box is refuted is told by the steps that the least value moves
abbrev pub RisesBy : ((ℕ → Start) → Bool) → (ℕ → Start) → VarId → (ℕ → Bool) → Type 0
RisesBy refuted b u test = (v : ℤ) → v <ℤ hi_of (b u.0) → refuted (kept b (above u v)) ≡ test (lost_low b u v)

-- whether the box is refuted is told by the steps that the end opposite to this one moves
abbrev pub MovesBy : Side → ((ℕ → Start) → Bool) → (ℕ → Start) → VarId → (ℕ → Bool) → Type 0
MovesBy Low refuted b u test = FallsBy refuted b u test
MovesBy High refuted b u test = RisesBy refuted b u test

-- the end that is implied on this side of every test by steps whose reach this is
abbrev pub GivesEnd : (ℕ → Start) → VarId → Side → Option ℕ → Option Literal → Type 0
GivesEnd b u side steps r =
    (refuted : (ℕ → Start) → Bool) (test : ℕ → Bool) → MovesBy side refuted b u test → IsStepReach test (size_of (b u.0)) steps → IsSideEnd refuted b u side r

-- the literal of the end on this side that lies furthest from the other end, at most so many steps from it
abbrev pub IsEndWithin : (ℕ → Start) → VarId → Side → ℕ → Literal → Type 0
IsEndWithin b u Low steps l = (l.var ≡ u) × (l.rel ≡ Ge) × IsFurthest High (b u.0) steps l.value
IsEndWithin b u High steps l = (l.var ≡ u) × (l.rel ≡ Le) × IsFurthest Low (b u.0) steps l.value
