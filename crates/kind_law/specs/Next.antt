-- The ends that a kind implies.
use Rattle.std.specs.Prelude.{◌≡◌, ◌<◌, ◌≤◌, Bool, true, false, List, length, take, ℕ, ℤ, pos, ◌+ℤ◌, ◌-ℤ◌, ◌<ℤ◌, ◌≤ℤ◌, Option, Some, None, slice_get}
use Rattle.dom_cells.specs.Box.{kept}
use Rattle.dom_cells.specs.Cell.{lo_of, hi_of, has_of}
use Rattle.dom_core.specs.Literal.{is_end, holds_at}
use Rattle.dom_core.specs.Rises.{natural_of}
use Rattle.dom_core.specs.declared.literal.Literal.{Literal}
use Rattle.dom_core.specs.declared.literal.Rel.{Rel}
use Rattle.dom_core.specs.declared.literal.Rel.TheVariants.{Le, Ge, Eq, Ne}
use Rattle.dom_cells.specs.declared.start.Start.{Start}
use Rattle.dom_core.specs.declared.var_id.VarId.{VarId}
use Rattle.kind_law.specs.Laws.{Each, AllBelow}
use Rattle.kind_law.specs.declared.side.Side.{Side}
use Rattle.kind_law.specs.declared.side.Side.TheVariants.{Low, High}

-- the variable is below the number
abbrev pub below : VarId → ℤ → Literal
below u v = record { var = u; rel = Le; value = v -ℤ pos 1 }

-- the variable is above the number
abbrev pub above : VarId → ℤ → Literal
above u v = record { var = u; rel = Ge; value = v +ℤ pos 1 }

-- the box without the values from this one on is refuted, though it has values
pub record IsLowEnd (refuted : (ℕ → Start) → Bool) (b : ℕ → Start) (u : VarId) (v : ℤ) : Type 0 where
  pub low : lo_of (b u.0) <ℤ v
  pub high : v ≤ℤ hi_of (b u.0)
  pub refutes : refuted (kept b (below u v)) ≡ true

-- the box without the values up to this one is refuted, though it has values
pub record IsHighEnd (refuted : (ℕ → Start) → Bool) (b : ℕ → Start) (u : VarId) (v : ℤ) : Type 0 where
  pub low : lo_of (b u.0) ≤ℤ v
  pub high : v <ℤ hi_of (b u.0)
  pub refutes : refuted (kept b (above u v)) ≡ true

-- no lower end is implied
abbrev pub HasNoLowEnd : ((ℕ → Start) → Bool) → (ℕ → Start) → VarId → Type 0
HasNoLowEnd refuted b u = (v : ℤ) → IsLowEnd refuted b u v → ⊥

-- no upper end is implied
abbrev pub HasNoHighEnd : ((ℕ → Start) → Bool) → (ℕ → Start) → VarId → Type 0
HasNoHighEnd refuted b u = (v : ℤ) → IsHighEnd refuted b u v → ⊥

-- no end is implied
pub record HasNoEnd (refuted : (ℕ → Start) → Bool) (b : ℕ → Start) (u : VarId) : Type 0 where
  pub low : HasNoLowEnd refuted b u
  pub high : HasNoHighEnd refuted b u

-- the end is implied and no further one is; an upper end only where no lower one is
abbrev pub IsEndOf : ((ℕ → Start) → Bool) → (ℕ → Start) → VarId → Rel → ℤ → Type 0
IsEndOf refuted b u Ge v = IsLowEnd refuted b u v × ((w : ℤ) → IsLowEnd refuted b u w → w ≤ℤ v)
IsEndOf refuted b u Le v = IsHighEnd refuted b u v × ((w : ℤ) → IsHighEnd refuted b u w → v ≤ℤ w) × HasNoLowEnd refuted b u
IsEndOf refuted b u Eq v = ⊥
IsEndOf refuted b u Ne v = ⊥

-- the first implied end in the order of the variables, the lower end of each first; none exactly where there is none
abbrev pub IsNext : ((ℕ → Start) → Bool) → List VarId → (ℕ → Start) → Option Literal → Type 0
IsNext refuted vars b None = Each (HasNoEnd refuted b) vars
IsNext refuted vars b (Some l) = (i : ℕ) × (i < length vars) × (slice_get vars i ≡ Some l.var)
    × Each (HasNoEnd refuted b) (take i vars) × IsEndOf refuted b l.var l.rel l.value

-- the bound that leaves so many steps from one end of a cell
abbrev pub trim : Side → VarId → ℤ → ℤ → ℕ → Literal
trim Low u lo hi n = below u (lo +ℤ pos n)
trim High u lo hi n = above u (hi -ℤ pos n)

-- how many steps lie between the ends of a cell
abbrev pub size_of : Start → ℕ
size_of c = natural_of (hi_of c -ℤ lo_of c)

-- the box that keeps so many steps from one end is refuted
abbrev pub steps_refuted : ((ℕ → Start) → Bool) → (ℕ → Start) → VarId → Side → ℕ → Bool
steps_refuted refuted b u side n = refuted (kept b (trim side u (lo_of (b u.0)) (hi_of (b u.0)) n))

-- the greatest number that passes the test, or 0
pub record IsDeepest (test : ℕ → Bool) (size n : ℕ) : Type 0 where
  pub within : n ≤ size
  pub here : 0 < n → test n ≡ true
  pub beyond : (m : ℕ) → n < m → m ≤ size → test m ≡ false

-- the literal of an implied end, so many steps from the end of a cell
abbrev pub end_literal : Side → VarId → ℤ → ℤ → ℕ → Literal
end_literal Low u lo hi n = record { var = u; rel = Ge; value = lo +ℤ pos n }
end_literal High u lo hi n = record { var = u; rel = Le; value = hi -ℤ pos n }

-- the end that is implied on this side, no further one being implied
abbrev pub IsSideEnd : ((ℕ → Start) → Bool) → (ℕ → Start) → VarId → Side → Option Literal → Type 0
IsSideEnd refuted b u Low None = HasNoLowEnd refuted b u
IsSideEnd refuted b u High None = HasNoHighEnd refuted b u
IsSideEnd refuted b u Low (Some l) = (l.var ≡ u) × (l.rel ≡ Ge) × IsLowEnd refuted b u l.value × ((w : ℤ) → IsLowEnd refuted b u w → w ≤ℤ l.value)
IsSideEnd refuted b u High (Some l) = (l.var ≡ u) × (l.rel ≡ Le) × IsHighEnd refuted b u l.value × ((w : ℤ) → IsHighEnd refuted b u w → l.value ≤ℤ w)

-- the variable is one of the kind's, and one of so many
pub record IsReadable (vars : List VarId) (n : ℕ) (u : VarId) : Type 0 where
  pub below : AllBelow n vars
  pub place : ℕ
  pub reads : slice_get vars place ≡ Some u

-- a bound on one of the kind's variables that leaves its cell a value
pub record IsBound (vars : List VarId) (n : ℕ) (b : ℕ → Start) (l : Literal) : Type 0 where
  pub below : AllBelow n vars
  pub end_is : is_end l.rel ≡ true
  pub value : ℤ
  pub has : has_of (b l.var.0) value ≡ true
  pub holds : holds_at l value ≡ true

-- the implied end of one variable, the lower one first
abbrev pub IsFirstEnd : ((ℕ → Start) → Bool) → (ℕ → Start) → VarId → Option Literal → Type 0
IsFirstEnd refuted b u None = HasNoEnd refuted b u
IsFirstEnd refuted b u (Some l) = (l.var ≡ u) × IsEndOf refuted b u l.rel l.value

-- the lower end that is implied, no further one being implied
abbrev pub IsImpliedLow : ((ℕ → Start) → Bool) → (ℕ → Start) → VarId → Option Literal → Type 0
IsImpliedLow refuted b u r = IsSideEnd refuted b u Low r

-- the upper end that is implied, no further one being implied
abbrev pub IsImpliedHigh : ((ℕ → Start) → Bool) → (ℕ → Start) → VarId → Option Literal → Type 0
IsImpliedHigh refuted b u r = IsSideEnd refuted b u High r
