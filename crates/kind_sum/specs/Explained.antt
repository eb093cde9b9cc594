-- Reasons of sums: what is told of the ends of their terms' variables.
use Rattle.std.specs.Prelude.{◌≡◌, Bool, true, false, List, if◌then◌else◌, ℕ, ℤ, pos, ◌+ℤ◌, ◌-ℤ◌, ◌≤ℤ◌, int_lt, Option}
use Rattle.dom_core.specs.Ends.{Ends, scaled_ends}
use Rattle.dom_core.specs.declared.literal.Literal.{Literal}
use Rattle.dom_cells.specs.Box.{Box}
use Rattle.kind_law.specs.Laws.{Each, hulls}
use Rattle.kind_law.specs.Reason.{asked, IsLeft}
use Rattle.kind_law.specs.declared.side.Side.{Side}
use Rattle.kind_law.specs.declared.side.Side.TheVariants.{Low, High}
use Rattle.kind_parts.specs.Relation.{certain_by, refuted_by}
use Rattle.kind_law.specs.Argument.{ArgHas, arg_ends}
use Rattle.kind_sum.specs.Sum.{total, vars_of}
use Rattle.kind_sum.specs.declared.explained.Excess.{Excess}
use Rattle.dom_core.specs.declared.relation.Relation.{Relation}
use Rattle.kind_sum.specs.declared.term.Term.{Term}

-- the least of an interval's integers, or of their negatives where it is turned
abbrev pub edge : Bool → Ends → ℤ
edge false e = e.lo
edge true e = pos 0 -ℤ e.hi

-- the side of a variable's cell on which the edge of its multiple lies
abbrev pub edge_side : Bool → ℤ → Side
edge_side false c = if int_lt c (pos 0) then High else Low
edge_side true c = if int_lt c (pos 0) then Low else High

-- the ends are values of the variable that are left
pub record AreLeft (m : Box) (implied : Option Literal) (ls : List Literal) (v : ℕ) (e : Ends) : Type 0 where
  pub low : IsLeft m implied ls v e.lo
  pub high : IsLeft m implied ls v e.hi

-- where values are left, the term's edge lies at most so far below that over the refuted box
abbrev pub Pays : Bool → Box → Option Literal → List Literal → Term → ℤ → Type 0
Pays turned m implied ls t cost =
    (s : ℕ → Ends) → ArgHas (λ u. AreLeft m implied ls u.0 (s u.0)) t.arg
    → (edge turned (scaled_ends t.coef (arg_ends (hulls (asked m implied)) t.arg)) -ℤ cost) ≤ℤ edge turned (scaled_ends t.coef (arg_ends s t.arg))

-- where values are left, the sum's edge lies at most so far below that over the refuted box
abbrev pub PaysAll : Bool → Box → Option Literal → List Literal → List Term → ℤ → Type 0
PaysAll turned m implied ls ts cost =
    (s : ℕ → Ends) → Each (λ u. AreLeft m implied ls u.0 (s u.0)) (vars_of ts)
    → (edge turned (total ts (arg_ends (hulls (asked m implied)))) -ℤ cost) ≤ℤ edge turned (total ts (arg_ends s))

-- a sum whose edge lies at most so far below that of this one is refuted too
abbrev pub IsExcess : Relation → ℤ → Ends → Excess → Type 0
IsExcess r c t e = (u : Ends) → (edge e.turned t -ℤ pos e.slack) ≤ℤ edge e.turned u → refuted_by r u c ≡ true

-- on this side the second interval reaches at most so far beyond the first
abbrev pub EdgeNear : Side → Ends → Ends → ℤ → Type 0
EdgeNear Low a e gap = (a.lo -ℤ gap) ≤ℤ e.lo
EdgeNear High a e gap = e.hi ≤ℤ (a.hi +ℤ gap)

-- a sum whose edge lies at most so far below that of this one is certain too
abbrev pub IsCertainExcess : Relation → ℤ → Ends → Excess → Type 0
IsCertainExcess r c t e = (u : Ends) → (edge e.turned t -ℤ pos e.slack) ≤ℤ edge e.turned u → certain_by r u c ≡ true
