-- What the operands and the output tell of the ends that a connective implies.
use Rattle.std.specs.Prelude.{◌≡◌, ◌<◌, ◌≤◌, Bool, true, false, not, List, length, ℕ, Option, MatchOption}
use Rattle.std.specs.List.{list_any, list_all}
use Rattle.dom_core.specs.Ends.{Ends, IsOrdered}
use Rattle.dom_core.specs.declared.literal.Literal.{Literal}
use Rattle.dom_core.specs.declared.var_id.VarId.{VarId}
use Rattle.dom_cells.specs.Box.{Box, cell_of, kept}
use Rattle.dom_cells.specs.Cell.{ends_of}
use Rattle.dom_cells.specs.declared.start.Start.{Start}
use Rattle.kind_law.specs.Argument.{ArgHas, arg_ends}
use Rattle.kind_law.specs.Function.{have_none}
use Rattle.kind_law.specs.Laws.{Each, AllBelow, hulls}
use Rattle.kind_law.specs.Next.{HasNoEnd, IsNext}
use Rattle.kind_law.specs.Visit.{IsVisited}
use Rattle.kind_law.specs.declared.visited.Visited.{Visited}
use Rattle.kind_parts.specs.Relation.{truth_ends}
use Rattle.kind_parts.specs.Walk.{IsArgEnd}
use Rattle.kind_truths.specs.Operand.{is_certain, operand_refuted, operand_certain, operand_at, turned}
use Rattle.kind_truths.specs.Connective.{Connective, connective_refuted, connective_vars, AreSingle}
use Rattle.kind_truths.specs.declared.operand.Operand.{Operand}
use Rattle.kind_truths.specs.declared.plan.Plan.{Plan}
use Rattle.kind_truths.specs.declared.plan.Plan.TheVariants.{Refuted, Quiet, Ask}
use Rattle.kind_truths.specs.declared.plan.Aim.{Aim}
use Rattle.kind_truths.specs.declared.plan.Aim.TheVariants.{Open, Sole, Every}
use Rattle.kind_truths.specs.declared.probe.Test.{Test}
use Rattle.kind_truths.specs.declared.probe.Test.TheVariants.{Certain, Apart}

-- the place is that of the first operand, from here on, that isn't refuted, or the length where there is none
pub record IsFirstLeft (s : ℕ → Ends) (os : List Operand) (from place : ℕ) : Type 0 where
  pub within : place ≤ length os
  pub start : from ≤ place
  pub before : (i : ℕ) → from ≤ i → i < place → operand_refuted s (operand_at os i) ≡ true
  pub here : place < length os → operand_refuted s (operand_at os place) ≡ false

-- the place is that of a certain operand
pub record IsCertainAt (s : ℕ → Ends) (os : List Operand) (place : ℕ) : Type 0 where
  pub within : place < length os
  pub here : operand_certain s (operand_at os place) ≡ true
  pub stands : operand_refuted s (operand_at os place) ≡ false

-- the place found is that of a certain operand, and none is found only where none is certain
abbrev pub IsFirstCertain : (ℕ → Ends) → List Operand → Option ℕ → Type 0
IsFirstCertain s os found = MatchOption found (list_any (operand_certain s) os ≡ false) (IsCertainAt s os)

-- some operand isn't refuted
abbrev pub HasLeft : (ℕ → Ends) → List Operand → Type 0
HasLeft s os = list_all (operand_refuted s) os ≡ false

-- the cell passes the test
abbrev pub passes : Test → Ends → Bool
passes (Certain negated) e = is_certain negated e
passes (Apart other) e = have_none other e

-- whether a box with a bound more on the variable is refuted is told by the test of its cell
abbrev pub IsToldBy : ((ℕ → Start) → Bool) → (ℕ → Start) → Test → VarId → Type 0
IsToldBy refuted b test u = (l : Literal) → l.var.0 ≡ u.0 → refuted (kept b l) ≡ passes test (ends_of (kept b l u.0))

-- the same of the operand at the place, tested whether it, or its opposite where it is flipped, is certain
abbrev pub IsOperandTold : Connective → (ℕ → Start) → Bool → ℕ → Type 0
IsOperandTold k b flipped i = ArgHas (IsToldBy (connective_refuted k) b (Certain (turned flipped (operand_at k.operands i).negated))) (operand_at k.operands i).arg

-- the same of a variable of the box
pub record IsAnswered (k : Connective) (m : Box) (test : Test) (u : VarId) : Type 0 where
  pub below : u.0 < length m.starts
  pub told : IsToldBy (connective_refuted k) (cell_of m) test u

-- the operand at this place implies no end
abbrev pub HasNoEndAt : Connective → (ℕ → Start) → ℕ → Type 0
HasNoEndAt k b i = ArgHas (HasNoEnd (connective_refuted k) b) (operand_at k.operands i).arg

-- the implied end of the operand at this place
abbrev pub IsOperandEnd : Connective → Box → ℕ → Option Literal → Type 0
IsOperandEnd k m i r = IsArgEnd (connective_refuted k) (cell_of m) (operand_at k.operands i).arg r

-- the first implied end
abbrev pub IsNextEnd : Connective → Box → Option Literal → Type 0
IsNextEnd k m r = IsNext (connective_refuted k) (connective_vars k) (cell_of m) r

-- what a visit tells
abbrev pub IsVisitOf : Connective → Box → Visited → List Literal → Type 0
IsVisitOf k m v ends = IsVisited (connective_refuted k) (connective_vars k) (cell_of m) (length m.starts) v ends

-- nothing is implied, neither of the operands nor of the output
pub record IsStill (k : Connective) (b : ℕ → Start) : Type 0 where
  pub stands : connective_refuted k b ≡ false
  pub none : Each (HasNoEnd (connective_refuted k) b) (connective_vars k)

-- no end of an operand is implied
pub record IsOpen (k : Connective) (b : ℕ → Start) : Type 0 where
  pub stands : connective_refuted k b ≡ false
  pub none : (i : ℕ) → i < length k.operands → HasNoEndAt k b i

-- an end of this operand alone may be implied: the one that makes it true
pub record IsSole (k : Connective) (b : ℕ → Start) (place : ℕ) : Type 0 where
  pub stands : connective_refuted k b ≡ false
  pub others : (i : ℕ) → i < length k.operands → (i ≡ place → ⊥) → HasNoEndAt k b i
  pub own : IsOperandTold k b true place

-- an end of each operand may be implied: the one that makes it false
pub record IsEvery (k : Connective) (b : ℕ → Start) : Type 0 where
  pub stands : connective_refuted k b ≡ false
  pub all : (i : ℕ) → i < length k.operands → IsOperandTold k b false i

-- the truths of what is open
abbrev pub both : Ends
both = truth_ends false false

-- the output is a truth, and asks for a true disjunction
pub record AsksTrue (k : Connective) (b : ℕ → Start) : Type 0 where
  pub order : IsOrdered (arg_ends (hulls b) k.output)
  pub certain : is_certain k.flipped (arg_ends (hulls b) k.output) ≡ true
  pub reach : have_none both (arg_ends (hulls b) k.output) ≡ false

-- the output is a truth, and asks for a false disjunction
pub record AsksFalse (k : Connective) (b : ℕ → Start) : Type 0 where
  pub order : IsOrdered (arg_ends (hulls b) k.output)
  pub certain : is_certain (not k.flipped) (arg_ends (hulls b) k.output) ≡ true
  pub reach : have_none both (arg_ends (hulls b) k.output) ≡ false

-- what the aim says of the box
abbrev pub IsAim : Connective → (ℕ → Start) → Aim → Type 0
IsAim k b Open = IsOpen k b
IsAim k b (Sole place) = IsSole k b place
IsAim k b Every = IsEvery k b

-- what the plan says of the box
abbrev pub IsPlan : Connective → (ℕ → Start) → Plan → Type 0
IsPlan k b Refuted = connective_refuted k b ≡ true
IsPlan k b Quiet = IsStill k b
IsPlan k b (Ask aim) = IsAim k b aim

-- the aim in the cells of a connective in which no variable comes twice
pub record IsAimed (k : Connective) (m : Box) (aim : Aim) : Type 0 where
  pub below : AllBelow (length m.starts) (connective_vars k)
  pub single : AreSingle k
  pub tells : IsAim k (cell_of m) aim
