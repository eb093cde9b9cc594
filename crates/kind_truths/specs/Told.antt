-- Reasons of connectives: what is told of the output and of the operands that count.
use Rattle.std.specs.Prelude.{◌≡◌, ◌<◌, Bool, true, false, not, List, length, ℕ, ℤ, pos, Option}
use Rattle.std.specs.List.{list_all}
use Rattle.dom_core.specs.Ends.{only}
use Rattle.dom_core.specs.declared.arg.Arg.{Arg}
use Rattle.dom_core.specs.declared.arg.Arg.TheVariants.{Var, Const}
use Rattle.dom_core.specs.declared.literal.Literal.{Literal}
use Rattle.dom_cells.specs.Box.{Box}
use Rattle.dom_cells.specs.declared.start.Start.{Start}
use Rattle.kind_law.specs.Argument.{arg_ends}
use Rattle.kind_law.specs.Asked.{CoversBound}
use Rattle.kind_law.specs.Laws.{hulls}
use Rattle.kind_law.specs.Reason.{asked}
use Rattle.kind_law.specs.declared.side.Side.{Side}
use Rattle.kind_law.specs.declared.side.Side.TheVariants.{Low, High}
use Rattle.kind_truths.specs.Operand.{is_certain, operand_refuted, operand_at, turned}
use Rattle.kind_truths.specs.Connective.{Connective}
use Rattle.kind_truths.specs.Plan.{IsCertainAt}
use Rattle.kind_truths.specs.declared.operand.Operand.{Operand}
use Rattle.kind_truths.specs.declared.reasons.Verdict.{Verdict}
use Rattle.kind_truths.specs.declared.reasons.Verdict.TheVariants.{All, One}

-- the side on which a certain argument is bounded: a true one from below, a false one from above
abbrev pub certain_side : Bool → Side
certain_side false = Low
certain_side true = High

-- the bound of a certain argument
abbrev pub certain_bound : Bool → ℤ
certain_bound false = pos 1
certain_bound true = pos 0

-- it is told that the argument is true, or, where it is negated, false; of a constant nothing need be told
abbrev pub IsToldCertain : Bool → Box → Option Literal → List Literal → Arg → Type 0
IsToldCertain n m implied ls (Var u) = CoversBound (certain_side n) m implied ls u.0 (certain_bound n)
IsToldCertain n m implied ls (Const c) = is_certain n (only c) ≡ true

-- the argument is true, or, where it is negated, false all over the box that is asked
abbrev pub IsCertainIn : Box → Option Literal → Bool → Arg → Type 0
IsCertainIn m implied n x = is_certain n (arg_ends (hulls (asked m implied)) x) ≡ true

-- the operand at the place, or its opposite where it is flipped, is true all over the box that is asked
abbrev pub IsOperandCertain : Connective → Box → Option Literal → Bool → ℕ → Type 0
IsOperandCertain k m implied flipped i = IsCertainIn m implied (turned flipped (operand_at k.operands i).negated) (operand_at k.operands i).arg

-- it is told that it is
abbrev pub TellsOperand : Connective → Box → Option Literal → List Literal → Bool → ℕ → Type 0
TellsOperand k m implied ls flipped i = IsToldCertain (turned flipped (operand_at k.operands i).negated) m implied ls (operand_at k.operands i).arg

-- it is told of each operand that it is refuted, up to this place
abbrev pub AreToldRefuted : Box → Option Literal → List Literal → List Operand → ℕ → Type 0
AreToldRefuted m implied ls os count = (i : ℕ) → i < count → IsToldCertain (not (operand_at os i).negated) m implied ls (operand_at os i).arg

-- the same of all operands
abbrev pub AreAllToldRefuted : Connective → Box → Option Literal → List Literal → Type 0
AreAllToldRefuted k m implied ls = AreToldRefuted m implied ls k.operands (length k.operands)

-- the output asks for a true disjunction, and all operands are refuted
pub record RefutesAll (k : Connective) (b : ℕ → Start) : Type 0 where
  pub output : is_certain k.flipped (arg_ends (hulls b) k.output) ≡ true
  pub operands : list_all (operand_refuted (hulls b)) k.operands ≡ true

-- the output asks for a false disjunction, and the operand at the place is certain
pub record RefutesOne (k : Connective) (b : ℕ → Start) (place : ℕ) : Type 0 where
  pub output : is_certain (not k.flipped) (arg_ends (hulls b) k.output) ≡ true
  pub operand : IsCertainAt (hulls b) k.operands place

-- why the box is refuted
abbrev pub IsVerdict : Connective → (ℕ → Start) → Verdict → Type 0
IsVerdict k b All = RefutesAll k b
IsVerdict k b (One place) = RefutesOne k b place
