-- Operands of disjunctions: arguments, as they stand or negated. A value of 1 or more is true, one of 0 or less is false.
use Rattle.std.specs.Prelude.{Bool, true, false, not, List, [], ◌∷◌, ◌++◌, ℕ, ℤ, pos, int_le, int_lt, slice_index_or}
use Rattle.dom_core.specs.Ends.{Ends}
use Rattle.dom_core.specs.declared.arg.Arg.{Arg}
use Rattle.dom_core.specs.declared.arg.Arg.TheVariants.{Var}
use Rattle.dom_core.specs.declared.var_id.VarId.{VarId}
use Rattle.dom_core.specs.declared.view.Movement.{Movement}
use Rattle.kind_law.specs.Argument.{arg_value, arg_ends, arg_change, distinct}
use Rattle.kind_law.specs.Laws.{changes}
use Rattle.kind_parts.specs.Vars.{variables_of}
use Rattle.kind_truths.specs.declared.operand.Operand.{Operand}

-- the value makes the argument true, or, where it is negated, false
abbrev pub makes_true : Bool → ℤ → Bool
makes_true false v = int_le (pos 1) v
makes_true true v = int_le v (pos 0)

-- each value of the interval makes the argument true, or, where it is negated, false
abbrev pub is_certain : Bool → Ends → Bool
is_certain false e = int_le (pos 1) e.lo
is_certain true e = int_le e.hi (pos 0)

-- the argument may fall by such a change, or, where it is negated, rise
abbrev pub may_fall : Bool → Ends → Bool
may_fall false e = int_lt e.lo (pos 0)
may_fall true e = int_lt (pos 0) e.hi

-- the operand is true at the assignment
abbrev pub operand_true : List ℤ → Operand → Bool
operand_true a o = makes_true o.negated (arg_value a o.arg)

-- the operand is true at every value within the intervals
abbrev pub operand_certain : (ℕ → Ends) → Operand → Bool
operand_certain s o = is_certain o.negated (arg_ends s o.arg)

-- the operand is false at every value within the intervals
abbrev pub operand_refuted : (ℕ → Ends) → Operand → Bool
operand_refuted s o = is_certain (not o.negated) (arg_ends s o.arg)

-- the truth, or, where it is flipped, its opposite
abbrev pub turned : Bool → Bool → Bool
turned false t = t
turned true t = not t

-- the operand, or its opposite where it is flipped, may fall under the view
abbrev pub operand_moves : Bool → List Movement → Operand → Bool
operand_moves flipped view o = may_fall (turned flipped o.negated) (arg_change (changes view) o.arg)

-- the operand may fall under the view
abbrev pub operand_falls : List Movement → Operand → Bool
operand_falls view o = operand_moves false view o

-- the operand may rise under the view
abbrev pub operand_rises : List Movement → Operand → Bool
operand_rises view o = operand_moves true view o

-- the arguments as operands, all as they stand or all negated
abbrev pub signed : Bool → List Arg → List Operand
signed n [] = []
signed n (x ∷ xs) = record { arg = x; negated = n } ∷ signed n xs

-- the operands of a clause: the arguments that stand as they are, and then those that are negated
abbrev pub operands_of : List Arg → List Arg → List Operand
operands_of ps ns = signed false ps ++ signed true ns

-- the arguments of the operands
abbrev pub arguments_of : List Operand → List Arg
arguments_of [] = []
arguments_of (o ∷ os) = o.arg ∷ arguments_of os

-- the variables of the operands, each once
abbrev pub operand_vars : List Operand → List VarId
operand_vars os = distinct (variables_of (arguments_of os))

-- the operand at this place
abbrev pub operand_at : List Operand → ℕ → Operand
operand_at os i = slice_index_or os i (record { arg = Var (record { 0 = 0 }); negated = false })
