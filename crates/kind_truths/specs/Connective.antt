-- Truths of disjunctions, as they stand or flipped, as the value of an argument: disjunctions and clauses, and, flipped
-- over negated operands, conjunctions.
use Rattle.std.specs.Prelude.{◌≡◌, Bool, true, false, if◌then◌else◌, List, [], ◌∷◌, ◌++◌, ℕ, ℤ, pos, negsuc}
use Rattle.std.specs.List.{list_any, list_all}
use Rattle.dom_core.specs.Ends.{Ends}
use Rattle.dom_core.specs.declared.arg.Arg.{Arg}
use Rattle.dom_core.specs.declared.arg.Arg.TheVariants.{Const}
use Rattle.dom_core.specs.declared.var_id.VarId.{VarId}
use Rattle.dom_core.specs.declared.view.Movement.{Movement}
use Rattle.dom_cells.specs.declared.start.Start.{Start}
use Rattle.kind_law.specs.Argument.{with_new_arg}
use Rattle.kind_law.specs.DefineLaws.{changed_of}
use Rattle.kind_law.specs.Output.{output_met, output_refuted, output_kept, is_apart}
use Rattle.kind_parts.specs.Relation.{number_of, truth_ends}
use Rattle.kind_parts.specs.Vars.{are_distinct, variables_of}
use Rattle.kind_truths.specs.Operand.{operand_certain, operand_refuted, operand_falls, operand_rises, operand_vars, arguments_of, operands_of, signed, turned}
use Rattle.kind_truths.specs.BoolClause.{clause_met}
use Rattle.kind_truths.specs.declared.operand.Operand.{Operand}

-- operands, and the argument that is 1 exactly where one of them is true, or, where it is flipped, where none is
pub record Connective : Type 0 where
  pub operands : List Operand
  pub flipped : Bool
  pub output : Arg

-- the connective of these parts
abbrev pub connective_of : List Operand → Bool → Arg → Connective
connective_of operands flipped output = record { operands = operands; flipped = flipped; output = output }

-- the truths where some operand is certain, and where all are refuted
abbrev pub truths_of : Bool → Bool → Bool → Ends
truths_of false certain refuted = truth_ends certain refuted
truths_of true certain refuted = truth_ends refuted certain

-- from -1 to 1, without what falls where nothing may fall and without what rises where nothing may rise
abbrev pub move_ends : Bool → Bool → Ends
move_ends falls rises = record { lo = if falls then negsuc 0 else pos 0; hi = if rises then pos 1 else pos 0 }

-- how the truth may change where some operand may fall, and where some may rise
abbrev pub moves_of : Bool → Bool → Bool → Ends
moves_of false falls rises = move_ends falls rises
moves_of true falls rises = move_ends rises falls

-- the variables of the operands
abbrev pub connective_inputs : Connective → List VarId
connective_inputs k = operand_vars k.operands

-- its variables, each once, the output last
abbrev pub connective_vars : Connective → List VarId
connective_vars k = with_new_arg (connective_inputs k) k.output

-- the truth's value
abbrev pub connective_given : Connective → List ℤ → ℤ
connective_given k a = number_of (turned k.flipped (clause_met k.operands a))

-- the truths under intervals
abbrev pub connective_range : Connective → (ℕ → Ends) → Ends
connective_range k s = truths_of k.flipped (list_any (operand_certain s) k.operands) (list_all (operand_refuted s) k.operands)

-- the truth's own change under a view
abbrev pub connective_own_change : Connective → List Movement → Ends
connective_own_change k view = moves_of k.flipped (list_any (operand_falls view) k.operands) (list_any (operand_rises view) k.operands)

-- the change of the truth under a view
abbrev pub connective_changed : Connective → List Movement → Ends
connective_changed k = changed_of (connective_inputs k) (connective_range k) (connective_own_change k)

-- the output has the truth's value
abbrev pub connective_met : Connective → List ℤ → Bool
connective_met k = output_met (connective_given k) k.output

-- the truths over the box have no integer in common with the output's interval
abbrev pub connective_refuted : Connective → (ℕ → Start) → Bool
connective_refuted k = output_refuted (connective_range k) k.output

-- the output keeps the truth's value
abbrev pub connective_kept : Connective → List Movement → Bool
connective_kept k = output_kept true (connective_range k) (connective_changed k) k.output

-- it gives its output the truth's value
abbrev pub defines_output : Connective → Bool
defines_output k = is_apart k.output (connective_inputs k)

-- its arguments, the output last
abbrev pub all_arguments : Connective → List Arg
all_arguments k = arguments_of k.operands ++ k.output ∷ []

-- no variable comes twice, the output's included
abbrev pub AreSingle : Connective → Type 0
AreSingle k = (are_distinct (variables_of (all_arguments k)) ≡ true)

-- the connective's parts as they are kept: its inputs, its variables, and whether none comes twice
pub record IsConnectiveKept (inputs variables : List VarId) (single : Bool) (k : Connective) : Type 0 where
  pub read : inputs ≡ connective_inputs k
  pub vars : variables ≡ connective_vars k
  pub singles : single ≡ true → AreSingle k

-- a clause as a disjunction whose output is 1
abbrev pub truth_of_clause : List Operand → Connective
truth_of_clause os = record { operands = os; flipped = false; output = Const (pos 1) }

-- a clause's parts as they are kept: its variables, and whether none comes twice
pub record IsClauseKept (variables : List VarId) (single : Bool) (os : List Operand) : Type 0 where
  pub vars : variables ≡ operand_vars os
  pub singles : single ≡ true → AreSingle (truth_of_clause os)

-- the disjunction of the arguments
abbrev pub disjunction_of : List Arg → Arg → Connective
disjunction_of ps output = record { operands = signed false ps; flipped = false; output = output }

-- the conjunction of the arguments: none of them is false
abbrev pub conjunction_of : List Arg → Arg → Connective
conjunction_of ps output = record { operands = signed true ps; flipped = true; output = output }

-- the truth of the clause that one of the first arguments is true or one of the others false
abbrev pub clause_truth_of : List Arg → List Arg → Arg → Connective
clause_truth_of ps ns output = record { operands = operands_of ps ns; flipped = false; output = output }
