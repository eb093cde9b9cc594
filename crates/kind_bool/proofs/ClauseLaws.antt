-- Clauses as disjunctions whose output is 1.
use Rattle.std.proofs.Common.{◌≡◌, Bool, true, false, not, ◌&&◌, List, pos, refl, sym, ◌∙◌, ap}
use Rattle.std.proofs.Math.Path.{fun_ext}
use Rattle.std.specs.List.{list_any, list_all}
use Rattle.dom_core.specs.Ends.{only}
use Rattle.dom_core.specs.declared.var_id.VarId.{VarId}
use Rattle.dom_core.specs.declared.view.Movement.{Movement}
use Rattle.dom_core.proofs.TestLaws.{and_first, and_second}
use Rattle.kind_law.specs.Argument.{with_new_arg, is_new}
use Rattle.kind_law.specs.Function.{have_none}
use Rattle.kind_law.specs.Laws.{hulls}
use Rattle.kind_parts.specs.Vars.{Gathered, gathered, variables_of}
use Rattle.kind_truths.specs.Operand.{operand_falls, operand_rises, operand_moves, operand_certain, operand_refuted, arguments_of}
use Rattle.kind_truths.specs.BoolClause.{clause_refuted}
use Rattle.kind_truths.specs.Connective.{Connective, truths_of, move_ends, moves_of, connective_refuted, truth_of_clause, IsClauseKept, IsConnectiveKept, connective_inputs}
use Rattle.kind_truths.specs.declared.operand.Operand.{Operand}
use Rattle.kind_truths.proofs.PlanLaws.{is_single}

all_or_none : (c r : Bool) → have_none (truths_of false c r) (only (pos 1)) ≡ r
all_or_none false false = refl
all_or_none false true = refl
all_or_none true false = refl
all_or_none true true = refl

-- it is refuted where the clause is
pub clause_truth : (os : List Operand) → connective_refuted (truth_of_clause os) ≡ clause_refuted os
clause_truth os = fun_ext (λ b. all_or_none (list_any (operand_certain (hulls b)) os) (list_all (operand_refuted (hulls b)) os))

-- what is kept of a new clause
pub clause_kept_is : (os : List Operand) (vars : List VarId) (single : Bool) (g : Gathered) → g ≡ gathered (variables_of (arguments_of os)) → vars ≡ g.vars → single ≡ g.single → IsClauseKept vars single os
clause_kept_is os vars single g e v s = record {
  vars = v ∙ ap (λ (h : Gathered). h.vars) e;
  singles = λ t. is_single (truth_of_clause os) (sym (ap (λ (h : Gathered). h.single) e) ∙ sym s ∙ t) refl;
}

-- what is kept of a new connective
pub connective_kept_is : (k : Connective) (inputs vars : List VarId) (first single : Bool) (g : Gathered) → g ≡ gathered (variables_of (arguments_of k.operands)) → inputs ≡ g.vars
    → vars ≡ with_new_arg inputs k.output → first ≡ g.single → single ≡ (first && is_new inputs k.output) → IsConnectiveKept inputs vars single k
connective_kept_is k inputs vars first single g e i v f s =
    let read : inputs ≡ connective_inputs k = i ∙ ap (λ (h : Gathered). h.vars) e in
    record {
      read = read;
      vars = v ∙ ap (λ (vs : List VarId). with_new_arg vs k.output) read;
      singles = λ t. (let both : (first && is_new inputs k.output) ≡ true = sym s ∙ t in
          is_single k (sym (ap (λ (h : Gathered). h.single) e) ∙ sym f ∙ and_first first (is_new inputs k.output) both)
          (ap (λ (vs : List VarId). is_new vs k.output) (sym read) ∙ and_second first (is_new inputs k.output) both));
    }

-- the moves of a disjunction's opposite are those of its operands' opposites
pub moves_turned : (f : Bool) (view : List Movement) (os : List Operand) → move_ends (list_any (operand_moves f view) os) (list_any (operand_moves (not f) view) os)
    ≡ moves_of f (list_any (operand_falls view) os) (list_any (operand_rises view) os)
moves_turned false view os = refl
moves_turned true view os = refl
