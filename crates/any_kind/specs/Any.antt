-- Constraints of any kind: what each ghost member of the traits is at the kind that stands there.
use Rattle.std.specs.Prelude.{Bool, true, false, List, [], ℕ, ℤ}
use Rattle.dom_core.specs.Ends.{Ends}
use Rattle.dom_core.specs.declared.var_id.VarId.{VarId}
use Rattle.dom_core.specs.declared.view.Movement.{Movement}
use Rattle.dom_cells.specs.declared.start.Start.{Start}
use Rattle.kind_law.specs.Argument.{var_of}
use Rattle.kind_sum.specs.SumRelation.{sum_vars, sum_size, SumFits, sum_met, sum_kept, sum_refuted}
use Rattle.kind_linear.specs.LinearOutput.{relation_of, output_size, OutputFits, is_functional, inputs_of, InputsFit, output_given, output_range, output_own_change}
use Rattle.kind_reified.specs.LinearReified.{reified_vars, reified_met, reified_kept, reified_refuted, is_giver, reified_given, reified_range, reified_own_change}
use Rattle.kind_arith.specs.InSet.{restricted_vars, restriction_met, restriction_kept, restriction_refuted}
use Rattle.kind_truths.specs.BoolClause.{clause_met, clause_kept, clause_refuted}
use Rattle.kind_truths.specs.Connective.{connective_vars, connective_met, connective_kept, connective_refuted, defines_output, connective_inputs, connective_given, connective_range, connective_own_change}
use Rattle.kind_truths.specs.Operand.{operand_vars}
use Rattle.kind_bool.specs.Xor.{xor_vars, xor_met, xor_kept, xor_refuted, gives_output, xor_inputs, xor_given, xor_range, xor_own_change}
use Rattle.any_kind.specs.Never.{never_output, NeverFits, never_defined, never_given, never_ranged, never_own_change}
use Rattle.any_kind.specs.declared.any.AnyKind.{AnyKind}
use Rattle.any_kind.specs.declared.any.AnyKind.TheVariants.{Linear, LinearOutput, LinearReified, InSet, BoolClause, BoolClauseReified, And, Or, Xor}

-- ---- every kind

-- the variables that it reads or defines
abbrev pub any_vars : AnyKind → List VarId
any_vars (Linear k) = sum_vars k
any_vars (LinearOutput k) = sum_vars (relation_of k)
any_vars (LinearReified k) = reified_vars k
any_vars (InSet k) = restricted_vars k
any_vars (BoolClause k) = operand_vars k
any_vars (BoolClauseReified k) = connective_vars k
any_vars (And k) = connective_vars k
any_vars (Or k) = connective_vars k
any_vars (Xor k) = xor_vars k

-- whether it looks at single values
abbrev pub any_inside : AnyKind → ℕ → Bool
any_inside (Linear k) = λ v. false
any_inside (LinearOutput k) = λ v. false
any_inside (LinearReified k) = λ v. false
any_inside (InSet k) = λ v. true
any_inside (BoolClause k) = λ v. false
any_inside (BoolClauseReified k) = λ v. false
any_inside (And k) = λ v. false
any_inside (Or k) = λ v. false
any_inside (Xor k) = λ v. false

-- the variables of its sum or product
abbrev pub any_measured : AnyKind → List VarId
any_measured (Linear k) = sum_vars k
any_measured (LinearOutput k) = inputs_of k
any_measured (LinearReified k) = sum_vars k.sum
any_measured (InSet k) = []
any_measured (BoolClause k) = []
any_measured (BoolClauseReified k) = []
any_measured (And k) = []
any_measured (Or k) = []
any_measured (Xor k) = []

-- how large its sum or product can be
abbrev pub any_size : AnyKind → (ℕ → Ends) → ℕ
any_size (Linear k) = sum_size k
any_size (LinearOutput k) = output_size k
any_size (LinearReified k) = sum_size k.sum
any_size (InSet k) = λ s. 0
any_size (BoolClause k) = λ s. 0
any_size (BoolClauseReified k) = λ s. 0
any_size (And k) = λ s. 0
any_size (Or k) = λ s. 0
any_size (Xor k) = λ s. 0

-- its sums and products stay far from a machine's ends
abbrev pub AnyFits : AnyKind → (ℕ → Ends) → Type 0
AnyFits (Linear k) = SumFits k
AnyFits (LinearOutput k) = OutputFits k
AnyFits (LinearReified k) = SumFits k.sum
AnyFits (InSet k) = λ s. Unit {0}
AnyFits (BoolClause k) = λ s. Unit {0}
AnyFits (BoolClauseReified k) = λ s. Unit {0}
AnyFits (And k) = λ s. Unit {0}
AnyFits (Or k) = λ s. Unit {0}
AnyFits (Xor k) = λ s. Unit {0}

-- the assignment satisfies it
abbrev pub any_met : AnyKind → List ℤ → Bool
any_met (Linear k) = sum_met k
any_met (LinearOutput k) = sum_met (relation_of k)
any_met (LinearReified k) = reified_met k
any_met (InSet k) = restriction_met k
any_met (BoolClause k) = clause_met k
any_met (BoolClauseReified k) = connective_met k
any_met (And k) = connective_met k
any_met (Or k) = connective_met k
any_met (Xor k) = xor_met k

-- the view is known to keep it
abbrev pub any_kept : AnyKind → List Movement → Bool
any_kept (Linear k) = sum_kept k
any_kept (LinearOutput k) = sum_kept (relation_of k)
any_kept (LinearReified k) = reified_kept k
any_kept (InSet k) = restriction_kept k
any_kept (BoolClause k) = clause_kept k
any_kept (BoolClauseReified k) = connective_kept k
any_kept (And k) = connective_kept k
any_kept (Or k) = connective_kept k
any_kept (Xor k) = xor_kept k

-- the box is given up
abbrev pub any_refuted : AnyKind → (ℕ → Start) → Bool
any_refuted (Linear k) = sum_refuted k
any_refuted (LinearOutput k) = sum_refuted (relation_of k)
any_refuted (LinearReified k) = reified_refuted k
any_refuted (InSet k) = restriction_refuted k
any_refuted (BoolClause k) = clause_refuted k
any_refuted (BoolClauseReified k) = connective_refuted k
any_refuted (And k) = connective_refuted k
any_refuted (Or k) = connective_refuted k
any_refuted (Xor k) = xor_refuted k

-- ---- kinds that define a variable

-- it has a functional shape
abbrev pub any_functional : AnyKind → Bool
any_functional (Linear k) = false
any_functional (LinearOutput k) = is_functional k
any_functional (LinearReified k) = is_giver k
any_functional (InSet k) = false
any_functional (BoolClause k) = false
any_functional (BoolClauseReified k) = defines_output k
any_functional (And k) = defines_output k
any_functional (Or k) = defines_output k
any_functional (Xor k) = gives_output k

-- the variable that it defines
abbrev pub any_output : AnyKind → VarId
any_output (Linear k) = never_output
any_output (LinearOutput k) = k.output
any_output (LinearReified k) = var_of k.output
any_output (InSet k) = never_output
any_output (BoolClause k) = never_output
any_output (BoolClauseReified k) = var_of k.output
any_output (And k) = var_of k.output
any_output (Or k) = var_of k.output
any_output (Xor k) = var_of k.output

-- the variables that the value is computed from
abbrev pub any_inputs : AnyKind → List VarId
any_inputs (Linear k) = []
any_inputs (LinearOutput k) = inputs_of k
any_inputs (LinearReified k) = sum_vars k.sum
any_inputs (InSet k) = []
any_inputs (BoolClause k) = []
any_inputs (BoolClauseReified k) = connective_inputs k
any_inputs (And k) = connective_inputs k
any_inputs (Or k) = connective_inputs k
any_inputs (Xor k) = xor_inputs k

-- the inputs' sums and products stay far from a machine's ends
abbrev pub AnyInputsFit : AnyKind → (ℕ → Ends) → Type 0
AnyInputsFit (Linear k) = NeverFits
AnyInputsFit (LinearOutput k) = InputsFit k
AnyInputsFit (LinearReified k) = SumFits k.sum
AnyInputsFit (InSet k) = NeverFits
AnyInputsFit (BoolClause k) = NeverFits
AnyInputsFit (BoolClauseReified k) = λ s. Unit {0}
AnyInputsFit (And k) = λ s. Unit {0}
AnyInputsFit (Or k) = λ s. Unit {0}
AnyInputsFit (Xor k) = λ s. Unit {0}

-- the function has a value at all inputs within the intervals
abbrev pub any_defined : AnyKind → (ℕ → Ends) → Bool
any_defined (Linear k) = never_defined
any_defined (LinearOutput k) = λ s. true
any_defined (LinearReified k) = λ s. true
any_defined (InSet k) = never_defined
any_defined (BoolClause k) = never_defined
any_defined (BoolClauseReified k) = λ s. true
any_defined (And k) = λ s. true
any_defined (Or k) = λ s. true
any_defined (Xor k) = λ s. true

-- the value that the inputs give
abbrev pub any_given : AnyKind → List ℤ → ℤ
any_given (Linear k) = never_given
any_given (LinearOutput k) = output_given k
any_given (LinearReified k) = reified_given k
any_given (InSet k) = never_given
any_given (BoolClause k) = never_given
any_given (BoolClauseReified k) = connective_given k
any_given (And k) = connective_given k
any_given (Or k) = connective_given k
any_given (Xor k) = xor_given k

-- the interval that the inputs' intervals give
abbrev pub any_ranged : AnyKind → (ℕ → Ends) → Ends
any_ranged (Linear k) = never_ranged
any_ranged (LinearOutput k) = output_range k
any_ranged (LinearReified k) = reified_range k
any_ranged (InSet k) = never_ranged
any_ranged (BoolClause k) = never_ranged
any_ranged (BoolClauseReified k) = connective_range k
any_ranged (And k) = connective_range k
any_ranged (Or k) = connective_range k
any_ranged (Xor k) = xor_range k

-- how the value may change by the movements of the inputs
abbrev pub any_own_change : AnyKind → List Movement → Ends
any_own_change (Linear k) = never_own_change
any_own_change (LinearOutput k) = output_own_change k
any_own_change (LinearReified k) = reified_own_change k
any_own_change (InSet k) = never_own_change
any_own_change (BoolClause k) = never_own_change
any_own_change (BoolClauseReified k) = connective_own_change k
any_own_change (And k) = connective_own_change k
any_own_change (Or k) = connective_own_change k
any_own_change (Xor k) = xor_own_change k
