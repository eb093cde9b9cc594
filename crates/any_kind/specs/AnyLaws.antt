-- The laws of any kind, each from that of the kind that stands there.
use Rattle.std.specs.Prelude.{◌≡◌, true, []}
use Rattle.kind_law.specs.Laws.{AreAmong, FitsLaw, WidthLaw, SizeLaw, ShrinkLaw, FixedLaw, KeepLaw, StillLaw}
use Rattle.kind_law.specs.DefineLaws.{ApartLaw, ArePartsOf, PassLaw, InputWidthLaw, ValueLaw, InputLaw, DefinedLaw, RangeLaw, MonotoneLaw, OwnChangeLaw, FixesLaw}
use Rattle.kind_law.specs.TotalLaws.{no_size, total_defined}
use Rattle.kind_sum.specs.SumRelation.{sum_vars}
use Rattle.kind_linear.specs.LinearOutput.{inputs_of}
use Rattle.kind_arith.specs.InSet.{restricted_vars}
use Rattle.kind_truths.specs.Operand.{operand_vars}
use Rattle.kind_truths.specs.Connective.{connective_inputs}
use Rattle.kind_bool.specs.Xor.{xor_inputs}
use Rattle.kind_sum.specs.SumRelationLaws.{sum-fits, sum-width, sum-measured, sum-size, sum-shrink, sum-fixed, sum-keep}
use Rattle.kind_linear.specs.LinearOutputLaws.{output-fits, output-width, output-measured, output-size, output-shrink, output-fixed, output-keep, output-still, output-inputs, output-pass, output-input_width, output-measured_inputs, output-apart, output-parts, output-value, output-input, output-range, output-monotone, output-own_change, output-fixes}
use Rattle.kind_reified.specs.LinearReifiedLaws.{reified-fits, reified-width, reified-measured, reified-shrink, reified-fixed, reified-keep, reified-still, reified-inputs, reified-pass, reified-input_width, reified-measured_inputs, reified-apart, reified-parts, reified-value, reified-input, reified-range, reified-monotone, reified-own_change, reified-fixes}
use Rattle.kind_sum.specs.SumRelationStill.{sum-still}
use Rattle.kind_arith.specs.InSetLaws.{restriction-fits, restriction-width, restriction-measured, restriction-shrink, restriction-fixed, restriction-keep, restriction-still}
use Rattle.kind_truths.specs.BoolClauseLaws.{clause-fits, clause-width, clause-measured, clause-shrink, clause-fixed, clause-keep, clause-still}
use Rattle.kind_truths.specs.ConnectiveLaws.{connective-fits, connective-width, connective-measured, connective-shrink, connective-fixed, connective-keep, connective-still, connective-inputs, connective-pass, connective-input_width, connective-measured_inputs, connective-among, connective-apart, connective-parts, connective-value, connective-input, connective-range, connective-monotone, connective-own_change, connective-fixes}
use Rattle.kind_bool.specs.XorLaws.{xor-fits, xor-width, xor-measured, xor-shrink, xor-fixed, xor-keep, xor-still, xor-inputs, xor-pass, xor-input_width, xor-measured_inputs, xor-among, xor-apart, xor-parts, xor-value, xor-input, xor-range, xor-monotone, xor-own_change, xor-fixes}
use Rattle.any_kind.specs.Any.{any_vars, any_inside, any_measured, any_size, AnyFits, any_met, any_kept, any_refuted, any_functional, any_output, any_inputs, AnyInputsFit, any_defined, any_given, any_ranged, any_own_change}
use Rattle.any_kind.specs.Never.{never, never-inputs, never-among, never-input, never-range, never-monotone, never-own_change}
use Rattle.any_kind.specs.declared.any.AnyKind.{AnyKind}
use Rattle.any_kind.specs.declared.any.AnyKind.TheVariants.{Linear, LinearOutput, LinearReified, InSet, BoolClause, BoolClauseReified, And, Or, Xor}

-- ---- every kind

pub any-fits : (k : AnyKind) → FitsLaw (any_vars k) (AnyFits k)
any-fits (Linear k) = sum-fits k
any-fits (LinearOutput k) = output-fits k
any-fits (LinearReified k) = reified-fits k
any-fits (InSet k) = restriction-fits k
any-fits (BoolClause k) = clause-fits k
any-fits (BoolClauseReified k) = connective-fits k
any-fits (And k) = connective-fits k
any-fits (Or k) = connective-fits k
any-fits (Xor k) = xor-fits k

pub any-width : (k : AnyKind) → WidthLaw (any_vars k) (any_size k) (AnyFits k)
any-width (Linear k) = sum-width k
any-width (LinearOutput k) = output-width k
any-width (LinearReified k) = reified-width k
any-width (InSet k) = restriction-width k
any-width (BoolClause k) = clause-width k
any-width (BoolClauseReified k) = connective-width k
any-width (And k) = connective-width k
any-width (Or k) = connective-width k
any-width (Xor k) = xor-width k

pub any-measured : (k : AnyKind) → AreAmong (any_measured k) (any_vars k)
any-measured (Linear k) = sum-measured k
any-measured (LinearOutput k) = output-measured k
any-measured (LinearReified k) = reified-measured k
any-measured (InSet k) = restriction-measured k
any-measured (BoolClause k) = clause-measured k
any-measured (BoolClauseReified k) = connective-measured k
any-measured (And k) = connective-measured k
any-measured (Or k) = connective-measured k
any-measured (Xor k) = xor-measured k

pub any-size : (k : AnyKind) → SizeLaw (any_measured k) (any_size k)
any-size (Linear k) = sum-size k
any-size (LinearOutput k) = output-size k
any-size (LinearReified k) = sum-size k.sum
any-size (InSet k) = no_size
any-size (BoolClause k) = no_size
any-size (BoolClauseReified k) = no_size
any-size (And k) = no_size
any-size (Or k) = no_size
any-size (Xor k) = no_size

pub any-shrink : (k : AnyKind) → ShrinkLaw (any_inside k) (any_vars k) (any_refuted k)
any-shrink (Linear k) = sum-shrink k
any-shrink (LinearOutput k) = output-shrink k
any-shrink (LinearReified k) = reified-shrink k
any-shrink (InSet k) = restriction-shrink k
any-shrink (BoolClause k) = clause-shrink k
any-shrink (BoolClauseReified k) = connective-shrink k
any-shrink (And k) = connective-shrink k
any-shrink (Or k) = connective-shrink k
any-shrink (Xor k) = xor-shrink k

pub any-fixed : (k : AnyKind) → FixedLaw (any_refuted k) (any_met k)
any-fixed (Linear k) = sum-fixed k
any-fixed (LinearOutput k) = output-fixed k
any-fixed (LinearReified k) = reified-fixed k
any-fixed (InSet k) = restriction-fixed k
any-fixed (BoolClause k) = clause-fixed k
any-fixed (BoolClauseReified k) = connective-fixed k
any-fixed (And k) = connective-fixed k
any-fixed (Or k) = connective-fixed k
any-fixed (Xor k) = xor-fixed k

pub any-keep : (k : AnyKind) → KeepLaw (any_vars k) (any_kept k) (any_met k)
any-keep (Linear k) = sum-keep k
any-keep (LinearOutput k) = output-keep k
any-keep (LinearReified k) = reified-keep k
any-keep (InSet k) = restriction-keep k
any-keep (BoolClause k) = clause-keep k
any-keep (BoolClauseReified k) = connective-keep k
any-keep (And k) = connective-keep k
any-keep (Or k) = connective-keep k
any-keep (Xor k) = xor-keep k

pub any-still : (k : AnyKind) → StillLaw (any_vars k) (any_kept k)
any-still (Linear k) = sum-still k
any-still (LinearOutput k) = output-still k
any-still (LinearReified k) = reified-still k
any-still (InSet k) = restriction-still k
any-still (BoolClause k) = clause-still k
any-still (BoolClauseReified k) = connective-still k
any-still (And k) = connective-still k
any-still (Or k) = connective-still k
any-still (Xor k) = xor-still k

-- ---- kinds that define a variable

pub any-inputs : (k : AnyKind) → FitsLaw (any_inputs k) (AnyInputsFit k)
any-inputs (Linear k) = never-inputs
any-inputs (LinearOutput k) = output-inputs k
any-inputs (LinearReified k) = reified-inputs k
any-inputs (InSet k) = never-inputs
any-inputs (BoolClause k) = never-inputs
any-inputs (BoolClauseReified k) = connective-inputs k
any-inputs (And k) = connective-inputs k
any-inputs (Or k) = connective-inputs k
any-inputs (Xor k) = xor-inputs k

pub any-pass : (k : AnyKind) → any_functional k ≡ true → PassLaw (AnyFits k) (any_defined k) (AnyInputsFit k)
any-pass (Linear k) = never _
any-pass (LinearOutput k) = output-pass k
any-pass (LinearReified k) = reified-pass k
any-pass (InSet k) = never _
any-pass (BoolClause k) = never _
any-pass (BoolClauseReified k) = connective-pass k
any-pass (And k) = connective-pass k
any-pass (Or k) = connective-pass k
any-pass (Xor k) = xor-pass k

pub any-input_width : (k : AnyKind) → any_functional k ≡ true → InputWidthLaw (any_inputs k) (any_size k) (any_defined k) (AnyInputsFit k)
any-input_width (Linear k) = never _
any-input_width (LinearOutput k) = output-input_width k
any-input_width (LinearReified k) = reified-input_width k
any-input_width (InSet k) = never _
any-input_width (BoolClause k) = never _
any-input_width (BoolClauseReified k) = connective-input_width k
any-input_width (And k) = connective-input_width k
any-input_width (Or k) = connective-input_width k
any-input_width (Xor k) = xor-input_width k

pub any-measured_inputs : (k : AnyKind) → any_functional k ≡ true → AreAmong (any_measured k) (any_inputs k)
any-measured_inputs (Linear k) = never _
any-measured_inputs (LinearOutput k) = output-measured_inputs k
any-measured_inputs (LinearReified k) = reified-measured_inputs k
any-measured_inputs (InSet k) = never _
any-measured_inputs (BoolClause k) = never _
any-measured_inputs (BoolClauseReified k) = connective-measured_inputs k
any-measured_inputs (And k) = connective-measured_inputs k
any-measured_inputs (Or k) = connective-measured_inputs k
any-measured_inputs (Xor k) = xor-measured_inputs k

pub any-among : (k : AnyKind) → AreAmong (any_inputs k) (any_vars k)
any-among (Linear k) = never-among (sum_vars k)
any-among (LinearOutput k) = output-measured k
any-among (LinearReified k) = reified-measured k
any-among (InSet k) = never-among (restricted_vars k)
any-among (BoolClause k) = never-among (operand_vars k)
any-among (BoolClauseReified k) = connective-among k
any-among (And k) = connective-among k
any-among (Or k) = connective-among k
any-among (Xor k) = xor-among k

pub any-apart : (k : AnyKind) → any_functional k ≡ true → ApartLaw (any_output k) (any_inputs k)
any-apart (Linear k) = never _
any-apart (LinearOutput k) = output-apart k
any-apart (LinearReified k) = reified-apart k
any-apart (InSet k) = never _
any-apart (BoolClause k) = never _
any-apart (BoolClauseReified k) = connective-apart k
any-apart (And k) = connective-apart k
any-apart (Or k) = connective-apart k
any-apart (Xor k) = xor-apart k

pub any-parts : (k : AnyKind) → any_functional k ≡ true → ArePartsOf (any_output k) (any_inputs k) (any_vars k)
any-parts (Linear k) = never _
any-parts (LinearOutput k) = output-parts k
any-parts (LinearReified k) = reified-parts k
any-parts (InSet k) = never _
any-parts (BoolClause k) = never _
any-parts (BoolClauseReified k) = connective-parts k
any-parts (And k) = connective-parts k
any-parts (Or k) = connective-parts k
any-parts (Xor k) = xor-parts k

pub any-value : (k : AnyKind) → any_functional k ≡ true → ValueLaw (any_output k) (AnyInputsFit k) (any_given k) (any_met k)
any-value (Linear k) = never _
any-value (LinearOutput k) = output-value k
any-value (LinearReified k) = reified-value k
any-value (InSet k) = never _
any-value (BoolClause k) = never _
any-value (BoolClauseReified k) = connective-value k
any-value (And k) = connective-value k
any-value (Or k) = connective-value k
any-value (Xor k) = xor-value k

pub any-input : (k : AnyKind) → InputLaw (any_inputs k) (any_given k)
any-input (Linear k) = never-input
any-input (LinearOutput k) = output-input k
any-input (LinearReified k) = reified-input k
any-input (InSet k) = never-input
any-input (BoolClause k) = never-input
any-input (BoolClauseReified k) = connective-input k
any-input (And k) = connective-input k
any-input (Or k) = connective-input k
any-input (Xor k) = xor-input k

pub any-defined : (k : AnyKind) → DefinedLaw (any_inputs k) (any_defined k)
any-defined (Linear k) = total_defined []
any-defined (LinearOutput k) = total_defined (inputs_of k)
any-defined (LinearReified k) = total_defined (sum_vars k.sum)
any-defined (InSet k) = total_defined []
any-defined (BoolClause k) = total_defined []
any-defined (BoolClauseReified k) = total_defined (connective_inputs k)
any-defined (And k) = total_defined (connective_inputs k)
any-defined (Or k) = total_defined (connective_inputs k)
any-defined (Xor k) = total_defined (xor_inputs k)

pub any-range : (k : AnyKind) → RangeLaw (any_inputs k) (any_given k) (any_ranged k)
any-range (Linear k) = never-range
any-range (LinearOutput k) = output-range k
any-range (LinearReified k) = reified-range k
any-range (InSet k) = never-range
any-range (BoolClause k) = never-range
any-range (BoolClauseReified k) = connective-range k
any-range (And k) = connective-range k
any-range (Or k) = connective-range k
any-range (Xor k) = xor-range k

pub any-monotone : (k : AnyKind) → MonotoneLaw (any_inputs k) (any_ranged k)
any-monotone (Linear k) = never-monotone
any-monotone (LinearOutput k) = output-monotone k
any-monotone (LinearReified k) = reified-monotone k
any-monotone (InSet k) = never-monotone
any-monotone (BoolClause k) = never-monotone
any-monotone (BoolClauseReified k) = connective-monotone k
any-monotone (And k) = connective-monotone k
any-monotone (Or k) = connective-monotone k
any-monotone (Xor k) = xor-monotone k

pub any-own_change : (k : AnyKind) → OwnChangeLaw (any_inputs k) (any_given k) (any_own_change k)
any-own_change (Linear k) = never-own_change
any-own_change (LinearOutput k) = output-own_change k
any-own_change (LinearReified k) = reified-own_change k
any-own_change (InSet k) = never-own_change
any-own_change (BoolClause k) = never-own_change
any-own_change (BoolClauseReified k) = connective-own_change k
any-own_change (And k) = connective-own_change k
any-own_change (Or k) = connective-own_change k
any-own_change (Xor k) = xor-own_change k

pub any-fixes : (k : AnyKind) → any_functional k ≡ true → FixesLaw (any_output k) (any_inputs k) (AnyInputsFit k) (any_given k) (any_refuted k)
any-fixes (Linear k) = never _
any-fixes (LinearOutput k) = output-fixes k
any-fixes (LinearReified k) = reified-fixes k
any-fixes (InSet k) = never _
any-fixes (BoolClause k) = never _
any-fixes (BoolClauseReified k) = connective-fixes k
any-fixes (And k) = connective-fixes k
any-fixes (Or k) = connective-fixes k
any-fixes (Xor k) = xor-fixes k
