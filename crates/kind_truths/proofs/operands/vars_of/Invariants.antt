use Rattle.std.proofs.Common.{◌≡◌, drop}
use Rattle.kind_parts.specs.Vars.{gathered, variables_of}
use Rattle.kind_parts.proofs.VarsLaws.{gathering}
use Rattle.kind_truths.specs.Operand.{arguments_of}
use Rattle.kind_truths.proofs.operands.vars_of.Given as goal

abbrev pub invariant-loop-operand : goal.invariant-loop-operand
invariant-loop-operand l = gathering l.vars (variables_of (arguments_of (drop l.operand-index l.operands))) ≡ gathered (variables_of (arguments_of l.operands))
