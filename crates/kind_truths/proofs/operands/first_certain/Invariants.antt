use Rattle.std.proofs.Common.{◌≡◌, ◌<◌, false, ℕ}
use Rattle.kind_truths.specs.Operand.{operand_certain, operand_at}
use Rattle.kind_truths.proofs.operands.first_certain.Given as goal

abbrev pub invariant-loop-at : goal.invariant-loop-at
invariant-loop-at g l = (i : ℕ) → i < l.at → operand_certain (g.I.Intervals.spans l.fn.intervals) (operand_at l.fn.operands i) ≡ false
