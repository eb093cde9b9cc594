use Rattle.std.proofs.Common.{◌≡◌, ◌<◌, ◌≤◌, true, ℕ}
use Rattle.kind_truths.specs.Operand.{operand_refuted, operand_at}
use Rattle.kind_truths.proofs.operands.first_left.Given as goal

abbrev pub invariant-loop-at : goal.invariant-loop-at
invariant-loop-at g l = record {
  start : l.fn.from ≤ l.at;
  before : (i : ℕ) → l.fn.from ≤ i → i < l.at → operand_refuted (g.I.Intervals.spans l.fn.intervals) (operand_at l.fn.operands i) ≡ true;
}
