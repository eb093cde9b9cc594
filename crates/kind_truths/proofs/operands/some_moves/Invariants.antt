use Rattle.std.proofs.Common.{◌≡◌, ◌<◌, false, ℕ}
use Rattle.kind_truths.specs.Operand.{operand_moves, operand_at}
use Rattle.kind_truths.proofs.operands.some_moves.Given as goal

abbrev pub invariant-loop-at : goal.invariant-loop-at
invariant-loop-at l = (i : ℕ) → i < l.at → operand_moves l.fn.flipped l.fn.view (operand_at l.fn.operands i) ≡ false
