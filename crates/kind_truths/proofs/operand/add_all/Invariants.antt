use Rattle.std.proofs.Common.{◌≡◌, ◌++◌, drop}
use Rattle.kind_truths.specs.Operand.{signed}
use Rattle.kind_truths.proofs.operand.add_all.Given as goal

abbrev pub invariant-loop-arg : goal.invariant-loop-arg
invariant-loop-arg l = l.operands.items ++ signed l.negated (drop l.arg-index l.args) ≡ l.initial.operands.items ++ signed l.negated l.args
