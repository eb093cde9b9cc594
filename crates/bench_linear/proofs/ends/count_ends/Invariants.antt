use Rattle.bench_linear.specs.Digits.{AreDigits}
use Rattle.bench_linear.proofs.ends.count_ends.Given as goal

abbrev pub invariant-loop-number : goal.invariant-loop-number
invariant-loop-number l = AreDigits l.width l.cells.state.starts
