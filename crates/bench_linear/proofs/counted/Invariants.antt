use Rattle.std.proofs.Common.{◌≡◌, ◌≤◌, []}
use Rattle.bench_linear.specs.Digits.{AreDigits}
use Rattle.bench_linear.proofs.counted.Given as goal

abbrev pub invariant-loop-number : goal.invariant-loop-number
invariant-loop-number l = record {
  digits : AreDigits 1000 l.cells.state.starts;
  none : l.cells.state.literals ≡ [];
  room : 1000 ≤ l.cells.spare;
}
