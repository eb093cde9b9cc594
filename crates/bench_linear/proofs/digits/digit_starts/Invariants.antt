use Rattle.std.proofs.Common.{◌-◌, ◌≤◌, length}
use Rattle.std.specs.List.{All}
use Rattle.bench_linear.specs.Digits.{IsDigits}
use Rattle.bench_linear.proofs.digits.digit_starts.Given as goal

abbrev pub invariant-loop-starts : goal.invariant-loop-starts
invariant-loop-starts l = record {
  within : length l.starts.items ≤ l.fn.width;
  each : All IsDigits l.starts.items;
}

abbrev pub decreases-loop-starts : goal.decreases-loop-starts
decreases-loop-starts l = l.fn.width - length l.starts.items
