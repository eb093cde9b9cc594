use Rattle.bench_linear.specs.Digits.{IsDigitView}
use Rattle.bench_linear.proofs.views.count_kept.Given as goal

abbrev pub invariant-loop-number : goal.invariant-loop-number
invariant-loop-number l = IsDigitView l.width l.view
