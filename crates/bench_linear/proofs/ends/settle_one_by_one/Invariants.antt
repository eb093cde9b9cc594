use Rattle.std.proofs.Common.{◌≡◌, ◌≤◌, length}
use Rattle.bench_linear.proofs.ends.settle_one_by_one.Given as goal

abbrev pub invariant-loop : goal.invariant-loop
invariant-loop l = record {
  starts : l.cells.state.starts ≡ l.fn.cells.state.starts;
  longer : length l.fn.cells.state.literals ≤ length l.cells.state.literals;
}
