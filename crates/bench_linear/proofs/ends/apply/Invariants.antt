use Rattle.std.proofs.Common.{◌≡◌, ◌≤◌, length}
use Rattle.bench_linear.proofs.ends.apply.Given as goal

abbrev pub invariant-loop-end : goal.invariant-loop-end
invariant-loop-end l = record {
  starts : l.cells.state.starts ≡ l.fn.cells.state.starts;
  longer : length l.fn.cells.state.literals ≤ length l.cells.state.literals;
}
