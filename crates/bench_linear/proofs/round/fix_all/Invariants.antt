use Rattle.std.proofs.Common.{◌≡◌, ◌+◌, ◌≤◌}
use Rattle.bench_linear.specs.Digits.{Extends, room_of}
use Rattle.bench_linear.proofs.round.fix_all.Given as goal

abbrev pub invariant-loop-at : goal.invariant-loop-at
invariant-loop-at l = record {
  starts : l.cells.state.starts ≡ l.fn.cells.state.starts;
  literals : Extends l.fn.cells.state.literals l.cells.state.literals;
  spare : 1000 ≤ l.cells.spare + l.at;
  room : room_of l.cells ≡ room_of l.fn.cells;
}
