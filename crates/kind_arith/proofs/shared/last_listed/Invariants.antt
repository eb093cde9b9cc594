use Rattle.std.proofs.Common.{◌≤◌, length}
use Rattle.dom_cells.specs.Box.{cell_of}
use Rattle.kind_arith.proofs.SharedLaws.{HasNone}
use Rattle.kind_arith.proofs.shared.last_listed.Given as goal

abbrev pub invariant-loop-behind : goal.invariant-loop-behind
invariant-loop-behind l = record {
  within : l.behind ≤ length l.values;
  none : HasNone l.values (cell_of l.cells.state l.var.0) l.behind (length l.values);
}

abbrev pub decreases-loop-behind : goal.decreases-loop-behind
decreases-loop-behind l = l.behind
