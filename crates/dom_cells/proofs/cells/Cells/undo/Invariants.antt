use Rattle.std.proofs.Common.{◌≤◌, length}
use Rattle.dom_cells.specs.Box.{Undone}
use Rattle.dom_cells.proofs.cells.Cells.undo.Given as goal

abbrev pub invariant-loop-mark : goal.invariant-loop-mark
invariant-loop-mark l = record {
  done : Undone l.fn.self (length l.self.state.literals) l.self;
  within : l.fn.mark.changes ≤ length l.self.state.literals;
}

abbrev pub decreases-loop-mark : goal.decreases-loop-mark
decreases-loop-mark l = length l.self.state.literals
