use Rattle.std.proofs.Common.{◌≡◌}
use Rattle.dom_cells.proofs.tests.take_out.Given as goal

abbrev pub invariant-loop-value : goal.invariant-loop-value
invariant-loop-value l = l.cells.state.starts ≡ l.fn.cells.state.starts
