use Rattle.std.proofs.Common.{take, length}
use Rattle.dom_cells.specs.Box.{cell_of}
use Rattle.kind_law.specs.Laws.{Each}
use Rattle.kind_law.specs.Visit.{AreEnds}
use Rattle.kind_parts.specs.Told.{IsTold}
use Rattle.kind_parts.specs.Vars.{variables_of}
use Rattle.kind_parts.proofs.walk.write_ends_in_turn.Given as goal

abbrev pub invariant-loop-at : goal.invariant-loop-at
invariant-loop-at g l = record {
  ends : AreEnds (g.P.Places.refuted l.fn.places) (variables_of (take l.at (g.P.Places.args l.fn.places))) (cell_of l.fn.cells.state) (length l.fn.cells.state.starts) l.ends;
  told : Each (IsTold (g.P.Places.refuted l.fn.places) (cell_of l.fn.cells.state) l.ends) (variables_of (take l.at (g.P.Places.args l.fn.places)));
}
