use Rattle.std.proofs.Common.{take, length}
use Rattle.dom_cells.specs.Box.{cell_of}
use Rattle.kind_law.specs.Visit.{AreEnds}
use Rattle.kind_law.proofs.visit.write_ends.Given as goal

abbrev pub invariant-loop-var : goal.invariant-loop-var
invariant-loop-var g l = AreEnds (g.K.Kind.refuted l.fn.kind) (take l.var-index (g.K.Kind.vars l.fn.kind)) (cell_of l.fn.cells.state) (length l.fn.cells.state.starts) l.ends
