use Rattle.dom_cells.specs.Box.{cell_of}
use Rattle.kind_law.specs.Next.{size_of, steps_refuted}
use Rattle.kind_law.proofs.NextLaws.{Found}
use Rattle.kind_law.proofs.next.deepest.Given as goal

abbrev pub invariant-loop-gap : goal.invariant-loop-gap
invariant-loop-gap g l =
    Found (steps_refuted (g.P.Probe.refuted l.probe) (cell_of l.cells.state) l.fn.var l.fn.side) (size_of (cell_of l.cells.state l.fn.var.0)) l.known l.gap

abbrev pub decreases-loop-gap : goal.decreases-loop-gap
decreases-loop-gap g l = l.gap
