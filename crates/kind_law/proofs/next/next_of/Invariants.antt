use Rattle.std.proofs.Common.{take}
use Rattle.dom_cells.specs.Box.{cell_of}
use Rattle.kind_law.specs.Laws.{Each}
use Rattle.kind_law.specs.Next.{HasNoEnd}
use Rattle.kind_law.proofs.next.next_of.Given as goal

abbrev pub invariant-loop-var : goal.invariant-loop-var
invariant-loop-var g l =
    Each (HasNoEnd (g.K.Kind.refuted l.fn.kind) (cell_of l.fn.cells.state)) (take l.var-index (g.K.Kind.vars l.fn.kind))
