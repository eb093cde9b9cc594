use Rattle.std.proofs.Common.{take}
use Rattle.dom_cells.specs.Box.{cell_of}
use Rattle.kind_law.specs.Laws.{Each}
use Rattle.kind_law.specs.Next.{HasNoEnd}
use Rattle.kind_parts.specs.Vars.{variables_of}
use Rattle.kind_parts.proofs.walk.first_in_turn.Given as goal

abbrev pub invariant-loop-at : goal.invariant-loop-at
invariant-loop-at g l = Each (HasNoEnd (g.P.Places.refuted l.fn.places) (cell_of l.fn.cells.state)) (variables_of (take l.at (g.P.Places.args l.fn.places)))
