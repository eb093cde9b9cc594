use Rattle.dom_cells.specs.Box.{cell_of}
use Rattle.kind_arith.proofs.SharedLaws.{HasNone}
use Rattle.kind_arith.proofs.shared.first_listed.Given as goal

abbrev pub invariant-loop-value : goal.invariant-loop-value
invariant-loop-value l = HasNone l.values (cell_of l.cells.state l.var.0) 0 l.value-index
