use Rattle.std.proofs.Common.{rules, arith, FitsSigned, w64}
use Rattle.std.proofs.lemmas.Int.{ints, to_z-of_z}
use Rattle.dom_cells.specs.Box.{cell_of}
use Rattle.dom_cells.specs.Cell.{has_of}
use Rattle.dom_cells.specs.Flagged.{IsFloor}
use Rattle.kind_arith.proofs.SharedLaws.{range_behind, greatest_of_range}
use Rattle.kind_arith.proofs.shared.greatest_between.Goals as goal

pub returns-then-greatest-lo : goal.returns-then-greatest-lo
returns-then-greatest-lo c =
    let fits : FitsSigned w64 c.in-Some.greatest = search rules in
    let f : IsFloor (has_of (cell_of c.args.cells.now.state c.args.var.0)) c.args.hi c.in-Some.greatest = rw (to_z-of_z w64 c.args.hi c.ranges.hi) at c.in-Some.ensures in
    range_behind c.args.lo c.args.hi (cell_of c.args.cells.now.state c.args.var.0) c.in-Some.greatest f (omega (arith, ints))

pub returns : goal.returns
returns c =
    let fits : FitsSigned w64 c.in-Some.greatest = search rules in
    let f : IsFloor (has_of (cell_of c.args.cells.now.state c.args.var.0)) c.args.hi c.in-Some.greatest = rw (to_z-of_z w64 c.args.hi c.ranges.hi) at c.in-Some.ensures in
    rw (to_z-of_z w64 c.in-Some.greatest fits)
    (greatest_of_range c.args.lo c.args.hi (cell_of c.args.cells.now.state c.args.var.0) c.in-Some.greatest f (omega (arith, ints)))
