use Rattle.std.proofs.Common.{rules, arith, FitsSigned, w64}
use Rattle.std.proofs.lemmas.Int.{ints, to_z-of_z}
use Rattle.dom_cells.specs.Box.{cell_of}
use Rattle.dom_cells.specs.Cell.{has_of}
use Rattle.dom_cells.specs.Flagged.{IsCeiling}
use Rattle.kind_arith.proofs.SharedLaws.{range_before, least_of_range}
use Rattle.kind_arith.proofs.shared.least_between.Goals as goal

pub returns-then-hi-least : goal.returns-then-hi-least
returns-then-hi-least c =
    let fits : FitsSigned w64 c.in-Some.least = search rules in
    let f : IsCeiling (has_of (cell_of c.args.cells.now.state c.args.var.0)) c.args.lo c.in-Some.least = rw (to_z-of_z w64 c.args.lo c.ranges.lo) at c.in-Some.ensures in
    range_before c.args.lo c.args.hi (cell_of c.args.cells.now.state c.args.var.0) c.in-Some.least f (omega (arith, ints))

pub returns : goal.returns
returns c =
    let fits : FitsSigned w64 c.in-Some.least = search rules in
    let f : IsCeiling (has_of (cell_of c.args.cells.now.state c.args.var.0)) c.args.lo c.in-Some.least = rw (to_z-of_z w64 c.args.lo c.ranges.lo) at c.in-Some.ensures in
    rw (to_z-of_z w64 c.in-Some.least fits)
    (least_of_range c.args.lo c.args.hi (cell_of c.args.cells.now.state c.args.var.0) c.in-Some.least f (omega (arith, ints)))
