use Rattle.std.proofs.Common.{rules, ◌≤ℤ◌, arith, FitsSigned, w64}
use Rattle.std.proofs.lemmas.Int.{ints, to_z-of_z}
use Rattle.dom_cells.specs.Cell.{lo_of, hi_of}
use Rattle.dom_cells.specs.Box.{cell_of, kept}
use Rattle.dom_cells.proofs.KeptLaws.{kept-lo_above, kept-hi_below, kept-ceiling}
use Rattle.dom_cells.proofs.kept.KeptRegion.ceiling.Goals as goal

pub ceiling-requires-clause-low : goal.ceiling-requires-clause-low
ceiling-requires-clause-low c =
    let above : lo_of (cell_of c.args.self.now.cells.now.state c.args.var.0) ≤ℤ lo_of (kept (cell_of c.args.self.now.cells.now.state) c.args.self.now.literal c.args.var.0) =
    kept-lo_above c.args.var.0 (cell_of c.args.self.now.cells.now.state c.args.var.0) c.args.self.now.literal c.args.self.now.end (c.width-width.ensures.sound.cells c.args.var.0 c.requires.below) c.requires.sane in
    omega (arith, ints, c.requires.low)

pub ceiling-requires-clause-high : goal.ceiling-requires-clause-high
ceiling-requires-clause-high c =
    let below : hi_of (kept (cell_of c.args.self.now.cells.now.state) c.args.self.now.literal c.args.var.0) ≤ℤ hi_of (cell_of c.args.self.now.cells.now.state c.args.var.0) =
    kept-hi_below c.args.var.0 (cell_of c.args.self.now.cells.now.state c.args.var.0) c.args.self.now.literal c.args.self.now.end (c.width-width.ensures.sound.cells c.args.var.0 c.requires.below) c.requires.sane in
    omega (arith, ints, c.requires.high)

pub returns : goal.returns
returns c =
    let fits : FitsSigned w64 c.ceiling.result = search rules in
    rw (to_z-of_z w64 c.ceiling.result fits)
    (kept-ceiling c.args.var.0 (cell_of c.args.self.now.cells.now.state c.args.var.0) c.args.self.now.literal c.args.self.now.end c.args.value c.ceiling.result c.requires.sane c.requires.low c.requires.high
    (rw (to_z-of_z w64 c.args.value c.ranges.value) at c.ceiling.ensures))
