use Rattle.std.proofs.Common.{rules, ◌≤ℤ◌, ◌<ℤ◌, arith, FitsSigned, w64}
use Rattle.std.proofs.lemmas.Int.{ints, to_z-of_z}
use Rattle.dom_cells.specs.Cell.{lo_of, hi_of}
use Rattle.kind_parts.proofs.CellLaws.{meets_from_least, meets_not_below, meets_from_next}
use Rattle.kind_parts.proofs.sets.meets_range.Goals as goal

pub returns-then-lo-least : goal.returns-then-lo-least
returns-then-lo-least g c =
    let fits : FitsSigned w64 c.lo-least.result = search rules in
    let low : c.args.lo ≤ℤ lo_of (g.R.Region.cells c.args.cells.now c.args.var.0) = rw (← c.lo-least.ensures) (omega (arith, ints)) in
    rw (to_z-of_z w64 c.lo-least.result fits, to_z-of_z w64 c.args.hi c.ranges.hi, c.lo-least.ensures)
    (meets_from_least c.args.lo c.args.hi (g.R.Region.cells c.args.cells.now c.args.var.0) c.requires.sane low)

pub returns-then-greatest-lo : goal.returns-then-greatest-lo
returns-then-greatest-lo g c =
    let fits : FitsSigned w64 c.hi-greatest.result = search rules in
    let below : hi_of (g.R.Region.cells c.args.cells.now c.args.var.0) <ℤ c.args.lo = rw (← c.hi-greatest.ensures) (omega (arith, ints)) in
    meets_not_below c.args.lo c.args.hi (g.R.Region.cells c.args.cells.now c.args.var.0) c.requires.sane below

pub returns : goal.returns
returns g c =
    let fits : FitsSigned w64 c.ceiling-next.result = search rules in
    rw (to_z-of_z w64 c.ceiling-next.result fits, to_z-of_z w64 c.args.hi c.ranges.hi)
    (meets_from_next c.args.lo c.args.hi (g.R.Region.cells c.args.cells.now c.args.var.0) c.ceiling-next.result
    (rw (to_z-of_z w64 c.args.lo c.ranges.lo) at c.ceiling-next.ensures))
