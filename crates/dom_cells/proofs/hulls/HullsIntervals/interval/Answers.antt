use Rattle.std.proofs.Common.{rules, ◌≡◌, ◌≤ℤ◌, arith, FitsSigned, w64}
use Rattle.std.proofs.lemmas.Int.{ints}
use Rattle.dom_cells.specs.Cell.{lo_of, hi_of}
use Rattle.dom_cells.proofs.BoxLaws.{sane-ends}
use Rattle.dom_cells.proofs.hulls.HullsIntervals.interval.Goals as goal

pub new-requires : goal.new-requires
new-requires g c =
    let ends : lo_of (g.R.Region.cells c.args.self.now.0.now c.args.var.0) ≤ℤ hi_of (g.R.Region.cells c.args.self.now.0.now c.args.var.0) =
    sane-ends (g.R.Region.cells c.args.self.now.0.now c.args.var.0) c.requires.ready in
    let low : c.lo-lo.result ≡ lo_of (g.R.Region.cells c.args.self.now.0.now c.args.var.0) = c.lo-lo.ensures in
    let high : c.hi-hi.result ≡ hi_of (g.R.Region.cells c.args.self.now.0.now c.args.var.0) = c.hi-hi.ensures in
    let low_fits : FitsSigned w64 c.lo-lo.result = search rules in
    let high_fits : FitsSigned w64 c.hi-hi.result = search rules in
    omega (arith, ints)
