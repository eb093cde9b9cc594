use Rattle.std.proofs.Common.{rules, ◌≡◌, ◌∙◌, ap, ◌≤ℤ◌, arith, FitsSigned, w64}
use Rattle.std.proofs.lemmas.Int.{ints}
use Rattle.dom_cells.specs.Box.{cell_of, start_at}
use Rattle.dom_cells.specs.Cell.{lo_of}
use Rattle.kind_law.proofs.EndLaws.{start_low}
use Rattle.kind_law.proofs.ends.low_reach.Goals as goal

pub distance-requires : goal.distance-requires
distance-requires c =
    let end_is : c.lo-lo.result ≡ lo_of (cell_of c.args.cells.now.state c.args.var.0) = c.lo-lo.ensures.lo in
    let start_is : c.lo.result ≡ lo_of (start_at c.args.cells.now.state.starts c.args.var.0) = c.lo.ensures ∙ ap lo_of c.start.ensures.start in
    let end_fits : FitsSigned w64 c.lo-lo.result = search rules in
    let start_fits : FitsSigned w64 c.lo.result = search rules in
    let order : lo_of (start_at c.args.cells.now.state.starts c.args.var.0) ≤ℤ lo_of (cell_of c.args.cells.now.state c.args.var.0) = start_low c.args.cells.now.state c.args.var.0 c.lo-lo.ensures.sound c.requires.var in
    omega (arith, ints)
