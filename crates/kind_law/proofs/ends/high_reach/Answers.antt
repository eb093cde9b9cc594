use Rattle.std.proofs.Common.{rules, ◌≡◌, ◌∙◌, ap, ◌≤ℤ◌, ◌+ℤ◌, pos, arith, FitsSigned, w64}
use Rattle.std.proofs.lemmas.Int.{ints}
use Rattle.dom_cells.specs.Box.{cell_of, start_at}
use Rattle.dom_cells.specs.Cell.{hi_of}
use Rattle.kind_law.proofs.EndLaws.{start_high, high_reach_whole}
use Rattle.kind_law.proofs.ends.high_reach.Goals as goal

pub distance-requires : goal.distance-requires
distance-requires c =
    let end_is : c.hi-hi.result ≡ hi_of (cell_of c.args.cells.now.state c.args.var.0) = c.hi-hi.ensures.hi in
    let start_is : c.hi.result ≡ hi_of (start_at c.args.cells.now.state.starts c.args.var.0) = c.hi.ensures ∙ ap hi_of c.start.ensures.start in
    let end_fits : FitsSigned w64 c.hi-hi.result = search rules in
    let start_fits : FitsSigned w64 c.hi.result = search rules in
    let order : hi_of (cell_of c.args.cells.now.state c.args.var.0) ≤ℤ hi_of (start_at c.args.cells.now.state.starts c.args.var.0) = start_high c.args.cells.now.state c.args.var.0 c.hi-hi.ensures.sound c.requires.var in
    omega (arith, ints)

pub returns-in-None : goal.returns-in-None
returns-in-None c =
    let end_is : c.hi-hi.result ≡ hi_of (cell_of c.args.cells.now.state c.args.var.0) = c.hi-hi.ensures.hi in
    let start_is : c.hi.result ≡ hi_of (start_at c.args.cells.now.state.starts c.args.var.0) = c.hi.ensures ∙ ap hi_of c.start.ensures.start in
    let end_fits : FitsSigned w64 c.hi-hi.result = search rules in
    let start_fits : FitsSigned w64 c.hi.result = search rules in
    let gap : (hi_of (cell_of c.args.cells.now.state c.args.var.0) +ℤ pos c.distance.result) ≡ hi_of (start_at c.args.cells.now.state.starts c.args.var.0) = omega (arith, ints, c.distance.ensures) in
    high_reach_whole c.args.cells.now.state c.args.implied c.args.var.0 (pos c.distance.result) c.hi-hi.ensures.sound c.requires.var c.in-None.ensures gap
