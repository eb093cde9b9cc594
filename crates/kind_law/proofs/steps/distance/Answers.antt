use Rattle.std.proofs.Common.{rules, ◌≡◌, ◌+ℤ◌, pos, arith, FitsSigned, w64}
use Rattle.std.proofs.lemmas.Int.{ints}
use Rattle.dom_cells.specs.Cell.{lo_of, hi_of}
use Rattle.dom_cells.specs.Box.{cell_of}
use Rattle.kind_law.specs.Next.{size_of}
use Rattle.kind_law.proofs.BoundLaws.{size_is}
use Rattle.kind_law.proofs.steps.distance.Goals as goal

pub overflow_cast-result-3 : goal.overflow_cast-result-3
overflow_cast-result-3 c =
    let lo_is : c.lo-lo.result ≡ lo_of (cell_of c.args.cells.now.state c.args.var.0) = c.lo-lo.ensures.lo in
    let hi_is : c.hi-hi.result ≡ hi_of (cell_of c.args.cells.now.state c.args.var.0) = c.hi-hi.ensures.hi in
    let lo_fits : FitsSigned w64 c.lo-lo.result = search rules in
    let hi_fits : FitsSigned w64 c.hi-hi.result = search rules in
    let size : (lo_of (cell_of c.args.cells.now.state c.args.var.0) +ℤ pos (size_of (cell_of c.args.cells.now.state c.args.var.0))) ≡ hi_of (cell_of c.args.cells.now.state c.args.var.0) = size_is (cell_of c.args.cells.now.state c.args.var.0) (c.hi-hi.ensures.sound.cells c.args.var.0 c.requires) in
    omega (arith, ints)

pub returns-clause-size : goal.returns-clause-size
returns-clause-size c =
    let lo_is : c.lo-lo.result ≡ lo_of (cell_of c.args.cells.now.state c.args.var.0) = c.lo-lo.ensures.lo in
    let hi_is : c.hi-hi.result ≡ hi_of (cell_of c.args.cells.now.state c.args.var.0) = c.hi-hi.ensures.hi in
    let lo_fits : FitsSigned w64 c.lo-lo.result = search rules in
    let hi_fits : FitsSigned w64 c.hi-hi.result = search rules in
    let size : (lo_of (cell_of c.args.cells.now.state c.args.var.0) +ℤ pos (size_of (cell_of c.args.cells.now.state c.args.var.0))) ≡ hi_of (cell_of c.args.cells.now.state c.args.var.0) = size_is (cell_of c.args.cells.now.state c.args.var.0) (c.hi-hi.ensures.sound.cells c.args.var.0 c.requires) in
    omega (arith, ints)
