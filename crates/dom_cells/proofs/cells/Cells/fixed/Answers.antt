use Rattle.std.proofs.Common.{◌≡◌, ap, ◌≤ℤ◌, arith, w64, of_z}
use Rattle.std.proofs.lemmas.Int.{ints}
use Rattle.dom_cells.specs.Cell.{lo_of, hi_of}
use Rattle.dom_cells.specs.Box.{cell_of}
use Rattle.dom_cells.proofs.BoxLaws.{sane-ends}
use Rattle.dom_cells.proofs.cells.Cells.fixed.Goals as goal

pub returns-else-lo-hi : goal.returns-else-lo-hi
returns-else-lo-hi c =
    let ends : lo_of (cell_of c.args.self.now.state c.args.var.0) ≤ℤ hi_of (cell_of c.args.self.now.state c.args.var.0) =
    sane-ends (cell_of c.args.self.now.state c.args.var.0) (c.lo-lo.ensures.sound.cells c.args.var.0 c.requires) in
    let apart : c.lo-lo.result ≡ c.hi.result → ⊥ = λ e. c.if-lo-hi.false (ap (of_z w64) e) in
    let low : c.lo-lo.result ≡ lo_of (cell_of c.args.self.now.state c.args.var.0) = c.lo-lo.ensures.lo in
    let high : c.hi.result ≡ hi_of (cell_of c.args.self.now.state c.args.var.0) = c.hi.ensures.hi in
    omega (arith, ints)
