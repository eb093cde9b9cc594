use Rattle.std.proofs.Common.{rules, ◌∙◌, sym, FitsSigned, w64}
use Rattle.std.proofs.lemmas.Int.{to_z-of_z}
use Rattle.dom_cells.proofs.StackLaws.{IsOpen, open_at, view-box}
use Rattle.dom_cells.proofs.cells.Cells.lo.Goals as goal

pub returns-clause-lo : goal.returns-clause-lo
returns-clause-lo c =
    let fits : FitsSigned w64 c.index-cell.result.now.lo = search rules in
    let shown : IsOpen c.args.self.now.state c.args.var.0 c.index-cell.result.now = open_at c.self.inside c.args.self.now c.args.var.0 c.index-cell.result.now c.self.invariant c.self.view_is c.requires c.index-cell.ensures in
    to_z-of_z w64 c.index-cell.result.now.lo fits ∙ sym shown.shows.lo

pub returns-clause-sound : goal.returns-clause-sound
returns-clause-sound c = view-box c.self.inside c.args.self.now c.self.invariant c.self.view_is
