use Rattle.dom_cells.proofs.StackLaws.{IsOpen, open_at}
use Rattle.dom_cells.proofs.StackLaws.{held-test}
use Rattle.dom_cells.proofs.cells.Cells.is_true.Goals as goal

pub is_held-requires : goal.is_held-requires
is_held-requires c =
    let shown : IsOpen c.args.self.now.state c.args.literal.var.0 c.index-cell.result.now = open_at c.self.inside c.args.self.now c.args.literal.var.0 c.index-cell.result.now c.self.invariant c.self.view_is c.requires c.index-cell.ensures in
    shown.shows.sound

pub returns : goal.returns
returns c =
    let shown : IsOpen c.args.self.now.state c.args.literal.var.0 c.index-cell.result.now = open_at c.self.inside c.args.self.now c.args.literal.var.0 c.index-cell.result.now c.self.invariant c.self.view_is c.requires c.index-cell.ensures in
    held-test c.args.self.now.state c.args.literal.var.0 c.index-cell.result.now c.args.literal c.is_held.result shown c.is_held.ensures
