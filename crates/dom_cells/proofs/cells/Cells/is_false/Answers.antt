use Rattle.dom_cells.proofs.StackLaws.{IsOpen, open_at}
use Rattle.dom_cells.proofs.StackLaws.{false-test}
use Rattle.dom_cells.proofs.cells.Cells.is_false.Goals as goal

pub is_failed-requires : goal.is_failed-requires
is_failed-requires c =
    let shown : IsOpen c.args.self.now.state c.args.literal.var.0 c.index-cell.result.now = open_at c.self.inside c.args.self.now c.args.literal.var.0 c.index-cell.result.now c.self.invariant c.self.view_is c.requires c.index-cell.ensures in
    shown.shows.sound

pub returns : goal.returns
returns c =
    let shown : IsOpen c.args.self.now.state c.args.literal.var.0 c.index-cell.result.now = open_at c.self.inside c.args.self.now c.args.literal.var.0 c.index-cell.result.now c.self.invariant c.self.view_is c.requires c.index-cell.ensures in
    false-test c.args.self.now.state c.args.literal.var.0 c.index-cell.result.now c.args.literal c.is_failed.result shown c.is_failed.ensures
