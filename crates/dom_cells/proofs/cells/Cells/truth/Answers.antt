use Rattle.dom_cells.proofs.StackLaws.{IsOpen, open_at, truth-cell}
use Rattle.dom_cells.proofs.cells.Cells.truth.Goals as goal

pub truth-requires : goal.truth-requires
truth-requires c =
    let shown : IsOpen c.args.self.now.state c.args.literal.var.0 c.index-cell.result.now = open_at c.self.inside c.args.self.now c.args.literal.var.0 c.index-cell.result.now c.self.invariant c.self.view_is c.requires c.index-cell.ensures in
    shown.shows.sound

pub returns : goal.returns
returns c =
    let shown : IsOpen c.args.self.now.state c.args.literal.var.0 c.index-cell.result.now = open_at c.self.inside c.args.self.now c.args.literal.var.0 c.index-cell.result.now c.self.invariant c.self.view_is c.requires c.index-cell.ensures in
    truth-cell c.args.self.now.state c.args.literal.var.0 c.index-cell.result.now c.args.literal c.truth.result shown c.truth.ensures
