use Rattle.std.proofs.Common.{◌≡◌, ◌∙◌, sym, w64}
use Rattle.std.proofs.lemmas.Int.{to_z-of_z}
use Rattle.dom_cells.specs.Flagged.{holds_in}
use Rattle.dom_cells.proofs.StackLaws.{IsOpen, open_at}
use Rattle.dom_cells.proofs.cells.Cells.has.Goals as goal

pub has-requires : goal.has-requires
has-requires c =
    let shown : IsOpen c.args.self.now.state c.args.var.0 c.index-cell.result.now = open_at c.self.inside c.args.self.now c.args.var.0 c.index-cell.result.now c.self.invariant c.self.view_is c.requires c.index-cell.ensures in
    shown.shows.sound

pub returns : goal.returns
returns c =
    let shown : IsOpen c.args.self.now.state c.args.var.0 c.index-cell.result.now = open_at c.self.inside c.args.self.now c.args.var.0 c.index-cell.result.now c.self.invariant c.self.view_is c.requires c.index-cell.ensures in
    let test : c.has.result ≡ holds_in c.index-cell.result.now c.args.value = rw (to_z-of_z w64 c.args.value c.ranges.value) at c.has.ensures in
    test ∙ sym (shown.shows.has c.args.value)
