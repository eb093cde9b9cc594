use Rattle.std.proofs.Common.{rules, FitsSigned, w64}
use Rattle.std.proofs.lemmas.Int.{to_z-of_z}
use Rattle.dom_cells.proofs.StackLaws.{IsOpen, open_at}
use Rattle.dom_cells.proofs.StackLaws.{ceiling-cell}
use Rattle.dom_cells.proofs.cells.Cells.ceiling.Goals as goal

pub ceiling-requires-clause-sound : goal.ceiling-requires-clause-sound
ceiling-requires-clause-sound c =
    let shown : IsOpen c.args.self.now.state c.args.var.0 c.index-cell.result.now = open_at c.self.inside c.args.self.now c.args.var.0 c.index-cell.result.now c.self.invariant c.self.view_is c.requires.var c.index-cell.ensures in
    shown.shows.sound

pub ceiling-requires-clause-low : goal.ceiling-requires-clause-low
ceiling-requires-clause-low c =
    let shown : IsOpen c.args.self.now.state c.args.var.0 c.index-cell.result.now = open_at c.self.inside c.args.self.now c.args.var.0 c.index-cell.result.now c.self.invariant c.self.view_is c.requires.var c.index-cell.ensures in
    rw (to_z-of_z w64 c.args.value c.ranges.value, ← shown.shows.lo) c.requires.low

pub ceiling-requires-clause-high : goal.ceiling-requires-clause-high
ceiling-requires-clause-high c =
    let shown : IsOpen c.args.self.now.state c.args.var.0 c.index-cell.result.now = open_at c.self.inside c.args.self.now c.args.var.0 c.index-cell.result.now c.self.invariant c.self.view_is c.requires.var c.index-cell.ensures in
    rw (to_z-of_z w64 c.args.value c.ranges.value, ← shown.shows.hi) c.requires.high

pub returns : goal.returns
returns c =
    let shown : IsOpen c.args.self.now.state c.args.var.0 c.index-cell.result.now = open_at c.self.inside c.args.self.now c.args.var.0 c.index-cell.result.now c.self.invariant c.self.view_is c.requires.var c.index-cell.ensures in
    let fits : FitsSigned w64 c.ceiling.result = search rules in
    rw (to_z-of_z w64 c.ceiling.result fits) (ceiling-cell c.args.self.now.state c.args.var.0 c.index-cell.result.now c.args.value c.ceiling.result shown (rw (to_z-of_z w64 c.args.value c.ranges.value) at c.ceiling.ensures))
