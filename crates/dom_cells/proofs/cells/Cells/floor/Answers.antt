use Rattle.std.proofs.Common.{rules, FitsSigned, w64}
use Rattle.std.proofs.lemmas.Int.{to_z-of_z}
use Rattle.dom_cells.proofs.StackLaws.{IsOpen, open_at}
use Rattle.dom_cells.proofs.StackLaws.{floor-cell}
use Rattle.dom_cells.proofs.cells.Cells.floor.Goals as goal

pub floor-requires-clause-sound : goal.floor-requires-clause-sound
floor-requires-clause-sound c =
    let shown : IsOpen c.args.self.now.state c.args.var.0 c.index-cell.result.now = open_at c.self.inside c.args.self.now c.args.var.0 c.index-cell.result.now c.self.invariant c.self.view_is c.requires.var c.index-cell.ensures in
    shown.shows.sound

pub floor-requires-clause-low : goal.floor-requires-clause-low
floor-requires-clause-low c =
    let shown : IsOpen c.args.self.now.state c.args.var.0 c.index-cell.result.now = open_at c.self.inside c.args.self.now c.args.var.0 c.index-cell.result.now c.self.invariant c.self.view_is c.requires.var c.index-cell.ensures in
    rw (to_z-of_z w64 c.args.value c.ranges.value, ← shown.shows.lo) c.requires.low

pub floor-requires-clause-high : goal.floor-requires-clause-high
floor-requires-clause-high c =
    let shown : IsOpen c.args.self.now.state c.args.var.0 c.index-cell.result.now = open_at c.self.inside c.args.self.now c.args.var.0 c.index-cell.result.now c.self.invariant c.self.view_is c.requires.var c.index-cell.ensures in
    rw (to_z-of_z w64 c.args.value c.ranges.value, ← shown.shows.hi) c.requires.high

pub returns : goal.returns
returns c =
    let shown : IsOpen c.args.self.now.state c.args.var.0 c.index-cell.result.now = open_at c.self.inside c.args.self.now c.args.var.0 c.index-cell.result.now c.self.invariant c.self.view_is c.requires.var c.index-cell.ensures in
    let fits : FitsSigned w64 c.floor.result = search rules in
    rw (to_z-of_z w64 c.floor.result fits) (floor-cell c.args.self.now.state c.args.var.0 c.index-cell.result.now c.args.value c.floor.result shown (rw (to_z-of_z w64 c.args.value c.ranges.value) at c.floor.ensures))
