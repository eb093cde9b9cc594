use Rattle.std.proofs.Common.{rules, arith, FitsSigned, w64}
use Rattle.std.proofs.lemmas.Int.{ints, to_z-of_z}
use Rattle.dom_cells.proofs.CellLaws.{floor_in_cell}
use Rattle.dom_cells.proofs.cell.Cell.floor.Goals as goal

pub floor_in-requires-clause-room : goal.floor_in-requires-clause-room
floor_in-requires-clause-room c =
    let fits : FitsSigned w64 c.args.self.now.hi = search rules in
    omega (arith, ints)

pub returns-in-Values : goal.returns-in-Values
returns-in-Values c =
    let fits : FitsSigned w64 c.floor_in.result = search rules in
    rw (to_z-of_z w64 c.floor_in.result fits)
    (floor_in_cell c.args.self.now c.in-Values.domain c.args.value c.floor_in.result c.in-Values.is c.requires.sound c.requires.low c.requires.high
    (rw (to_z-of_z w64 c.args.value c.ranges.value) at c.floor_in.ensures))
