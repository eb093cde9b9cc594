use Rattle.std.proofs.Common.{rules, FitsSigned, w64}
use Rattle.std.proofs.lemmas.Int.{to_z-of_z}
use Rattle.dom_cells.proofs.CellLaws.{ceiling_in_cell}
use Rattle.dom_cells.proofs.cell.Cell.ceiling.Goals as goal

pub returns-in-Values : goal.returns-in-Values
returns-in-Values c =
    let fits : FitsSigned w64 c.ceiling_in.result = search rules in
    rw (to_z-of_z w64 c.ceiling_in.result fits)
    (ceiling_in_cell c.args.self.now c.in-Values.domain c.args.value c.ceiling_in.result c.in-Values.is c.requires.sound c.requires.low c.requires.high
    (rw (to_z-of_z w64 c.args.value c.ranges.value) at c.ceiling_in.ensures))
