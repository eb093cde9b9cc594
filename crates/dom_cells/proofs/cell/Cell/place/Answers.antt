use Rattle.std.proofs.Common.{w64}
use Rattle.std.proofs.lemmas.Int.{to_z-of_z}
use Rattle.dom_core.specs.Rises.{IsRank}
use Rattle.dom_cells.proofs.CellLaws.{place_in_cell}
use Rattle.dom_cells.proofs.cell.Cell.place.Goals as goal

pub returns : goal.returns
returns c =
    let rank : IsRank c.in-Values.domain c.args.value c.rank.result = rw (to_z-of_z w64 c.args.value c.ranges.value) at c.rank.ensures.rank in
    place_in_cell c.args.self.now c.in-Values.domain c.args.value c.rank.result c.in-Values.is c.requires.sound c.requires.has rank
