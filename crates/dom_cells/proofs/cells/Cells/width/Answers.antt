use Rattle.dom_cells.proofs.StackLaws.{view-box}
use Rattle.dom_cells.proofs.cells.Cells.width.Goals as goal

pub returns-clause-sound : goal.returns-clause-sound
returns-clause-sound c = view-box c.self.inside c.args.self.now c.self.invariant c.self.view_is
