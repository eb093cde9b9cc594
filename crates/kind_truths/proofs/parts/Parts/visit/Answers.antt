use Rattle.std.proofs.Common.{subst, length}
use Rattle.dom_cells.specs.Box.{cell_of}
use Rattle.kind_truths.proofs.PlanLaws.{quiet_batch}
use Rattle.kind_truths.specs.Plan.{IsPlan}
use Rattle.kind_truths.proofs.parts.Parts.visit.Goals as goal

pub returns-in-Quiet-clause-visited : goal.returns-in-Quiet-clause-visited
returns-in-Quiet-clause-visited c =
    quiet_batch c.args.self.now (cell_of c.args.cells.now.state) (length c.args.cells.now.state.starts) c.clear.new.self c.clear.ensures
    (subst (IsPlan c.args.self.now (cell_of c.args.cells.now.state)) c.in-Quiet.is c.plan.ensures)
