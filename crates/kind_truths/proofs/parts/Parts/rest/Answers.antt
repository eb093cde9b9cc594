use Rattle.std.proofs.Common.{rules, ◌≡◌, subst}
use Rattle.dom_core.specs.Ends.{Ends}
use Rattle.dom_cells.specs.Box.{cell_of}
use Rattle.kind_truths.proofs.PlanLaws.{quiet_plan}
use Rattle.kind_truths.proofs.parts.Parts.rest.Goals as goal

pub returns-then-lo-hi : goal.returns-then-lo-hi
returns-then-lo-hi c =
    let same : c.args.output.lo ≡ c.args.output.hi = search rules in
    quiet_plan c.args.self.now (cell_of c.args.cells.now.state) c.requires.open (subst (λ (e : Ends). e.lo ≡ e.hi) c.requires.output same)
