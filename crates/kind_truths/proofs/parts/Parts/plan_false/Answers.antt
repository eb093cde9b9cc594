use Rattle.std.proofs.Common.{◌∙◌, ap, sym}
use Rattle.dom_cells.specs.Box.{cell_of}
use Rattle.kind_truths.specs.Connective.{Connective}
use Rattle.kind_truths.proofs.PlanLaws.{every_plan_of}
use Rattle.kind_truths.proofs.parts.Parts.plan_false.Goals as goal

pub returns : goal.returns
returns c =
    every_plan_of c.args.self.now (cell_of c.args.cells.now.state) c.self.inside.operands.now (ap (λ (k : Connective). k.operands) c.self.view_is) c.requires.single c.requires.asks
    (sym c.some_certain.ensures.some ∙ c.if-some_certain.false)
