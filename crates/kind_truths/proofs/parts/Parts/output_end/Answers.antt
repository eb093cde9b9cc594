use Rattle.std.proofs.Common.{◌∙◌, ap, sym, subst, length}
use Rattle.dom_cells.specs.Box.{cell_of}
use Rattle.dom_core.specs.Ends.{Ends}
use Rattle.kind_truths.specs.Connective.{Connective}
use Rattle.kind_truths.specs.Plan.{IsToldBy}
use Rattle.kind_truths.specs.Connective.{connective_refuted}
use Rattle.kind_truths.specs.declared.probe.Test.TheVariants.{Apart}
use Rattle.kind_truths.proofs.PlanLaws.{output_told, output_reads, output_below}
use Rattle.kind_truths.proofs.parts.Parts.output_end.Goals as goal

pub end_by-requires-clause-var : goal.end_by-requires-clause-var
end_by-requires-clause-var c =
    output_reads c.args.self.now (length c.args.cells.now.state.starts) c.in-Var.var (sym (ap (λ (k : Connective). k.output) c.self.view_is) ∙ c.in-Var.is) c.requires.below

pub end_by-requires-clause-answers : goal.end_by-requires-clause-answers
end_by-requires-clause-answers c = record {
  below = output_below c.args.self.now (length c.args.cells.now.state.starts) c.in-Var.var (sym (ap (λ (k : Connective). k.output) c.self.view_is) ∙ c.in-Var.is) c.requires.below;
  told = subst (λ (t : Ends). IsToldBy (connective_refuted c.args.self.now) (cell_of c.args.cells.now.state) (Apart t) c.in-Var.var) (sym c.truths-other.ensures.range)
      (output_told c.args.self.now (cell_of c.args.cells.now.state) c.requires.single c.in-Var.var (sym (ap (λ (k : Connective). k.output) c.self.view_is) ∙ c.in-Var.is));
}
