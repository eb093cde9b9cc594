use Rattle.std.proofs.Common.{◌∙◌, ap, ◌<◌}
use Rattle.dom_core.specs.Ends.{Ends}
use Rattle.dom_cells.specs.Cell.{IsSane}
use Rattle.kind_law.specs.Function.{have_none}
use Rattle.kind_law.specs.Laws.{hulls}
use Rattle.kind_law.proofs.ArgumentLaws.{each_new_arg}
use Rattle.kind_truths.specs.Connective.{connective_inputs, connective_range}
use Rattle.kind_bool.proofs.connective.ConnectiveKind.refutes_in.Goals as goal

pub truths-truth-requires-clause-below : goal.truths-truth-requires-clause-below
truths-truth-requires-clause-below g c =
    (each_new_arg (λ u. u.0 < g.R.Region.width c.args.cells.now) (connective_inputs c.args.self.now) c.args.self.now.output c.requires.below).0

pub truths-truth-requires-clause-ready : goal.truths-truth-requires-clause-ready
truths-truth-requires-clause-ready g c =
    (each_new_arg (λ u. IsSane (g.R.Region.cells c.args.cells.now u.0)) (connective_inputs c.args.self.now) c.args.self.now.output c.requires.sane).0

pub returns : goal.returns
returns g c =
    c.are_apart.ensures ∙ ap (λ (e : Ends). have_none e c.output_span-output.result) c.truths-truth.ensures.range
    ∙ ap (have_none (connective_range c.args.self.now (hulls (g.R.Region.cells c.args.cells.now)))) c.output_span-output.ensures
