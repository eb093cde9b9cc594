use Rattle.std.proofs.Common.{◌≡◌, ◌∙◌, ap, ◌<◌, length}
use Rattle.dom_core.specs.declared.arg.Arg.TheVariants.{Var}
use Rattle.dom_cells.specs.Box.{cell_of}
use Rattle.kind_law.specs.Function.{have_none}
use Rattle.kind_law.proofs.ArgumentLaws.{each_new_arg}
use Rattle.kind_law.proofs.BoundLaws.{kept_sane}
use Rattle.kind_sum.specs.SumRelation.{sum_vars}
use Rattle.kind_reified.proofs.OpenLaws.{output_answer}
use Rattle.kind_reified.proofs.output_probe.OutputProbeProbe.is_refuted_within.Goals as goal

pub interval-requires-clause-ready : goal.interval-requires-clause-ready
interval-requires-clause-ready c =
    let below : c.args.self.now.output.0 < length c.args.cells.now.state.starts =
    (each_new_arg (λ u. u.0 < length c.args.cells.now.state.starts) (sum_vars c.args.self.now.linear.now) (Var c.args.self.now.output) c.requires.bound.below).1 in
    kept_sane (cell_of c.args.cells.now.state) c.args.literal c.args.self.now.output.0 c.requires.bound.value c.requires.bound.end_is c.requires.bound.has c.requires.bound.holds
    (c.requires.sound.cells c.args.self.now.output.0 below)

pub returns : goal.returns
returns c =
    c.are_apart.ensures ∙ ap (have_none c.args.self.now.truth) c.interval.ensures
    ∙ output_answer (record { sum = c.args.self.now.linear.now; output = Var c.args.self.now.output }) c.args.self.now.truth (cell_of c.args.cells.now.state) c.args.literal c.requires.answers
