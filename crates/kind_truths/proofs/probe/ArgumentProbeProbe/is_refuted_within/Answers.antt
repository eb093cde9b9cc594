use Rattle.kind_law.proofs.BoundLaws.{kept_sane}
use Rattle.dom_cells.specs.Box.{cell_of}
use Rattle.kind_truths.proofs.probe.ArgumentProbeProbe.is_refuted_within.Goals as goal

pub interval-requires-clause-ready : goal.interval-requires-clause-ready
interval-requires-clause-ready c =
    kept_sane (cell_of c.args.cells.now.state) c.args.literal c.args.literal.var.0 c.requires.bound.value c.requires.bound.end_is c.requires.bound.has c.requires.bound.holds
    (c.requires.sound.cells c.args.literal.var.0 c.requires.answers.below)
