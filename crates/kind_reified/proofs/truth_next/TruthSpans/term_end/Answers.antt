use Rattle.std.proofs.Common.{◌∙◌, sym}
use Rattle.kind_reified.proofs.OpenLaws.{idle_none}
use Rattle.kind_reified.proofs.truth_next.TruthSpans.term_end.Goals as goal

pub returns-then-is_idle : goal.returns-then-is_idle
returns-then-is_idle c =
    idle_none (record { sum = c.args.self.now.linear.now; output = c.args.self.now.output }) c.args.self.now.total c.args.self.now.span c.args.cells.now.state c.requires c.width-width.ensures.sound
    (sym c.is_idle.ensures ∙ c.if-is_idle.true)
