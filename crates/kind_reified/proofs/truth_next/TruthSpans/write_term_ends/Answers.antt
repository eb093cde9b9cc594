use Rattle.std.proofs.Common.{◌∙◌, sym, length}
use Rattle.kind_law.proofs.ArgumentLaws.{each_new_arg}
use Rattle.kind_sum.specs.SumRelation.{sum_vars}
use Rattle.kind_reified.proofs.OpenLaws.{idle_ends}
use Rattle.kind_reified.proofs.truth_next.TruthSpans.write_term_ends.Goals as goal

pub returns-then-is_idle : goal.returns-then-is_idle
returns-then-is_idle c =
    idle_ends (record { sum = c.args.self.now.linear.now; output = c.args.self.now.output }) c.args.self.now.total c.args.self.now.span c.args.cells.now.state c.args.out.now c.requires.standing c.width-width.ensures.sound
    (sym c.is_idle.ensures ∙ c.if-is_idle.true) c.requires.empty
