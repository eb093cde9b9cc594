use Rattle.std.proofs.Common.{rules, pos, int_le, FitsSigned, w64}
use Rattle.std.proofs.lemmas.Int.{to_z-of_z}
use Rattle.dom_cells.specs.Box.{cell_of}
use Rattle.kind_law.specs.Next.{size_of}
use Rattle.kind_law.specs.Steps.{IsStepReach}
use Rattle.kind_law.proofs.StepLaws.{reach_few}
use Rattle.kind_sum.specs.SumRelation.{sum_refuted}
use Rattle.kind_sum.specs.Reach.{is_pulled_off}
use Rattle.kind_sum.specs.Slack.{pull_of}
use Rattle.kind_sum.proofs.EndLaws.{rises_by}
use Rattle.kind_sum.proofs.slack.Slack.high_end.Goals as goal

pub end_by_steps-requires-clause-few : goal.end_by_steps-requires-clause-few
end_by_steps-requires-clause-few c =
    let fits : FitsSigned w64 c.args.self.now.coef = search rules in
    let reach : IsStepReach (is_pulled_off c.args.self.now.linear.now.relation c.args.self.now.total c.args.self.now.linear.now.bound (pull_of (int_le (pos 0) c.args.self.now.coef) c.args.self.now.coef (cell_of c.args.cells.now.state c.args.var.0))) (size_of (cell_of c.args.cells.now.state c.args.var.0)) c.reach-steps.result = rw (to_z-of_z w64 c.args.self.now.coef fits) at c.reach-steps.ensures.reach in
    reach_few (is_pulled_off c.args.self.now.linear.now.relation c.args.self.now.total c.args.self.now.linear.now.bound (pull_of (int_le (pos 0) c.args.self.now.coef) c.args.self.now.coef (cell_of c.args.cells.now.state c.args.var.0))) (cell_of c.args.cells.now.state c.args.var.0) c.reach-steps.result reach

pub returns : goal.returns
returns c =
    let fits : FitsSigned w64 c.args.self.now.coef = search rules in
    let reach : IsStepReach (is_pulled_off c.args.self.now.linear.now.relation c.args.self.now.total c.args.self.now.linear.now.bound (pull_of (int_le (pos 0) c.args.self.now.coef) c.args.self.now.coef (cell_of c.args.cells.now.state c.args.var.0))) (size_of (cell_of c.args.cells.now.state c.args.var.0)) c.reach-steps.result = rw (to_z-of_z w64 c.args.self.now.coef fits) at c.reach-steps.ensures.reach in
    c.end_by_steps.ensures (sum_refuted c.args.self.now.linear.now) (is_pulled_off c.args.self.now.linear.now.relation c.args.self.now.total c.args.self.now.linear.now.bound (pull_of (int_le (pos 0) c.args.self.now.coef) c.args.self.now.coef (cell_of c.args.cells.now.state c.args.var.0)))
    (rises_by c.args.self.now.linear.now c.args.self.now.coef c.args.self.now.total (cell_of c.args.cells.now.state) c.args.var c.requires.slack (c.reach-steps.ensures.sound.cells c.args.var.0 c.requires.var)) reach
