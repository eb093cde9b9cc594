use Rattle.std.proofs.Common.{rules, ◌≡◌, ◌∙◌, ap, unsigned_abs, FitsSigned, w64}
use Rattle.std.proofs.lemmas.Int.{to_z-of_z}
use Rattle.dom_cells.specs.Box.{cell_of}
use Rattle.kind_law.proofs.BoundLaws.{box-sane}
use Rattle.kind_sum.specs.SumRelation.{sum_vars}
use Rattle.kind_sum.proofs.SlackLaws.{known_size}
use Rattle.kind_sum.proofs.EndLaws.{order_kept}
use Rattle.kind_sum.proofs.slack.Slack.reach.Goals as goal

pub reach-requires-clause-total : goal.reach-requires-clause-total
reach-requires-clause-total c = known_size c.args.self.now.linear.now c.args.self.now.coef c.args.self.now.total (cell_of c.args.cells.now.state) c.args.var c.requires.slack

pub reach-requires-clause-order : goal.reach-requires-clause-order
reach-requires-clause-order c =
    let fits : FitsSigned w64 c.args.self.now.coef = search rules in
    let size : c.unsigned_abs.result ≡ unsigned_abs c.args.self.now.coef = c.unsigned_abs.ensures.value ∙ ap unsigned_abs (to_z-of_z w64 c.args.self.now.coef fits) in
    rw (size, c.distance.ensures.size)
    (order_kept c.args.self.now.linear.now c.args.self.now.coef c.args.self.now.total (cell_of c.args.cells.now.state) c.args.var c.requires.slack
    (c.distance.ensures.sound.cells c.args.var.0 c.requires.var) c.args.rises
    (box-sane c.args.cells.now.state (sum_vars c.args.self.now.linear.now) c.distance.ensures.sound c.requires.below))
