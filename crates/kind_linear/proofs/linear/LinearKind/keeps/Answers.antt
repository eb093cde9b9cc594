use Rattle.std.proofs.Common.{◌∙◌, ap}
use Rattle.kind_sum.specs.SumRelation.{SumRelation, sum_kept}
use Rattle.kind_linear.proofs.linear.LinearKind.keeps.Goals as goal

pub returns : goal.returns
returns c = c.keeps.ensures ∙ ap (λ (k : SumRelation). sum_kept k c.args.view.now) c.self.view_is
