use Rattle.std.proofs.Common.{◌+◌, ap, sym, ◌∙◌}
use Rattle.kind_truths.proofs.PlanLaws.{arguments-length}
use Rattle.kind_truths.proofs.turns.TurnsPlaces.len.Goals as goal

pub returns : goal.returns
returns c = ap (λ n. n + 1) c.count.ensures.count ∙ sym (arguments-length c.args.self.now.parts.now.operands c.args.self.now.parts.now.output)
