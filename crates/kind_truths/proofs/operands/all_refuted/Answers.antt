use Rattle.kind_truths.proofs.PlaceLaws.{left_all}
use Rattle.kind_truths.proofs.operands.all_refuted.Goals as goal

pub returns : goal.returns
returns g c = left_all (g.I.Intervals.spans c.args.intervals.now) c.args.operands.now c.first_left.result c.first_left.ensures
