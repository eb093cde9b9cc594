use Rattle.std.proofs.Common.{rules, ◌<◌, length}
use Rattle.kind_truths.proofs.PlaceLaws.{none, place_has}
use Rattle.kind_truths.proofs.operands.first_left.Goals as goal

pub is_refuted_over-requires-clause-below : goal.is_refuted_over-requires-clause-below
is_refuted_over-requires-clause-below g c =
    let lt : c.loop-at.at < length c.args.operands.now = search rules in
    place_has (λ u. u.0 < g.I.Intervals.width c.args.intervals.now) c.args.operands.now c.loop-at.at none lt c.requires.below

pub is_refuted_over-requires-clause-ready : goal.is_refuted_over-requires-clause-ready
is_refuted_over-requires-clause-ready g c =
    let lt : c.loop-at.at < length c.args.operands.now = search rules in
    place_has (λ u. g.I.Intervals.ready c.args.intervals.now u.0) c.args.operands.now c.loop-at.at none lt c.requires.ready
