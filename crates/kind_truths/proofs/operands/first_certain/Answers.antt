use Rattle.std.proofs.Common.{rules, ◌<◌, ◌≤◌, length, arith}
use Rattle.kind_truths.specs.Operand.{operand_certain}
use Rattle.kind_truths.proofs.PlaceLaws.{none, place_has, no_place}
use Rattle.kind_truths.proofs.operands.first_certain.Goals as goal

pub is_certain_over-requires-clause-below : goal.is_certain_over-requires-clause-below
is_certain_over-requires-clause-below g c =
    let lt : c.loop-at.at < length c.args.operands.now = search rules in
    place_has (λ u. u.0 < g.I.Intervals.width c.args.intervals.now) c.args.operands.now c.loop-at.at none lt c.requires.below

pub is_certain_over-requires-clause-ready : goal.is_certain_over-requires-clause-ready
is_certain_over-requires-clause-ready g c =
    let lt : c.loop-at.at < length c.args.operands.now = search rules in
    place_has (λ u. g.I.Intervals.ready c.args.intervals.now u.0) c.args.operands.now c.loop-at.at none lt c.requires.ready

pub returns : goal.returns
returns g c =
    let done : length c.args.operands.now ≤ c.loop-at.at = search rules in
    no_place (operand_certain (g.I.Intervals.spans c.args.intervals.now)) none c.args.operands.now (λ i lt. c.loop-at.invariant i (omega arith))
