use Rattle.std.proofs.Common.{rules, sym, ◌<◌, ◌≤◌, length, arith}
use Rattle.kind_truths.specs.Operand.{operand_moves}
use Rattle.kind_truths.proofs.PlaceLaws.{none, place_has, no_place}
use Rattle.kind_truths.proofs.operands.some_moves.Goals as goal

pub is_moving-requires : goal.is_moving-requires
is_moving-requires c =
    let lt : c.loop-at.at < length c.args.operands.now = search rules in
    place_has (λ u. u.0 < length c.args.view.now) c.args.operands.now c.loop-at.at none lt c.requires

pub returns : goal.returns
returns c =
    let done : length c.args.operands.now ≤ c.loop-at.at = search rules in
    sym (no_place (operand_moves c.args.flipped c.args.view.now) none c.args.operands.now (λ i lt. c.loop-at.invariant i (omega arith)))
