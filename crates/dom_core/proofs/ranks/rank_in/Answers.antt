use Rattle.std.proofs.Common.{rules, ◌+◌, ◌-◌, ◌/◌, pos, arith, get_or, FitsSigned, w64}
use Rattle.std.proofs.lemmas.Int.{ints}
use Rattle.dom_core.proofs.RankLaws.{between_up, between_down}
use Rattle.dom_core.proofs.ranks.rank_in.Goals as goal

pub loop-low-preserved-then-values-middle : goal.loop-low-preserved-then-values-middle
loop-low-preserved-then-values-middle c =
    let fits : FitsSigned w64 (get_or c.args.values.now (c.loop-low.low + (c.loop-low.high - c.loop-low.low) / 2) (pos 0)) = search rules in
    between_up c.args.values.now _ c.loop-low.low c.loop-low.high (c.loop-low.low + (c.loop-low.high - c.loop-low.low) / 2)
    c.requires c.loop-low.invariant (omega arith) (omega arith) (omega (arith, ints))

pub loop-low-preserved : goal.loop-low-preserved
loop-low-preserved c =
    let fits : FitsSigned w64 (get_or c.args.values.now (c.loop-low.low + (c.loop-low.high - c.loop-low.low) / 2) (pos 0)) = search rules in
    between_down c.args.values.now _ c.loop-low.low c.loop-low.high (c.loop-low.low + (c.loop-low.high - c.loop-low.low) / 2)
    c.requires c.loop-low.invariant (omega arith) (omega arith) (omega (arith, ints))
