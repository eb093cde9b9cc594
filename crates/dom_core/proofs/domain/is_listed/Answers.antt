use Rattle.std.proofs.Common.{rules, ◌≡◌, ap, ◌+◌, ◌-◌, ◌/◌, pos, arith, get_or, FitsSigned, w64, of_z, ◌<ℤ◌}
use Rattle.std.proofs.lemmas.Int.{ints, to_z-of_z}
use Rattle.dom_core.proofs.RisesLaws.{read_is_among, less_before, greater_after, nowhere, same_bits}
use Rattle.dom_core.proofs.domain.is_listed.Goals as goal

pub returns-then-here-value : goal.returns-then-here-value
returns-then-here-value c =
    let fits : FitsSigned w64 (get_or c.args.values.now (c.loop-low.low + (c.loop-low.high - c.loop-low.low) / 2) (pos 0)) = search rules in
    read_is_among c.args.values.now (c.loop-low.low + (c.loop-low.high - c.loop-low.low) / 2) (pos 0) c.args.value (omega arith)
    (same_bits _ _ fits c.ranges.value c.if-here-value.true)

pub loop-low-preserved-then-here-value-2 : goal.loop-low-preserved-then-here-value-2
loop-low-preserved-then-here-value-2 c =
    let fits : FitsSigned w64 (get_or c.args.values.now (c.loop-low.low + (c.loop-low.high - c.loop-low.low) / 2) (pos 0)) = search rules in
    let here : get_or c.args.values.now (c.loop-low.low + (c.loop-low.high - c.loop-low.low) / 2) (pos 0) <ℤ c.args.value = omega (arith, ints) in
    record {
      within = c.loop-low.invariant.within;
      less = rw (to_z-of_z w64 c.args.value c.ranges.value) (less_before c.args.values.now (c.loop-low.low + (c.loop-low.high - c.loop-low.low) / 2) (pos 0) c.args.value c.requires (omega arith) here);
      greater = c.loop-low.invariant.greater;
    }

pub loop-low-preserved : goal.loop-low-preserved
loop-low-preserved c =
    let fits : FitsSigned w64 (get_or c.args.values.now (c.loop-low.low + (c.loop-low.high - c.loop-low.low) / 2) (pos 0)) = search rules in
    let apart : get_or c.args.values.now (c.loop-low.low + (c.loop-low.high - c.loop-low.low) / 2) (pos 0) ≡ c.args.value → ⊥ =
    λ e. c.if-here-value.false (ap (of_z w64) e) in
    let here : c.args.value <ℤ get_or c.args.values.now (c.loop-low.low + (c.loop-low.high - c.loop-low.low) / 2) (pos 0) = omega (arith, ints) in
    record {
      within = omega arith;
      less = c.loop-low.invariant.less;
      greater = rw (to_z-of_z w64 c.args.value c.ranges.value) (greater_after c.args.values.now (c.loop-low.low + (c.loop-low.high - c.loop-low.low) / 2) (pos 0) c.args.value c.requires here);
    }

pub returns : goal.returns
returns c =
    nowhere c.args.values.now c.loop-low.low c.loop-low.high c.args.value (omega arith)
    (rw (to_z-of_z w64 c.args.value c.ranges.value) at c.loop-low.invariant.less)
    (rw (to_z-of_z w64 c.args.value c.ranges.value) at c.loop-low.invariant.greater)
