use Rattle.std.proofs.Common.{rules, ◌≡◌, ◌∙◌, sym, ap, ◌≤ℤ◌, ◌<ℤ◌, ◌+ℤ◌, pos, arith, get_or, FitsSigned, w64, to_z, of_z}
use Rattle.std.proofs.lemmas.Int.{ints, to_z-of_z}
use Rattle.std.proofs.Math.Facts.{of_z-to_z, Fits-of_z}
use Rattle.std.specs.Int.{w128}
use Rattle.kind_parts.specs.Set.{covers}
use Rattle.kind_parts.proofs.CoverLaws.{below_next, pass-covers, turn_over, turn_done, turn_next, turn_rest, turn_end}
use Rattle.kind_parts.proofs.sets.is_covered.Goals.{then-here-next, else-here-next}
use Rattle.kind_parts.proofs.sets.is_covered.Goals as goal

pub loop-value-init : goal.loop-value-init
loop-value-init c =
    let hi_fits : FitsSigned w128 c.hi-last.result = search rules in
    let lo_fits : FitsSigned w128 c.lo-next.result = search rules in
    rw (to_z-of_z w128 c.hi-last.result hi_fits, to_z-of_z w128 c.lo-next.result lo_fits, c.hi-last.ensures.hi, c.lo-next.ensures.lo)
    (record { order = c.lo-next.ensures.ordered; rest = pass-covers c.args.values.now c.args.interval c.requires c.lo-next.ensures.ordered })

pub returns-then-next-here : goal.returns-then-next-here
returns-then-next-here c =
    let fits : FitsSigned w64 (get_or c.args.values.now c.loop-value.value-index (pos 0)) = search rules in
    let over : to_z w128 c.loop-value.next-bits <ℤ get_or c.args.values.now c.loop-value.value-index (pos 0) = omega (arith, ints) in
    turn_over c.args.values.now c.loop-value.value-index _ _ (covers c.args.values.now c.args.interval) c.loop-value-test.true over c.loop-value.invariant.rest

pub returns-then-here-last : goal.returns-then-here-last
returns-then-here-last c =
    let fits : FitsSigned w64 (get_or c.args.values.now c.loop-value.value-index (pos 0)) = search rules in
    let last_fits : FitsSigned w128 c.hi-last.result = search rules in
    let under : get_or c.args.values.now c.loop-value.value-index (pos 0) ≤ℤ to_z w128 c.loop-value.next-bits = omega (arith, ints) in
    let done : get_or c.args.values.now c.loop-value.value-index (pos 0) ≡ to_z w128 (of_z w128 c.hi-last.result) = omega (arith, ints) in
    turn_done c.args.values.now c.loop-value.value-index _ _ (covers c.args.values.now c.args.interval) c.loop-value-test.true under done c.loop-value.invariant.rest

pub loop-value-preserved : goal.loop-value-preserved
loop-value-preserved c =
    let fits : FitsSigned w64 (get_or c.args.values.now c.loop-value.value-index (pos 0)) = search rules in
    let last_fits : FitsSigned w128 c.hi-last.result = search rules in
    let not_done : get_or c.args.values.now c.loop-value.value-index (pos 0) ≡ to_z w128 (of_z w128 c.hi-last.result) → ⊥ = λ e. omega (arith, ints) in
    let wide : FitsSigned w128 (to_z w64 (of_z w64 (get_or c.args.values.now c.loop-value.value-index (pos 0)))) = search rules in
    let cast : to_z w128 (of_z w128 (to_z w64 (of_z w64 (get_or c.args.values.now c.loop-value.value-index (pos 0))))) ≡ get_or c.args.values.now c.loop-value.value-index (pos 0) = omega (arith, ints) in
    let order : to_z w128 c.loop-value.next-bits ≤ℤ to_z w128 (of_z w128 c.hi-last.result) = c.loop-value.invariant.order in
    elim c.if-here-next.branch [
      | then-here-next w ↦ (let here : get_or c.args.values.now c.loop-value.value-index (pos 0) ≡ to_z w128 c.loop-value.next-bits = sym cast ∙ ap (to_z w128) w.if-here-next.true in
          let new : to_z w128 c.if-here-next.next-bits ≡ (to_z w128 c.loop-value.next-bits +ℤ pos 1) = omega (arith, ints, w.next-is) in
          rw new (record {
            order = omega (arith, ints);
            rest = turn_next c.args.values.now c.loop-value.value-index _ _ (covers c.args.values.now c.args.interval) c.loop-value-test.true not_done here c.loop-value.invariant.rest;
          }))
      | else-here-next w ↦ (let other : get_or c.args.values.now c.loop-value.value-index (pos 0) ≡ to_z w128 c.loop-value.next-bits → ⊥ =
          λ e. w.if-here-next.false (sym (of_z-to_z (Fits-of_z wide)) ∙ ap (of_z w128) (cast ∙ e) ∙ of_z-to_z c.loop-value.auto.next) in
          let before : get_or c.args.values.now c.loop-value.value-index (pos 0) <ℤ to_z w128 c.loop-value.next-bits =
          below_next (get_or c.args.values.now c.loop-value.value-index (pos 0)) (to_z w128 c.loop-value.next-bits) (omega (arith, ints)) other in
          let new : to_z w128 c.if-here-next.next-bits ≡ to_z w128 c.loop-value.next-bits = omega (arith, ints, w.next-is) in
          rw new (record {
            order = order;
            rest = turn_rest c.args.values.now c.loop-value.value-index _ _ (covers c.args.values.now c.args.interval) c.loop-value-test.true not_done before c.loop-value.invariant.rest;
          }))
    ]

pub returns : goal.returns
returns c =
    turn_end c.args.values.now c.loop-value.value-index _ _ (covers c.args.values.now c.args.interval) (omega arith) c.loop-value.invariant.rest
