use Rattle.std.proofs.Common.{◌≤◌, length, ap, arith, below_more}
use Rattle.fzn_symbols.proofs.Places.{item_at}
use Rattle.fzn_check.proofs.DeclarationLaws.{fault_is_first, place_is_fine, all_are_fine}
use Rattle.fzn_check.proofs.declarations.first_declaration_fault.Goals as goal

pub returns-in-Some : goal.returns-in-Some
returns-in-Some c =
    let ds = c.args.scope.now in
    let k = c.loop-place.place in
    let d = c.index-declarations-place.result in
    fault_is_first ds c.in_ok-cyclic.cyclic k c.is_at.result d c.in-Some.fault c.in_ok-cyclic.ensures c.loop-place.invariant
    (item_at ds c.declarations-declarations.result.now k d c.declarations-declarations.ensures.all c.loop-place-test.true c.index-declarations-place.is) c.is_at.ensures (rw c.in-Some.is at c.in_ok-fault.ensures)

pub loop-place-preserved : goal.loop-place-preserved
loop-place-preserved c =
    let ds = c.args.scope.now in
    let k = c.loop-place.place in
    let d = c.index-declarations-place.result in
    below_more _ _ c.loop-place.invariant
    (place_is_fine ds c.in_ok-cyclic.cyclic k c.is_at.result d c.in_ok-cyclic.ensures c.loop-place.invariant
    (item_at ds c.declarations-declarations.result.now k d c.declarations-declarations.ensures.all c.loop-place-test.true c.index-declarations-place.is) c.is_at.ensures (rw c.in_default.is at c.in_ok-fault.ensures))

pub returns : goal.returns
returns c =
    let same = ap length c.declarations-declarations.ensures.all in
    let all : length c.args.scope.now ≤ c.loop-place.place = omega (arith, same, c.loop-place-test.false) in
    all_are_fine c.args.scope.now c.loop-place.place all c.loop-place.invariant
