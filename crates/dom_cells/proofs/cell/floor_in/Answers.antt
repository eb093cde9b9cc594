use Rattle.std.proofs.Common.{rules, ◌≡◌, ◌-◌, ◌+ℤ◌, pos, arith, get_or, FitsSigned, w64, to_z, of_z}
use Rattle.std.proofs.lemmas.Int.{ints, to_z-of_z}
use Rattle.std.proofs.lemmas.Option.{get_or_from_slice_get}
use Rattle.dom_core.specs.Rises.{IsRank}
use Rattle.dom_cells.proofs.FlagLaws.{floor_after, floor_is}
use Rattle.dom_cells.proofs.cell.floor_in.Goals as goal

pub overflow_sub-last_up : goal.overflow_sub-last_up
overflow_sub-last_up c =
    let e : to_z w64 (of_z w64 (to_z w64 (of_z w64 c.args.value) +ℤ pos 1)) ≡ (c.args.value +ℤ pos 1) = omega (arith, ints) in
    let rank : IsRank c.args.domain.now (c.args.value +ℤ pos 1) c.rank-below.result = rw e at c.rank-below.ensures.rank in
    floor_after c.args.domain.now c.args.flags.now c.args.value c.args.low c.rank-below.result c.last_up.result
    c.rank-below.ensures.sound.rises c.requires.flags rank c.last_up.ensures c.requires.low c.requires.below

pub returns : goal.returns
returns c =
    let e : to_z w64 (of_z w64 (to_z w64 (of_z w64 c.args.value) +ℤ pos 1)) ≡ (c.args.value +ℤ pos 1) = omega (arith, ints) in
    let rank : IsRank c.args.domain.now (c.args.value +ℤ pos 1) c.rank-below.result = rw e at c.rank-below.ensures.rank in
    let fits : FitsSigned w64 c.value_at.result = search rules in
    let read : get_or c.args.domain.now (c.last_up.result - 1) (pos 0) ≡ c.value_at.result =
    get_or_from_slice_get c.args.domain.now (c.last_up.result - 1) c.value_at.result (pos 0) c.value_at.ensures in
    rw (to_z-of_z w64 c.value_at.result fits, ← read)
    (floor_is c.args.domain.now c.args.flags.now c.args.value c.args.low c.rank-below.result c.last_up.result
    c.rank-below.ensures.sound.rises c.requires.flags rank c.last_up.ensures c.requires.low c.requires.below)
