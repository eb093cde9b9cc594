use Rattle.std.proofs.Common.{rules, ◌≡◌, pos, get_or, FitsSigned, w64}
use Rattle.std.proofs.lemmas.Int.{to_z-of_z}
use Rattle.std.proofs.lemmas.Option.{get_or_from_slice_get}
use Rattle.dom_core.specs.Rises.{IsRank}
use Rattle.dom_cells.proofs.FlagLaws.{ceiling_before, ceiling_is}
use Rattle.dom_cells.proofs.cell.ceiling_in.Goals as goal

pub value_at-requires : goal.value_at-requires
value_at-requires c =
    let rank : IsRank c.args.domain.now c.args.value c.rank-from.result = rw (to_z-of_z w64 c.args.value c.ranges.value) at c.rank-from.ensures.rank in
    ceiling_before c.args.domain.now c.args.flags.now c.args.value c.args.high c.rank-from.result c.first_up.result
    c.rank-from.ensures.sound.rises c.requires.flags rank c.first_up.ensures c.requires.high c.requires.above

pub returns : goal.returns
returns c =
    let rank : IsRank c.args.domain.now c.args.value c.rank-from.result = rw (to_z-of_z w64 c.args.value c.ranges.value) at c.rank-from.ensures.rank in
    let fits : FitsSigned w64 c.value_at.result = search rules in
    let read : get_or c.args.domain.now c.first_up.result (pos 0) ≡ c.value_at.result =
    get_or_from_slice_get c.args.domain.now c.first_up.result c.value_at.result (pos 0) c.value_at.ensures in
    rw (to_z-of_z w64 c.value_at.result fits, ← read)
    (ceiling_is c.args.domain.now c.args.flags.now c.args.value c.args.high c.rank-from.result c.first_up.result
    c.rank-from.ensures.sound.rises c.requires.flags rank c.first_up.ensures c.requires.high c.requires.above)
