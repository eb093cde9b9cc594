use Rattle.std.proofs.Common.{rules, ◌≡◌, ◌-◌, length, ◌-ℤ◌, ◌+ℤ◌, pos, arith, FitsSigned, w64}
use Rattle.std.proofs.lemmas.Int.{ints, to_z-of_z}
use Rattle.dom_core.proofs.SortLaws.{range_from_read}
use Rattle.dom_core.proofs.domain.kept_of.Goals as goal

pub returns-then-hi-lo : goal.returns-then-hi-lo
returns-then-hi-lo c =
    let lo_fits : FitsSigned w64 c.index-lo.result.now = search rules in
    let hi_fits : FitsSigned w64 c.index-hi.result.now = search rules in
    let apart : ((c.index-hi.result.now -ℤ c.index-lo.result.now) +ℤ pos 1) ≡ pos (length c.args.values.items) = omega (arith, ints) in
    rw (to_z-of_z w64 c.index-lo.result.now lo_fits, to_z-of_z w64 c.index-hi.result.now hi_fits)
    (range_from_read c.args.values.items c.index-lo.result.now c.index-hi.result.now (c.len.result - 1) c.requires.rises c.requires.some
    c.index-lo.ensures (omega arith) c.index-hi.ensures apart)
