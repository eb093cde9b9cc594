use Rattle.std.proofs.Common.{rules, ◌≡◌, refl, ◌<◌, ◌-◌, length, get_or, pos, ◌-ℤ◌, ◌+ℤ◌, arith, FitsSigned, w64}
use Rattle.std.proofs.lemmas.Int.{ints, to_z-of_z}
use Rattle.kind_parts.proofs.PlainLaws.{plain_row, gap_from_read}
use Rattle.kind_parts.proofs.plain.row_of.Goals as goal

pub returns-then-hi-lo : goal.returns-then-hi-lo
returns-then-hi-lo c =
    let some : 0 < length c.args.values.now = grind (arith, c.is_empty.ensures, c.if-is_empty.false) in
    let lo_fits : FitsSigned w64 (get_or c.args.values.now 0 (pos 0)) = search rules in
    let hi_fits : FitsSigned w64 (get_or c.args.values.now (length c.args.values.now - 1) (pos 0)) = search rules in
    let apart : ((get_or c.args.values.now (length c.args.values.now - 1) (pos 0) -ℤ get_or c.args.values.now 0 (pos 0)) +ℤ pos 1) ≡ pos (length c.args.values.now) = omega (arith, ints) in
    rw (to_z-of_z w64 (get_or c.args.values.now 0 (pos 0)) lo_fits, to_z-of_z w64 (get_or c.args.values.now (length c.args.values.now - 1) (pos 0)) hi_fits)
    (plain_row c.args.values.now _ _ (length c.args.values.now - 1) c.requires some refl (omega arith) refl apart)

pub returns : goal.returns
returns c =
    let some : 0 < length c.args.values.now = grind (arith, c.is_empty.ensures, c.if-is_empty.false) in
    let lo_fits : FitsSigned w64 (get_or c.args.values.now 0 (pos 0)) = search rules in
    let hi_fits : FitsSigned w64 (get_or c.args.values.now (length c.args.values.now - 1) (pos 0)) = search rules in
    gap_from_read c.args.values.now (get_or c.args.values.now 0 (pos 0)) (get_or c.args.values.now (length c.args.values.now - 1) (pos 0))
    (length c.args.values.now - 1) c.requires refl (omega arith) refl (λ s. omega (arith, ints))
