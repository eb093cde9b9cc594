use Rattle.std.proofs.Common.{rules, ◌∙◌, ap, arith, FitsSigned, w64, of_z}
use Rattle.std.proofs.lemmas.Int.{to_z-of_z}
use Rattle.dom_core.specs.Rises.{IsRank}
use Rattle.dom_cells.proofs.FlagLaws.{kept_beyond, kept_other, kept_here}
use Rattle.dom_core.proofs.RisesLaws.{same_bits}
use Rattle.dom_cells.proofs.cell.is_up.Goals as goal

pub returns-then-at-size : goal.returns-then-at-size
returns-then-at-size c =
    let rank : IsRank c.args.domain.now c.args.value c.rank-at.result = rw (to_z-of_z w64 c.args.value c.ranges.value) at c.rank-at.ensures.rank in
    kept_beyond c.args.domain.now c.args.flags.now c.args.value c.rank-at.result c.rank-at.ensures.sound.rises rank (omega arith)

pub returns-then-here-value : goal.returns-then-here-value
returns-then-here-value c =
    let rank : IsRank c.args.domain.now c.args.value c.rank-at.result = rw (to_z-of_z w64 c.args.value c.ranges.value) at c.rank-at.ensures.rank in
    kept_other c.args.domain.now c.args.flags.now c.args.value c.value_at-here.result c.rank-at.result c.rank-at.ensures.sound.rises rank c.value_at-here.ensures
    (λ e. c.if-here-value.true (ap (of_z w64) e))

pub returns : goal.returns
returns c =
    let rank : IsRank c.args.domain.now c.args.value c.rank-at.result = rw (to_z-of_z w64 c.args.value c.ranges.value) at c.rank-at.ensures.rank in
    let fits : FitsSigned w64 c.value_at-here.result = search rules in
    c.is_up.ensures
    ∙ kept_here c.args.domain.now c.args.flags.now c.args.value c.value_at-here.result c.rank-at.result c.rank-at.ensures.sound.rises rank
    (omega arith) c.value_at-here.ensures (same_bits c.value_at-here.result c.args.value fits c.ranges.value c.if-here-value.false)
