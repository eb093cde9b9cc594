use Rattle.std.proofs.Common.{◌<◌, length, refl, rules}
use Rattle.fzn_output_marks.proofs.GapLaws.{whole, not_gapless}
use Rattle.fzn_output_marks.proofs.gaps.whole_of_sorted.Goals as goal

pub returns-then-is_gapless : goal.returns-then-is_gapless
returns-then-is_gapless c =
    let some : 0 < length c.args.values.now = search rules in
    whole c.args.values.now c.ends_of-ends.result c.requires (c.if-is_gapless.ensures.0 refl) some c.ends_of-ends.ensures.lo c.ends_of-ends.ensures.hi

pub returns-else-is_gapless : goal.returns-else-is_gapless
returns-else-is_gapless c = not_gapless c.args.values.now c.requires (λ g. let e = c.if-is_gapless.ensures.1 g in absurd cc)
