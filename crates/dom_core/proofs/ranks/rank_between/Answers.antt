use Rattle.std.proofs.Common.{◌≡◌, ◌+ℤ◌, pos, arith}
use Rattle.std.proofs.lemmas.Int.{ints}
use Rattle.dom_core.specs.Rises.{count_of}
use Rattle.dom_core.proofs.RankLaws.{rank_before, rank_beyond, rank_within}
use Rattle.dom_core.proofs.RisesLaws.{count_is}
use Rattle.dom_core.proofs.ranks.rank_between.Goals as goal

pub returns-then-value-lo : goal.returns-then-value-lo
returns-then-value-lo c = rank_before c.args.lo c.args.hi c.args.value (omega (arith, ints))

pub returns-then-hi-value : goal.returns-then-hi-value
returns-then-hi-value c =
    let is : (c.args.lo +ℤ pos (count_of c.args.lo c.args.hi)) ≡ (c.args.hi +ℤ pos 1) = count_is c.args.lo c.args.hi c.requires.ends in
    rank_beyond c.args.lo c.args.hi c.args.value _ c.requires.ends (omega (arith, ints)) (omega (arith, ints))

pub returns-else-hi-value : goal.returns-else-hi-value
returns-else-hi-value c =
    let is : (c.args.lo +ℤ pos (count_of c.args.lo c.args.hi)) ≡ (c.args.hi +ℤ pos 1) = count_is c.args.lo c.args.hi c.requires.ends in
    rank_within c.args.lo c.args.hi c.args.value _ c.requires.ends (omega (arith, ints)) (omega (arith, ints))
