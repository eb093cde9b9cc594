use Rattle.std.proofs.Common.{◌≡◌, ◌+ℤ◌, pos, arith}
use Rattle.std.proofs.lemmas.Int.{ints}
use Rattle.dom_core.specs.Rises.{count_of}
use Rattle.dom_core.proofs.RisesLaws.{count_is}
use Rattle.dom_core.proofs.domain.count_between.Goals as goal

pub returns : goal.returns
returns c =
    let e : (c.args.lo +ℤ pos (count_of c.args.lo c.args.hi)) ≡ (c.args.hi +ℤ pos 1) = count_is c.args.lo c.args.hi c.requires.some in
    omega (arith, ints)
