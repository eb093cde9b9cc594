use Rattle.std.proofs.Common.{rules, ◌≡◌, ◌≤◌, length, arith, FitsSigned, w64}
use Rattle.std.proofs.lemmas.Int.{to_z-of_z}
use Rattle.dom_core.specs.Rises.{count_of, range_of}
use Rattle.dom_core.proofs.RisesLaws.{range-length}
use Rattle.dom_core.proofs.domain.Domain.rank.Goals as goal

pub rank_between-requires-clause-few : goal.rank_between-requires-clause-few
rank_between-requires-clause-few c =
    let lo_fits : FitsSigned w64 c.in-Range.lo = search rules in
    let hi_fits : FitsSigned w64 c.in-Range.hi = search rules in
    let few : length (range_of c.in-Range.lo c.in-Range.hi) ≤ 4096 = rw c.in-Range.is at c.self.invariant.few in
    let e : length (range_of c.in-Range.lo c.in-Range.hi) ≡ count_of c.in-Range.lo c.in-Range.hi = range-length c.in-Range.lo c.in-Range.hi in
    let fits : count_of c.in-Range.lo c.in-Range.hi ≤ 4096 = omega arith in
    rw (to_z-of_z w64 c.in-Range.lo lo_fits, to_z-of_z w64 c.in-Range.hi hi_fits) fits
