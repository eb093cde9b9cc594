use Rattle.std.proofs.Common.{◌≡◌, refl, ◌≤ℤ◌, arith, w64}
use Rattle.std.proofs.lemmas.Int.{ints, to_z-of_z}
use Rattle.dom_core.specs.Rises.{count_of, range_of}
use Rattle.dom_core.specs.Domain.{IsDomain}
use Rattle.dom_core.proofs.DomainLaws.{range_is_domain}
use Rattle.dom_core.proofs.domain.Domain.from_range.Goals as goal

-- the range that is made is a domain
made : (c : goal.Else-count-gt-DOMAIN_LIMIT) → IsDomain (range_of c.args.lo c.args.hi)
made c =
    let ends : c.args.lo ≤ℤ c.args.hi = omega (arith, ints) in
    let count : c.count_between-count.result ≡ count_of c.args.lo c.args.hi =
    rw (to_z-of_z w64 c.args.lo c.ranges.lo, to_z-of_z w64 c.args.hi c.ranges.hi) at c.count_between-count.ensures in
    range_is_domain c.args.lo c.args.hi ends (rw count at c.if-count-gt-DOMAIN_LIMIT.false)

pub invariant_of-result : goal.invariant_of-result
invariant_of-result c = rw (to_z-of_z w64 c.args.lo c.ranges.lo, to_z-of_z w64 c.args.hi c.ranges.hi) (made c)

pub returns : goal.returns
returns c = rw (to_z-of_z w64 c.args.lo c.ranges.lo, to_z-of_z w64 c.args.hi c.ranges.hi) (made c, refl)
