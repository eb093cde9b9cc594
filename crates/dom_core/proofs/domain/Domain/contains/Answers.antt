use Rattle.std.proofs.Common.{rules, ◌≤ℤ◌, arith, FitsSigned, w64}
use Rattle.std.proofs.lemmas.Int.{ints, to_z-of_z}
use Rattle.dom_core.proofs.RisesLaws.{range_test}
use Rattle.dom_core.proofs.DomainLaws.{range_view}
use Rattle.dom_core.proofs.domain.Domain.contains.Goals as goal

pub returns-then-lo-value : goal.returns-then-lo-value
returns-then-lo-value c =
    let hi_fits : FitsSigned w64 c.in-Range.hi = search rules in
    let lo_fits : FitsSigned w64 c.in-Range.lo = search rules in
    let low : c.in-Range.lo ≤ℤ c.args.value = omega (arith, ints) in
    rw (to_z-of_z w64 c.args.value c.ranges.value, to_z-of_z w64 c.in-Range.hi hi_fits)
    (range_test c.in-Range.lo c.in-Range.hi c.args.value c.args.self.now
    (range_view c.self.inside.kept c.in-Range.lo c.in-Range.hi c.args.self.now c.self.view_is c.in-Range.is) low)
