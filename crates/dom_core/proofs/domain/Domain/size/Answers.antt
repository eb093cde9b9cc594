use Rattle.std.proofs.Common.{rules, ◌≡◌, sym, ◌<◌, ◌≤◌, length, arith, FitsSigned, w64}
use Rattle.std.proofs.lemmas.Int.{to_z-of_z}
use Rattle.dom_core.specs.Rises.{count_of, range_of}
use Rattle.dom_core.proofs.RisesLaws.{range-length}
use Rattle.dom_core.proofs.DomainLaws.{range_view}
use Rattle.dom_core.proofs.domain.Domain.size.Goals as goal

pub count_between-requires-clause-fits : goal.count_between-requires-clause-fits
count_between-requires-clause-fits c =
    let lo_fits : FitsSigned w64 c.in-Range.lo = search rules in
    let hi_fits : FitsSigned w64 c.in-Range.hi = search rules in
    let few : length (range_of c.in-Range.lo c.in-Range.hi) ≤ 4096 = rw c.in-Range.is at c.self.invariant.few in
    let e : length (range_of c.in-Range.lo c.in-Range.hi) ≡ count_of c.in-Range.lo c.in-Range.hi = range-length c.in-Range.lo c.in-Range.hi in
    let fits : count_of c.in-Range.lo c.in-Range.hi < 18446744073709551616 = omega arith in
    rw (to_z-of_z w64 c.in-Range.lo lo_fits, to_z-of_z w64 c.in-Range.hi hi_fits) fits

pub returns-in-Range-clause-size : goal.returns-in-Range-clause-size
returns-in-Range-clause-size c =
    let lo_fits : FitsSigned w64 c.in-Range.lo = search rules in
    let hi_fits : FitsSigned w64 c.in-Range.hi = search rules in
    let view : c.args.self.now ≡ range_of c.in-Range.lo c.in-Range.hi = range_view c.self.inside.kept _ _ _ c.self.view_is c.in-Range.is in
    rw (c.count_between.ensures, to_z-of_z w64 c.in-Range.lo lo_fits, to_z-of_z w64 c.in-Range.hi hi_fits, view)
    (sym (range-length c.in-Range.lo c.in-Range.hi))
