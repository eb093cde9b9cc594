use Rattle.std.proofs.Common.{rules, ◌≡◌, ◌∙◌, sym, ap, ◌≤◌, length, ◌≤ℤ◌, ◌+ℤ◌, ℤ, pos, List, arith, get_or, FitsSigned, w64, to_z, of_z}
use Rattle.std.proofs.lemmas.Int.{ints, to_z-of_z}
use Rattle.dom_core.specs.Rises.{range_of}
use Rattle.std.proofs.Common.{Some, slice_get}
use Rattle.dom_core.proofs.RisesLaws.{range_reads, range_beyond, list_reads}
use Rattle.dom_core.proofs.DomainLaws.{range_view, list_view}
use Rattle.dom_core.proofs.domain.Domain.value_at.Goals as goal

pub overflow_add-result : goal.overflow_add-result
overflow_add-result c =
    let lo_fits : FitsSigned w64 c.in-Range.lo = search rules in
    let hi_fits : FitsSigned w64 c.in-Range.hi = search rules in
    let view : c.args.self.now ≡ range_of c.in-Range.lo c.in-Range.hi = range_view c.self.inside.kept _ _ _ c.self.view_is c.in-Range.is in
    let within : (c.in-Range.lo +ℤ pos c.args.index) ≤ℤ c.in-Range.hi = range_beyond c.in-Range.lo c.in-Range.hi c.args.index c.args.self.now view c.requires in
    let few : length c.args.self.now ≤ 4096 = rw c.self.view_is at c.self.invariant.few in
    omega (arith, ints)

pub returns-in-Range : goal.returns-in-Range
returns-in-Range c =
    let lo_fits : FitsSigned w64 c.in-Range.lo = search rules in
    let hi_fits : FitsSigned w64 c.in-Range.hi = search rules in
    let view : c.args.self.now ≡ range_of c.in-Range.lo c.in-Range.hi = range_view c.self.inside.kept _ _ _ c.self.view_is c.in-Range.is in
    let within : (c.in-Range.lo +ℤ pos c.args.index) ≤ℤ c.in-Range.hi = range_beyond c.in-Range.lo c.in-Range.hi c.args.index c.args.self.now view c.requires in
    let few : length c.args.self.now ≤ 4096 = rw c.self.view_is at c.self.invariant.few in
    let e : to_z w64 (of_z w64 (to_z w64 (of_z w64 c.in-Range.lo) +ℤ to_z w64 c.args.index)) ≡ (c.in-Range.lo +ℤ pos c.args.index) = omega (arith, ints) in
    rw e (range_reads c.in-Range.lo c.in-Range.hi c.args.index c.args.self.now view c.requires)

pub returns-in-Listed : goal.returns-in-Listed
returns-in-Listed c =
    let fits : FitsSigned w64 c.index.result.now = search rules in
    let view : c.args.self.now ≡ c.in-Listed.values.items = list_view c.self.inside.kept c.in-Listed.values c.args.self.now c.self.view_is c.in-Listed.is in
    let read : slice_get c.args.self.now c.args.index ≡ Some (get_or c.args.self.now c.args.index c.index.result.now) = list_reads c.args.index c.args.self.now c.index.result.now c.requires in
    rw (to_z-of_z w64 c.index.result.now fits) (read ∙ ap Some (ap (λ (xs : List ℤ). get_or xs c.args.index c.index.result.now) view ∙ sym c.index.ensures))
