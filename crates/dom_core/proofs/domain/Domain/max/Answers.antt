use Rattle.std.proofs.Common.{rules, ◌≡◌, ◌∙◌, sym, ◌<◌, ◌-◌, length, ◌≤ℤ◌, arith, FitsSigned, w64}
use Rattle.std.proofs.lemmas.Int.{to_z-of_z}
use Rattle.dom_core.specs.Rises.{range_of}
use Rattle.dom_core.proofs.RisesLaws.{range-last, last_is_read, range_ends}
use Rattle.dom_core.proofs.DomainLaws.{range_view, list_view}
use Rattle.dom_core.proofs.domain.Domain.max.Goals as goal

pub returns-in-Range-clause-max : goal.returns-in-Range-clause-max
returns-in-Range-clause-max c =
    let hi_fits : FitsSigned w64 c.in-Range.hi = search rules in
    let view : c.args.self.now ≡ range_of c.in-Range.field-0 c.in-Range.hi = range_view c.self.inside.kept _ _ _ c.self.view_is c.in-Range.is in
    let ends : c.in-Range.field-0 ≤ℤ c.in-Range.hi = range_ends _ _ (rw c.in-Range.is at c.self.invariant.some) in
    rw (to_z-of_z w64 c.in-Range.hi hi_fits, view) (sym (range-last c.in-Range.field-0 c.in-Range.hi ends))

pub returns-in-Listed-clause-max : goal.returns-in-Listed-clause-max
returns-in-Listed-clause-max c =
    let fits : FitsSigned w64 c.index.result.now = search rules in
    let view : c.args.self.now ≡ c.in-Listed.values.items = list_view c.self.inside.kept c.in-Listed.values c.args.self.now c.self.view_is c.in-Listed.is in
    let some : 0 < length c.in-Listed.values.items = rw c.in-Listed.is at c.self.invariant.some in
    rw (to_z-of_z w64 c.index.result.now fits, view)
    (c.index.ensures ∙ sym (last_is_read c.in-Listed.values.items c.index.result.now (c.len.result - 1) (omega arith)))
