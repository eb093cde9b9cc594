use Rattle.std.proofs.Common.{rules, ◌≡◌, ◌∙◌, ap, ℤ, FitsSigned, w64}
use Rattle.std.proofs.lemmas.Int.{to_z-of_z}
use Rattle.std.specs.Int.{w128}
use Rattle.dom_core.specs.Ends.{Ends}
use Rattle.kind_sum.specs.SumRelation.{SumRelation, sum_vars}
use Rattle.kind_parts.specs.Relation.{is_related}
use Rattle.kind_sum.specs.Sum.{sum_at}
use Rattle.kind_sum.specs.SumLaws.{each_unit, total_point}
use Rattle.kind_sum.proofs.sum_relation.SumRelationKind.holds.Goals as goal

pub total-sum-requires-clause-ready : goal.total-sum-requires-clause-ready
total-sum-requires-clause-ready c = each_unit (sum_vars c.args.self.now)

pub returns : goal.returns
returns c =
    let relation : c.self.inside.relation ≡ c.args.self.now.relation = ap (λ (k : SumRelation). k.relation) c.self.view_is in
    let bound : c.self.inside.bound ≡ c.args.self.now.bound = ap (λ (k : SumRelation). k.bound) c.self.view_is in
    let bound_fits : FitsSigned w64 c.self.inside.bound = search rules in
    let sum_fits : FitsSigned w128 c.lo.result = search rules in
    let sum : c.lo.result ≡ sum_at c.args.self.now.terms c.args.a.now =
    c.lo.ensures.lo ∙ ap (λ (e : Ends). e.lo) (c.total-sum.ensures ∙ total_point c.args.self.now.terms c.args.a.now) in
    let met : c.is_met.result ≡ is_related c.self.inside.relation c.lo.result c.self.inside.bound =
    rw (to_z-of_z w128 c.lo.result sum_fits, to_z-of_z w64 c.self.inside.bound bound_fits) at c.is_met.ensures in
    met ∙ ap (λ r. is_related r c.lo.result c.self.inside.bound) relation ∙ ap (λ (s : ℤ). is_related c.args.self.now.relation s c.self.inside.bound) sum
    ∙ ap (is_related c.args.self.now.relation (sum_at c.args.self.now.terms c.args.a.now)) bound
