use Rattle.std.proofs.Common.{◌≡◌, ◌∙◌, ap, ◌<◌}
use Rattle.kind_sum.specs.SumRelation.{SumRelation}
use Rattle.kind_sum.specs.Sum.{vars_of}
use Rattle.kind_law.proofs.ArgumentLaws.{each_listed}
use Rattle.kind_sum.proofs.sum_relation.SumRelation.total.Goals as goal

pub total_of-requires-clause-below : goal.total_of-requires-clause-below
total_of-requires-clause-below g c =
    let e : c.as_slice.result.now ≡ c.args.self.now.terms = c.as_slice.ensures.value ∙ ap (λ (k : SumRelation). k.terms) c.self.view_is in
    rw e (each_listed (λ u. u.0 < g.I.Intervals.width c.args.intervals.now) (vars_of c.args.self.now.terms) c.requires.below)

pub total_of-requires-clause-ready : goal.total_of-requires-clause-ready
total_of-requires-clause-ready g c =
    let e : c.as_slice.result.now ≡ c.args.self.now.terms = c.as_slice.ensures.value ∙ ap (λ (k : SumRelation). k.terms) c.self.view_is in
    rw e (each_listed (λ u. g.I.Intervals.ready c.args.intervals.now u.0) (vars_of c.args.self.now.terms) c.requires.ready)
