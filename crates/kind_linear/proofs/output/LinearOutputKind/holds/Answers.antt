use Rattle.std.proofs.Common.{◌∙◌, ap, sym, subst}
use Rattle.kind_law.specs.Laws.{points}
use Rattle.kind_sum.specs.SumRelation.{SumRelation, SumFits}
use Rattle.kind_linear.specs.LinearOutput.{relation_of}
use Rattle.kind_linear.specs.LinearOutputLaws.{fits_relation}
use Rattle.kind_linear.proofs.output.LinearOutputKind.holds.Goals as goal

pub holds-requires-clause-fits : goal.holds-requires-clause-fits
holds-requires-clause-fits c =
    subst (λ (k : SumRelation). SumFits k (points c.args.a.now)) (ap relation_of (sym c.self.view_is) ∙ c.self.invariant.sum)
    (fits_relation c.args.self.now (points c.args.a.now) c.requires.fits)
