use Rattle.std.proofs.Common.{◌∙◌, ap, sym, subst}
use Rattle.kind_law.specs.Laws.{hulls}
use Rattle.kind_sum.specs.SumRelation.{SumRelation, SumFits}
use Rattle.kind_linear.specs.LinearOutput.{relation_of}
use Rattle.kind_linear.specs.LinearOutputLaws.{fits_relation}
use Rattle.kind_linear.proofs.output.LinearOutputKind.refutes_in.Goals as goal

pub refutes_in-requires-clause-fits : goal.refutes_in-requires-clause-fits
refutes_in-requires-clause-fits g c =
    subst (λ (k : SumRelation). SumFits k (hulls (g.R.Region.cells c.args.cells.now))) (ap relation_of (sym c.self.view_is) ∙ c.self.invariant.sum)
    (fits_relation c.args.self.now (hulls (g.R.Region.cells c.args.cells.now)) c.requires.fits)
