use Rattle.std.proofs.Common.{◌∙◌, ap, sym, subst}
use Rattle.dom_cells.specs.Box.{cell_of}
use Rattle.kind_law.specs.Laws.{hulls}
use Rattle.kind_sum.specs.SumRelation.{SumRelation, SumFits}
use Rattle.kind_linear.specs.LinearOutput.{relation_of}
use Rattle.kind_linear.specs.LinearOutputLaws.{fits_relation}
use Rattle.kind_linear.proofs.output.LinearOutputPropagate.next.Goals as goal

pub next-requires-clause-fits : goal.next-requires-clause-fits
next-requires-clause-fits c =
    subst (λ (k : SumRelation). SumFits k (hulls (cell_of c.args.cells.now.state))) (ap relation_of (sym c.self.view_is) ∙ c.self.invariant.sum)
    (fits_relation c.args.self.now (hulls (cell_of c.args.cells.now.state)) c.requires.fits)
