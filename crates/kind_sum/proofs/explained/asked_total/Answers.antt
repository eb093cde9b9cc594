use Rattle.kind_law.proofs.EndLaws.{asked_all_sane, asked_fits}
use Rattle.kind_sum.specs.SumRelation.{sum_vars, SumFits}
use Rattle.kind_sum.specs.SumRelationLaws.{sum-fits}
use Rattle.kind_sum.proofs.explained.asked_total.Goals as goal

pub total_in-requires-clause-below : goal.total_in-requires-clause-below
total_in-requires-clause-below c = rw c.new-region.ensures.cells c.requires.below

pub total_in-requires-clause-sane : goal.total_in-requires-clause-sane
total_in-requires-clause-sane c =
    rw (c.new-region.ensures.cells, c.new-region.ensures.denied)
    (asked_all_sane c.args.cells.now.state c.args.implied (sum_vars c.args.linear.now) c.requires.below c.width-width.ensures.sound c.requires.open)

pub total_in-requires-clause-fits : goal.total_in-requires-clause-fits
total_in-requires-clause-fits c =
    rw (c.new-region.ensures.cells, c.new-region.ensures.denied)
    (asked_fits c.args.cells.now.state c.args.implied (sum_vars c.args.linear.now) (SumFits c.args.linear.now) (sum-fits c.args.linear.now)
    c.requires.below c.width-width.ensures.sound c.requires.open c.requires.fits)

pub returns-clause-total : goal.returns-clause-total
returns-clause-total c = rw (c.new-region.ensures.cells, c.new-region.ensures.denied) at c.total_in.ensures.total
