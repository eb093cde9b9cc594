use Rattle.kind_reified.proofs.ArguedLaws.{arg_sane}
use Rattle.kind_reified.proofs.argued.asked_span.Goals as goal

pub span_in-requires-clause-below : goal.span_in-requires-clause-below
span_in-requires-clause-below c = rw c.new-region.ensures.cells c.requires.below

pub span_in-requires-clause-sane : goal.span_in-requires-clause-sane
span_in-requires-clause-sane c =
    rw (c.new-region.ensures.cells, c.new-region.ensures.denied) (arg_sane c.args.cells.now.state c.args.implied c.args.arg c.width-width.ensures.sound c.requires.below c.requires.open)

pub returns : goal.returns
returns c = rw (c.new-region.ensures.cells, c.new-region.ensures.denied) at c.span_in.ensures
