use Rattle.kind_law.proofs.EndLaws.{asked_all_sane}
use Rattle.kind_truths.specs.Connective.{connective_vars}
use Rattle.kind_truths.proofs.parts.Parts.verdict.Goals as goal

pub verdict_in-requires-clause-sane : goal.verdict_in-requires-clause-sane
verdict_in-requires-clause-sane c =
    rw (c.new-region.ensures.cells, c.new-region.ensures.denied)
    (asked_all_sane c.args.cells.now.state c.args.implied (connective_vars c.args.self.now) c.requires.below c.width-width.ensures.sound c.requires.open)

pub returns : goal.returns
returns c = rw (c.new-region.ensures.cells, c.new-region.ensures.denied) at c.verdict_in.ensures
