use Rattle.std.proofs.Common.{◌∙◌, ap, sym, subst}
use Rattle.kind_law.specs.Laws.{befores, afters}
use Rattle.kind_sum.specs.SumRelation.{SumRelation, SumFits, sum_kept}
use Rattle.kind_linear.specs.LinearOutput.{relation_of}
use Rattle.kind_linear.specs.LinearOutputLaws.{fits_relation}
use Rattle.kind_linear.proofs.output.LinearOutputKind.keeps.Goals as goal

pub keeps-requires-clause-before : goal.keeps-requires-clause-before
keeps-requires-clause-before c =
    subst (λ (k : SumRelation). SumFits k (befores c.args.view.now)) (ap relation_of (sym c.self.view_is) ∙ c.self.invariant.sum)
    (fits_relation c.args.self.now (befores c.args.view.now) c.requires.before)

pub keeps-requires-clause-after : goal.keeps-requires-clause-after
keeps-requires-clause-after c =
    subst (λ (k : SumRelation). SumFits k (afters c.args.view.now)) (ap relation_of (sym c.self.view_is) ∙ c.self.invariant.sum)
    (fits_relation c.args.self.now (afters c.args.view.now) c.requires.after)

pub returns : goal.returns
returns c = c.keeps.ensures ∙ ap (λ (k : SumRelation). sum_kept k c.args.view.now) (sym (ap relation_of (sym c.self.view_is) ∙ c.self.invariant.sum))
