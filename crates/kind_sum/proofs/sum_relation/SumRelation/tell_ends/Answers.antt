use Rattle.std.proofs.Common.{◌∙◌, ◌&&◌, not, ap}
use Rattle.kind_law.specs.declared.visited.Visited.TheVariants.{Ends}
use Rattle.kind_sum.specs.SumRelation.{may_follow}
use Rattle.kind_law.proofs.VisitLaws.{nothing_left}
use Rattle.kind_sum.proofs.QuietLaws.{told_visited}
use Rattle.kind_sum.proofs.sum_relation.SumRelation.tell_ends.Goals as goal

pub returns-clause-visited : goal.returns-clause-visited
returns-clause-visited c =
    told_visited c.args.self.now c.args.cells.now.state c.write_ends_in_turn.new.ends c.is_empty-empty.result c.batch_of.result c.width-width.ensures.sound c.requires.below c.requires.single
    c.requires.fits c.requires.quiet c.in_default.ensures (nothing_left c.write_ends_in_turn.new.ends c.literals.result.now c.is_empty-empty.result c.literals.ensures c.is_empty-empty.ensures)
    (c.batch_of.ensures ∙ ap (λ r. Ends (may_follow r && not c.is_empty-empty.result)) c.relation.ensures)
