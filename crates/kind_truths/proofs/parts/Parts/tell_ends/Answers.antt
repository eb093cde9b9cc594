use Rattle.std.proofs.Common.{length, subst, sym}
use Rattle.dom_cells.specs.Box.{cell_of}
use Rattle.kind_law.specs.Laws.{AllBelow}
use Rattle.kind_truths.proofs.PlanLaws.{all_vars, told_batch}
use Rattle.kind_truths.proofs.parts.Parts.tell_ends.Goals as goal
use Rattle.kind_law.proofs.VisitLaws.{nothing_left}

pub write_ends_in_turn-requires-clause-below : goal.write_ends_in_turn-requires-clause-below
write_ends_in_turn-requires-clause-below c = subst (AllBelow (length c.args.cells.now.state.starts)) (sym (all_vars c.args.self.now)) c.requires.aimed.below

pub returns-clause-visited : goal.returns-clause-visited
returns-clause-visited c =
    told_batch c.args.self.now (cell_of c.args.cells.now.state) (length c.args.cells.now.state.starts) c.write_ends_in_turn.new.ends c.is_empty.result c.requires.quiet c.in_default.ensures.ends
    (nothing_left c.write_ends_in_turn.new.ends c.literals.result.now c.is_empty.result c.literals.ensures c.is_empty.ensures)
