use Rattle.std.proofs.Common.{sym}
use Rattle.std.proofs.lemmas.List.{length-map}
use Rattle.reading.specs.Readers.{none}
use Rattle.reading.proofs.Loops.{shorter, goes_on}
use Rattle.fzn_words.specs.declared.terminal.Terminal.TheVariants as terminals
use Rattle.fzn_words.specs.Words.{words, is}
use Rattle.fzn_syntax.specs.ItemReading.{constraint_at, constraints_at}
use Rattle.fzn_syntax.specs.Items.{IsConstraint}
use Rattle.fzn_syntax.proofs.ItemLaws.{constraint_loops}
use Rattle.fzn_syntax.proofs.constraint.read_constraints.Goals as goal

pub more-smaller : goal.more-smaller
more-smaller c =
    simp length-map at (shorter IsConstraint none (is terminals.Constraint) constraint_at constraint_loops (words c.args.bytes.now c.more.rest.now) c.in_ok-constraint.constraint
    (words c.args.bytes.now c.in_ok-constraint.after.now) c.in_ok-constraint.ensures)

pub more-preserved : goal.more-preserved
more-preserved c =
    rw c.in_ok-push.ensures.items
    (goes_on IsConstraint none (is terminals.Constraint) constraint_at constraint_loops c.more.constraints.items (words c.args.bytes.now c.more.rest.now) c.in_ok-constraint.constraint
    (words c.args.bytes.now c.in_ok-constraint.after.now) (constraints_at (words c.args.bytes.now c.args.tokens.now)) (sym c.more-test.ensures) c.in_ok-constraint.ensures c.more.invariant)
