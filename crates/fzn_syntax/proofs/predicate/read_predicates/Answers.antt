use Rattle.std.proofs.Common.{sym}
use Rattle.std.proofs.lemmas.List.{length-map}
use Rattle.reading.specs.Readers.{none}
use Rattle.reading.proofs.Loops.{shorter, goes_on}
use Rattle.fzn_words.specs.declared.terminal.Terminal.TheVariants as terminals
use Rattle.fzn_words.specs.Words.{words, is}
use Rattle.fzn_syntax.specs.ItemReading.{predicate_at, predicates_at}
use Rattle.fzn_syntax.specs.Items.{IsPredicate}
use Rattle.fzn_syntax.proofs.ItemLaws.{predicate_loops}
use Rattle.fzn_syntax.proofs.predicate.read_predicates.Goals as goal

pub more-smaller : goal.more-smaller
more-smaller c =
    simp length-map at (shorter IsPredicate none (is terminals.Predicate) predicate_at predicate_loops (words c.args.bytes.now c.more.rest.now) c.in_ok-predicate.predicate
    (words c.args.bytes.now c.in_ok-predicate.after.now) c.in_ok-predicate.ensures)

pub more-preserved : goal.more-preserved
more-preserved c =
    rw c.in_ok-push.ensures.items
    (goes_on IsPredicate none (is terminals.Predicate) predicate_at predicate_loops c.more.predicates.items (words c.args.bytes.now c.more.rest.now) c.in_ok-predicate.predicate
    (words c.args.bytes.now c.in_ok-predicate.after.now) (predicates_at (words c.args.bytes.now c.args.tokens.now)) (sym c.more-test.ensures) c.in_ok-predicate.ensures c.more.invariant)
