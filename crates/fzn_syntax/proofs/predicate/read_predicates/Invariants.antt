use Rattle.std.proofs.Common.{◌≡◌, length}
use Rattle.reading.specs.Readers.{many}
use Rattle.reading.proofs.Loops.{with_front}
use Rattle.fzn_words.specs.declared.terminal.Terminal.TheVariants as terminals
use Rattle.fzn_words.specs.Words.{words, is}
use Rattle.fzn_syntax.specs.ItemReading.{predicate_at, predicates_at}
use Rattle.fzn_syntax.proofs.predicate.read_predicates.Given as goal

abbrev pub invariant-more : goal.invariant-more
invariant-more l = with_front l.predicates.items (many (is terminals.Predicate) predicate_at (words l.bytes l.rest)) ≡ predicates_at (words l.bytes l.tokens)

abbrev pub decreases-more : goal.decreases-more
decreases-more l = length l.rest
