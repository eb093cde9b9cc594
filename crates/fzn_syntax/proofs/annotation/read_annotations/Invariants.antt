use Rattle.std.proofs.Common.{◌≡◌, length}
use Rattle.reading.specs.Readers.{many}
use Rattle.reading.proofs.Loops.{with_front}
use Rattle.fzn_words.specs.declared.terminal.Terminal.TheVariants as terminals
use Rattle.fzn_words.specs.Words.{words, is}
use Rattle.fzn_syntax.specs.ItemReading.{annotation_at, annotations_at}
use Rattle.fzn_syntax.proofs.annotation.read_annotations.Given as goal

abbrev pub invariant-more : goal.invariant-more
invariant-more l = with_front l.annotations.items (many (is terminals.DoubleColon) annotation_at (words l.bytes l.rest)) ≡ annotations_at (words l.bytes l.tokens)

abbrev pub decreases-more : goal.decreases-more
decreases-more l = length l.rest
