use Rattle.std.proofs.Common.{◌≡◌, length}
use Rattle.reading.specs.Readers.{many}
use Rattle.reading.proofs.Loops.{with_front}
use Rattle.fzn_words.specs.declared.terminal.Terminal.TheVariants as terminals
use Rattle.fzn_words.specs.Words.{is}
use Rattle.fzn_output_marks.specs.Reading.{more_literals_at, literals_at}
use Rattle.fzn_output_marks.proofs.literal.read_literals.Given as goal

abbrev pub invariant-more : goal.invariant-more
invariant-more l = with_front l.literals.items (many (is terminals.Comma) more_literals_at l.rest) ≡ literals_at l.words

abbrev pub decreases-more : goal.decreases-more
decreases-more l = length l.rest
