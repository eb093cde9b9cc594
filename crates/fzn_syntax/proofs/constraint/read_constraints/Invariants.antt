use Rattle.std.proofs.Common.{◌≡◌, length}
use Rattle.reading.specs.Readers.{many}
use Rattle.reading.proofs.Loops.{with_front}
use Rattle.fzn_words.specs.declared.terminal.Terminal.TheVariants as terminals
use Rattle.fzn_words.specs.Words.{words, is}
use Rattle.fzn_syntax.specs.ItemReading.{constraint_at, constraints_at}
use Rattle.fzn_syntax.proofs.constraint.read_constraints.Given as goal

abbrev pub invariant-more : goal.invariant-more
invariant-more l = with_front l.constraints.items (many (is terminals.Constraint) constraint_at (words l.bytes l.rest)) ≡ constraints_at (words l.bytes l.tokens)

abbrev pub decreases-more : goal.decreases-more
decreases-more l = length l.rest
