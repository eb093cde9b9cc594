use Rattle.std.proofs.Common.{◌≡◌, length}
use Rattle.reading.specs.Machine.{run}
use Rattle.reading.proofs.Loops.{with_front}
use Rattle.fzn_words.specs.Words.{words}
use Rattle.fzn_syntax.specs.Balance.{around_step, body_at}
use Rattle.fzn_syntax.proofs.balance.read_body.Given as goal

abbrev pub invariant-words : goal.invariant-words
invariant-words l = with_front l.flat.items (run around_step l.balance (words l.bytes l.rest)) ≡ body_at (words l.bytes l.tokens)

abbrev pub decreases-words : goal.decreases-words
decreases-words l = length l.rest
