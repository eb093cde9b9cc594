use Rattle.std.proofs.Common.{◌≡◌, length}
use Rattle.reading.specs.Readers.{many}
use Rattle.reading.proofs.Loops.{with_front}
use Rattle.fzn_words.specs.Words.{words}
use Rattle.fzn_syntax.specs.ItemReading.{declaration_at, declarations_at, leads_declaration}
use Rattle.fzn_syntax.proofs.declaration.read_declarations.Given as goal

abbrev pub invariant-more : goal.invariant-more
invariant-more l = with_front l.declarations.items (many leads_declaration declaration_at (words l.bytes l.rest)) ≡ declarations_at (words l.bytes l.tokens)

abbrev pub decreases-more : goal.decreases-more
decreases-more l = length l.rest
