use Rattle.std.proofs.Common.{sym}
use Rattle.std.proofs.lemmas.List.{length-map}
use Rattle.reading.specs.Readers.{none}
use Rattle.reading.proofs.Loops.{shorter, goes_on}
use Rattle.fzn_words.specs.declared.terminal.Terminal.TheVariants as terminals
use Rattle.fzn_words.specs.Words.{words, is}
use Rattle.fzn_syntax.specs.Reading.{more_numbers_at, numbers_at}
use Rattle.fzn_syntax.proofs.Types.{IsMoreNumber, numbers_loops}
use Rattle.fzn_syntax.proofs.number.read_numbers.Goals as goal

pub more-smaller : goal.more-smaller
more-smaller c =
    simp length-map at (shorter IsMoreNumber none (is terminals.Comma) more_numbers_at numbers_loops (words c.args.bytes.now c.more.rest.now) c.in_ok-number-2.number (words c.args.bytes.now c.in_ok-number-2.after.now) c.in_ok-number-2.ensures)

pub more-preserved : goal.more-preserved
more-preserved c =
    rw c.in_ok-push-2.ensures.items
    (goes_on IsMoreNumber none (is terminals.Comma) more_numbers_at numbers_loops
    c.more.numbers.items (words c.args.bytes.now c.more.rest.now) c.in_ok-number-2.number (words c.args.bytes.now c.in_ok-number-2.after.now) (numbers_at (words c.args.bytes.now c.args.tokens.now))
    (sym c.more-test.ensures) c.in_ok-number-2.ensures c.more.invariant)
