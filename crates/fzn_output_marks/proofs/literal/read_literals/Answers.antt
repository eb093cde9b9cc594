use Rattle.std.proofs.Common.{sym}
use Rattle.reading.specs.Readers.{none}
use Rattle.reading.proofs.Loops.{shorter, goes_on}
use Rattle.fzn_words.specs.declared.terminal.Terminal.TheVariants as terminals
use Rattle.fzn_words.specs.Words.{is}
use Rattle.fzn_output_marks.specs.Reading.{more_literals_at, literals_at}
use Rattle.fzn_output_marks.proofs.Literals.{IsMoreLiteral, literals_loops}
use Rattle.fzn_output_marks.proofs.literal.read_literals.Goals as goal

pub more-smaller : goal.more-smaller
more-smaller c =
    shorter IsMoreLiteral none (is terminals.Comma) more_literals_at literals_loops c.more.rest.now c.in_ok-literal-2.literal c.in_ok-literal-2.after.now c.in_ok-literal-2.ensures

pub more-preserved : goal.more-preserved
more-preserved c =
    rw c.in_ok-push-2.ensures.items
    (goes_on IsMoreLiteral none (is terminals.Comma) more_literals_at literals_loops
    c.more.literals.items c.more.rest.now c.in_ok-literal-2.literal c.in_ok-literal-2.after.now (literals_at c.args.words.now)
    (sym c.more-test.ensures) c.in_ok-literal-2.ensures c.more.invariant)
