use Rattle.std.proofs.Common.{sym}
use Rattle.std.proofs.lemmas.List.{length-map}
use Rattle.reading.proofs.Loops.{shorter, goes_on}
use Rattle.fzn_words.specs.declared.terminal.Terminal.TheVariants as terminals
use Rattle.fzn_words.specs.Words.{words, is}
use Rattle.fzn_syntax.specs.Reading.{more_basics_at, basics_at}
use Rattle.fzn_syntax.proofs.Firsts.{leads}
use Rattle.fzn_syntax.proofs.Expressions.{IsMoreBasic, on_basic, basics_loops}
use Rattle.fzn_syntax.proofs.expression.read_basics.Goals as goal

pub more-smaller : goal.more-smaller
more-smaller c =
    simp length-map at (shorter IsMoreBasic (leads on_basic) (is terminals.Comma) more_basics_at basics_loops (words c.args.bytes.now c.more.rest.now) c.in_ok-basic-2.basic (words c.args.bytes.now c.in_ok-basic-2.after.now) c.in_ok-basic-2.ensures)

pub more-preserved : goal.more-preserved
more-preserved c =
    rw c.in_ok-push-2.ensures.items
    (goes_on IsMoreBasic (leads on_basic) (is terminals.Comma) more_basics_at basics_loops
    c.more.basics.items (words c.args.bytes.now c.more.rest.now) c.in_ok-basic-2.basic (words c.args.bytes.now c.in_ok-basic-2.after.now) (basics_at (words c.args.bytes.now c.args.tokens.now))
    (sym c.more-test.ensures) c.in_ok-basic-2.ensures c.more.invariant)
