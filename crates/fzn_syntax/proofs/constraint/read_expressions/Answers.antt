use Rattle.std.proofs.Common.{sym}
use Rattle.std.proofs.lemmas.List.{length-map}
use Rattle.reading.proofs.Loops.{shorter, goes_on}
use Rattle.fzn_words.specs.declared.terminal.Terminal.TheVariants as terminals
use Rattle.fzn_words.specs.Words.{words, is}
use Rattle.fzn_syntax.specs.ItemReading.{more_expressions_at, expressions_at}
use Rattle.fzn_syntax.proofs.Firsts.{leads}
use Rattle.fzn_syntax.proofs.Expressions.{on_basic}
use Rattle.fzn_syntax.proofs.ItemLaws.{IsMoreExpression, expression_loops}
use Rattle.fzn_syntax.proofs.constraint.read_expressions.Goals as goal

pub more-smaller : goal.more-smaller
more-smaller c =
    simp length-map at (shorter IsMoreExpression (leads on_basic) (is terminals.Comma) more_expressions_at expression_loops (words c.args.bytes.now c.more.rest.now) c.in_ok-expression-2.expression
    (words c.args.bytes.now c.in_ok-expression-2.after.now) c.in_ok-expression-2.ensures)

pub more-preserved : goal.more-preserved
more-preserved c =
    rw c.in_ok-push-2.ensures.items
    (goes_on IsMoreExpression (leads on_basic) (is terminals.Comma) more_expressions_at expression_loops c.more.expressions.items (words c.args.bytes.now c.more.rest.now) c.in_ok-expression-2.expression
    (words c.args.bytes.now c.in_ok-expression-2.after.now) (expressions_at (words c.args.bytes.now c.args.tokens.now)) (sym c.more-test.ensures) c.in_ok-expression-2.ensures c.more.invariant)
