-- One thing more is written behind a comma.
use Rattle.fzn_print.specs.Canonical.{expression_marks}
use Rattle.fzn_print.proofs.Texts.{more_text}
use Rattle.fzn_print.proofs.constraints.write_other_expressions.Goals as goal

pub loop-expression-preserved : goal.loop-expression-preserved
loop-expression-preserved c =
    more_text expression_marks c.args.expressions.now c.loop-expression.expression-index c.expression-item.result c.expression-item.result c.args.out.now.items c.loop-expression.out.items c.write_symbol.new.out.items _
    c.loop-expression-test.true c.expression-item.is c.loop-expression.invariant c.in_ok-write_symbol.ensures c.in_ok-write_expression.ensures
