-- The first is written, and then the others.
use Rattle.std.proofs.Common.{arith}
use Rattle.std.proofs.lemmas.Result.{on_ok_weaker}
use Rattle.fzn_print.specs.Canonical.{expression_marks}
use Rattle.fzn_print.proofs.Texts.{first_text}
use Rattle.fzn_print.proofs.constraints.write_expressions.Goals as goal

pub returns-in_ok-write_expression-in-len1-up : goal.returns-in_ok-write_expression-in-len1-up
returns-in_ok-write_expression-in-len1-up c =
    on_ok_weaker c.write_other_expressions.result
    (first_text expression_marks c.args.expressions.now c.first-item.result c.first-item.result c.args.out.now.items c.write_expression.new.out.items c.write_other_expressions.new.out.items
    (omega arith) c.first-item.is c.in_ok-write_expression-in-len1-up.ensures)
    c.write_other_expressions.ensures
