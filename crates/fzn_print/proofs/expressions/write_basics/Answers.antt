-- The first is written, and then the others.
use Rattle.std.proofs.Common.{arith}
use Rattle.std.proofs.lemmas.Result.{on_ok_weaker}
use Rattle.fzn_print.specs.Canonical.{basic_marks}
use Rattle.fzn_print.proofs.Texts.{first_text}
use Rattle.fzn_print.proofs.expressions.write_basics.Goals as goal

pub returns-in_ok-write_basic-in-len1-up : goal.returns-in_ok-write_basic-in-len1-up
returns-in_ok-write_basic-in-len1-up c =
    on_ok_weaker c.write_other_basics.result
    (first_text basic_marks c.args.basics.now c.first-item.result c.first-item.result c.args.out.now.items c.write_basic.new.out.items c.write_other_basics.new.out.items
    (omega arith) c.first-item.is c.in_ok-write_basic-in-len1-up.ensures)
    c.write_other_basics.ensures
