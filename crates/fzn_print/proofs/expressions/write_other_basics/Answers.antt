-- One thing more is written behind a comma.
use Rattle.fzn_print.specs.Canonical.{basic_marks}
use Rattle.fzn_print.proofs.Texts.{more_text}
use Rattle.fzn_print.proofs.expressions.write_other_basics.Goals as goal

pub loop-basic-preserved : goal.loop-basic-preserved
loop-basic-preserved c =
    more_text basic_marks c.args.basics.now c.loop-basic.basic-index c.basic-item.result c.basic-item.result c.args.out.now.items c.loop-basic.out.items c.write_symbol.new.out.items _
    c.loop-basic-test.true c.basic-item.is c.loop-basic.invariant c.in_ok-write_symbol.ensures c.in_ok-write_basic.ensures
