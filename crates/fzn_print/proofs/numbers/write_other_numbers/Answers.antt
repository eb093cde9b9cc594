-- One thing more is written behind a comma.
use Rattle.fzn_print.specs.Canonical.{number_marks}
use Rattle.fzn_print.proofs.Texts.{more_text}
use Rattle.fzn_print.proofs.numbers.write_other_numbers.Goals as goal

pub loop-number-preserved : goal.loop-number-preserved
loop-number-preserved c =
    more_text number_marks c.args.numbers.now c.loop-number.number-index c.number-item.result c.number-item.result c.args.out.now.items c.loop-number.out.items c.write_symbol.new.out.items _
    c.loop-number-test.true c.number-item.is c.loop-number.invariant c.in_ok-write_symbol.ensures c.in_ok-write_number.ensures
