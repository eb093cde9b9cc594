-- Once the number has left the range, the digits behind it cannot bring it back.
use Rattle.std.proofs.Common.{arith}
use Rattle.fzn_lex.proofs.Values.{no_way_back}
use Rattle.fzn_lex.proofs.numbers.value.Goals as goal

pub returns-then-total-gt-GREATEST : goal.returns-then-total-gt-GREATEST
returns-then-total-gt-GREATEST c =
    no_way_back c.args.base c.loop-b.total _ _ c.args.digits.now c.loop-b.b-index 0 c.requires.positive (omega arith) c.loop-b.invariant.same (omega arith)
