use Rattle.std.proofs.Common.{arith}
use Rattle.dom_cells.proofs.BitLaws.{no_first_bit, first_bit_is}
use Rattle.dom_cells.proofs.bits.first_bit.Goals as goal

pub returns-then-rest-eq0 : goal.returns-then-rest-eq0
returns-then-rest-eq0 c = no_first_bit c.args.word c.args.from c.args.limit c.requires.from c.if-rest-eq0.true

pub returns : goal.returns
returns c =
    first_bit_is c.args.word c.args.from c.args.limit c.min.result c.requires.from (omega (arith, c.if-rest-eq0.false))
    (omega (arith, c.ranges.word.fits)) c.min.ensures
