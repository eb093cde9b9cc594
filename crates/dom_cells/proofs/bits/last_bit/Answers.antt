use Rattle.dom_cells.proofs.BitLaws.{low_mask, no_last_bit, last_bit_is}
use Rattle.dom_cells.proofs.bits.last_bit.Goals as goal

pub returns-then-rest-eq0 : goal.returns-then-rest-eq0
returns-then-rest-eq0 c =
    no_last_bit c.args.word c.args.below (rw (low_mask c.args.word c.args.below c.requires.below) at c.if-rest-eq0.true)

pub returns : goal.returns
returns c =
    last_bit_is c.args.word c.args.below c.ilog2.result
    (rw (low_mask c.args.word c.args.below c.requires.below) at c.ilog2.ensures.power_le)
    (rw (low_mask c.args.word c.args.below c.requires.below) at c.ilog2.ensures.next_power_gt)
