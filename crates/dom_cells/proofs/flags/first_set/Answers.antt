use Rattle.std.proofs.Common.{◌≡◌, ◌%◌, ◌≤◌, arith}
use Rattle.dom_cells.proofs.BitLaws.{down_after, first_found, first_none}
use Rattle.dom_cells.proofs.flags.first_set.Goals as goal

pub returns-then-bit-limit : goal.returns-then-bit-limit
returns-then-bit-limit c =
    first_found c.args.words.now c.args.count c.args.from c.loop-at.at c.min-limit.result c.first_bit-bit.result c.loop-at.invariant.after
    (omega arith) (omega arith) c.loop-at.invariant.down c.first_bit-bit.ensures c.if-bit-limit.true

pub loop-at-preserved : goal.loop-at-preserved
loop-at-preserved c =
    let whole : c.first_bit-bit.result ≡ c.min-limit.result = omega (arith, c.first_bit-bit.ensures.within, c.if-bit-limit.false) in
    let after : c.loop-at.at % 64 ≤ c.first_bit-bit.result = c.first_bit-bit.ensures.after in
    record {
      after = omega arith;
      within = omega arith;
      down = rw whole at
          (down_after c.args.words.now c.args.count c.args.from c.loop-at.at c.min-limit.result c.first_bit-bit.result
          (omega arith) (omega arith) c.loop-at.invariant.down c.first_bit-bit.ensures);
    }

pub returns : goal.returns
returns c =
    first_none c.args.words.now c.args.count c.args.from c.loop-at.at c.loop-at.invariant.after
    (omega (arith, c.loop-at.invariant.within, c.loop-at-test.false)) c.loop-at.invariant.down
