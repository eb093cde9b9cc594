use Rattle.std.proofs.Common.{◌≡◌, ◌+◌, ◌-◌, ◌*◌, ◌/◌, arith}
use Rattle.dom_cells.proofs.BitLaws.{down_before, last_found}
use Rattle.dom_cells.proofs.flags.last_set.Goals as goal

pub returns-then-bit-gt0 : goal.returns-then-bit-gt0
returns-then-bit-gt0 c =
    last_found c.args.words.now c.args.count c.args.below c.loop-after.after c.last_bit-bit.result c.loop-after-test.true
    c.loop-after.invariant.within c.requires.below c.loop-after.invariant.down c.last_bit-bit.ensures c.if-bit-gt0.true

pub loop-after-preserved : goal.loop-after-preserved
loop-after-preserved c =
    let start : 64 * ((c.loop-after.after - 1) / 64) + c.last_bit-bit.result ≡ 64 * ((c.loop-after.after - 1) / 64) = omega (arith, c.if-bit-gt0.false) in
    record {
      within = omega arith;
      down = rw start at
          (down_before c.args.words.now c.args.count c.args.below c.loop-after.after c.last_bit-bit.result c.loop-after-test.true
          c.loop-after.invariant.within c.requires.below c.loop-after.invariant.down c.last_bit-bit.ensures);
    }
