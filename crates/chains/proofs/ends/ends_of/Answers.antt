use Rattle.std.proofs.Common.{arith}
use Rattle.std.proofs.lemmas.List.{length-replicate}
use Rattle.chains.specs.declared.marks.Mark.TheVariants.{Unseen}
use Rattle.chains.proofs.Follow.{begin_right, all_ends}
use Rattle.chains.proofs.ends.ends_of.Goals as goal

pub loop-start-init : goal.loop-start-init
loop-start-init c = rw c.in_ok-marks.ensures (record {
  size = length-replicate _ Unseen;
  right = begin_right c.args.links.now;
  seen = λ k lt. absurd (omega (arith, lt));
})

pub returns : goal.returns
returns c = all_ends c.args.links.now c.loop-start.marks c.loop-start.start c.loop-start-test.false c.loop-start.invariant.size c.loop-start.invariant.right c.loop-start.invariant.seen
