use Rattle.chains.proofs.Follow.{settle_on}
use Rattle.chains.proofs.walk.settle.Goals as goal

pub loop-preserved : goal.loop-preserved
loop-preserved c =
    rw (c.put.ensures, c.next_of-place.ensures, c.link_at.ensures, c.mark_of-mark.ensures)
    (settle_on c.args.links.now c.args.start c.args.walk.count c.args.marks.now c.loop.marks c.loop.place c.loop.counter c.args.walk.end c.requires.end c.requires.within c.loop-test.true c.loop.invariant)
