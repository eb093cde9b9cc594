-- The places so far are marked, and lead here.
use Rattle.std.proofs.Common.{◌≡◌, ◌-◌, length}
use Rattle.chains.proofs.Follow.{IsWalking}
use Rattle.chains.proofs.walk.trace.Given as goal

abbrev pub invariant-walk : goal.invariant-walk
invariant-walk l = record {
  walking : IsWalking l.links l.fn.start l.fn.marks l.marks l.place l.count;
  size : l.size ≡ length l.fn.marks;
}

abbrev pub decreases-walk : goal.decreases-walk
decreases-walk l = l.size - l.count
