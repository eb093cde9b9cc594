-- The places so far are marked by the end.
use Rattle.chains.proofs.Follow.{IsSettling}
use Rattle.chains.proofs.walk.settle.Given as goal

abbrev pub invariant-loop : goal.invariant-loop
invariant-loop l = IsSettling l.links l.fn.start l.fn.walk.count l.fn.marks l.marks l.place l.counter
