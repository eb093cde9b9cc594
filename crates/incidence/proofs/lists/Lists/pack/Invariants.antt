-- The lists so far.
use Rattle.std.proofs.Common.{◌≡◌, take}
use Rattle.incidence.proofs.lists.Lists.pack.Given as goal

abbrev pub invariant-loop-row : goal.invariant-loop-row
invariant-loop-row l = record { packed : l.packed ≡ l.yielded }
