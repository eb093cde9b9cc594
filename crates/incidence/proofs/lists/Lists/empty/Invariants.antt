-- The lists so far.
use Rattle.std.proofs.Common.{◌≡◌, [], replicate}
use Rattle.incidence.proofs.lists.Lists.empty.Given as goal

abbrev pub invariant-loop-number : goal.invariant-loop-number
invariant-loop-number l = record { empty : l.rows.items ≡ replicate l.number [] }
