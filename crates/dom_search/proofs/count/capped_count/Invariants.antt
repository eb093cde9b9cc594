-- The number of tuples of the domains so far, cut off at the limit.
use Rattle.std.proofs.Common.{◌≡◌, min, take}
use Rattle.dom_network.specs.Free.{tuple_count_of}
use Rattle.dom_search.proofs.count.capped_count.Given as goal

abbrev pub invariant-loop-place : goal.invariant-loop-place
invariant-loop-place l = record { so_far : l.count ≡ min (tuple_count_of (take l.place l.model.network.domains)) 1000001 }
