-- The values so far are those of the number, and there is one for each domain.
use Rattle.std.proofs.Common.{◌≡◌, length}
use Rattle.dom_search.proofs.Places.{IsWritten}
use Rattle.dom_search.proofs.tuple.set_tuple.Given as goal

abbrev pub invariant-loop-place : goal.invariant-loop-place
invariant-loop-place l = record {
  written : IsWritten l.model.network.domains l.number l.values l.place l.block l.rest;
  whole : length l.values ≡ length l.model.network.domains;
}
