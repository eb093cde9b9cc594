-- The constraints so far.
use Rattle.std.proofs.Common.{◌≡◌, take}
use Rattle.dom_network.specs.Tables.{reads_of}
use Rattle.dom_network.proofs.tables.reads_of.Given as goal

abbrev pub invariant-loop-kind : goal.invariant-loop-kind
invariant-loop-kind l = record { reads : l.reads ≡ reads_of (take l.kind-index l.constraints) }
