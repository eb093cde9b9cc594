-- The constraints so far define variables below the count.
use Rattle.std.proofs.Common.{take}
use Rattle.dom_definers.specs.Definers.{DefineBelow}
use Rattle.dom_definers.proofs.tests.are_defined_below.Given as goal

abbrev pub invariant-loop-posted : goal.invariant-loop-posted
invariant-loop-posted l = record { below : DefineBelow l.count (take l.posted-index l.constraints) }
