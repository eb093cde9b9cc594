-- The declarations so far have small hulls.
use Rattle.std.proofs.Common.{◌<◌, ℕ, slice_get}
use Rattle.dom_definers.specs.Hulls.{IsSmallHull, declared_or_none}
use Rattle.dom_network.proofs.tests.are_small.Given as goal

abbrev pub invariant-loop-variable : goal.invariant-loop-variable
invariant-loop-variable l = record { small : (v : ℕ) → v < l.variable-index → IsSmallHull (declared_or_none (slice_get l.variables v)) }
