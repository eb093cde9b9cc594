-- The constraints from this place on are fit.
use Rattle.std.proofs.Common.{◌≤◌, drop, length}
use Rattle.dom_definers.specs.Width.{AreFitFrom}
use Rattle.dom_definers.proofs.tests.are_fit_from.Given as goal

abbrev pub invariant-loop-place : goal.invariant-loop-place
invariant-loop-place l = record {
  within : l.place ≤ length l.constraints;
  fit : AreFitFrom l.count l.place (drop l.place l.constraints) l.definers;
}

abbrev pub decreases-loop-place : goal.decreases-loop-place
decreases-loop-place l = l.place
