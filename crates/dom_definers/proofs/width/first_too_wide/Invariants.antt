-- The first of those that are left is the first of all.
use Rattle.std.proofs.Common.{◌≡◌, drop, length}
use Rattle.dom_definers.specs.Definers.{DefineBelow}
use Rattle.dom_definers.specs.Width.{AreFitFrom, wide_from}
use Rattle.dom_definers.proofs.width.first_too_wide.Given as goal

abbrev pub invariant-loop-place : goal.invariant-loop-place
invariant-loop-place l = record {
  left : wide_from l.place (drop l.place l.constraints) l.definers l.hulls ≡ wide_from 0 l.constraints l.definers l.hulls;
  below : DefineBelow (length l.hulls) (drop l.place l.constraints);
  fit : AreFitFrom (length l.hulls) l.place (drop l.place l.constraints) l.definers;
}
