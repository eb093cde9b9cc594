-- The constraints from this place on are put.
use Rattle.std.proofs.Common.{◌≡◌, ◌≤◌, ◌<◌, ℕ, drop, length}
use Rattle.dom_definers.specs.Definers.{definer_at, definer_from}
use Rattle.dom_definers.proofs.definers.definers_of.Given as goal

abbrev pub invariant-loop-place : goal.invariant-loop-place
invariant-loop-place l = record {
  within : l.place ≤ length l.constraints;
  whole : length l.definers.items ≡ l.count;
  put : (v : ℕ) → v < l.count → definer_at l.definers.items v ≡ definer_from l.place (drop l.place l.constraints) v;
}

abbrev pub decreases-loop-place : goal.decreases-loop-place
decreases-loop-place l = l.place
