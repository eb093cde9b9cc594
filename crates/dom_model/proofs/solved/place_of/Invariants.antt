-- The first of the terms that are left is the first of all.
use Rattle.std.proofs.Common.{◌≡◌, drop}
use Rattle.dom_model.specs.Solved.{place_from}
use Rattle.dom_model.proofs.solved.place_of.Given as goal

abbrev pub invariant-loop-place : goal.invariant-loop-place
invariant-loop-place l = record { left : place_from l.place l.var (drop l.place l.terms) ≡ place_from 0 l.var l.terms }
