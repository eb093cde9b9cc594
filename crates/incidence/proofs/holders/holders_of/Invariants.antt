-- The rows so far.
use Rattle.incidence.specs.Holders.{Holds, count_up}
use Rattle.incidence.specs.Selection.{AreSelections}
use Rattle.incidence.proofs.holders.holders_of.Given as goal

abbrev pub invariant-loop-place : goal.invariant-loop-place
invariant-loop-place l = record { listed : AreSelections (count_up l.place) (Holds l.rows) l.count l.lists }
