-- The interval so far, widened by the values that are left, is the whole.
use Rattle.std.proofs.Common.{◌≡◌, drop}
use Rattle.dom_definers.specs.Variable.{widened}
use Rattle.dom_core.specs.Ends.{only}
use Rattle.dom_definers.proofs.declared.widened.Given as goal

abbrev pub invariant-loop-value : goal.invariant-loop-value
invariant-loop-value l = record { hull : widened l.hull (drop l.value-index l.rest) ≡ widened (only l.first) l.rest }
