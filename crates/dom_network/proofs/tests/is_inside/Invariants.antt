-- The variables so far lie in their hulls.
use Rattle.std.proofs.Common.{◌≡◌, ◌<◌, ℕ, true}
use Rattle.dom_core.specs.Assignment.{entry_at}
use Rattle.dom_core.specs.Ends.{lies_in}
use Rattle.dom_definers.specs.Hulls.{spans}
use Rattle.dom_network.proofs.tests.is_inside.Given as goal

abbrev pub invariant-loop-number : goal.invariant-loop-number
invariant-loop-number l = record { inside : (v : ℕ) → v < l.number → lies_in (entry_at l.a v) (spans l.network.hulls v) ≡ true }
