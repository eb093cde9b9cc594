-- The hulls of the nodes so far.
use Rattle.std.proofs.Common.{◌≡◌, ◌<◌, ℕ, length, slice_index}
use Rattle.dom_definers.specs.Hulls.{AreSmallHulls, IsHull}
use Rattle.dom_definers.proofs.solving.hulls_of.Given as goal

abbrev pub invariant-loop-node : goal.invariant-loop-node
invariant-loop-node l = record {
  size : length l.hulls ≡ length l.variables;
  small : AreSmallHulls l.hulls;
  found : (k : ℕ) → k < l.node-index → IsHull l.variables l.constraints l.definers l.hulls (slice_index l.order k);
}
