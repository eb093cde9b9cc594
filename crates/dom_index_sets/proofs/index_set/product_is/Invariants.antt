-- The sizes so far are multiplied.
use Rattle.std.proofs.Common.{◌≡◌, ◌<◌, take}
use Rattle.dom_index_sets.specs.Sizes.{product_of}
use Rattle.dom_index_sets.proofs.index_set.product_is.Given as goal

abbrev pub invariant-loop-set : goal.invariant-loop-set
invariant-loop-set l = record {
  so_far : l.product ≡ product_of (take l.set-index l.sets);
  small : l.product < 18446744073709551616;
}
