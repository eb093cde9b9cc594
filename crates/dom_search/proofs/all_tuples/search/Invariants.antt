-- The best that completes one of the tuples so far is kept.
use Rattle.std.proofs.Common.{◌≡◌, length, true}
use Rattle.dom_network.specs.Completion.{AreInHulls}
use Rattle.dom_search.specs.Progress.{IsBestSoFar}
use Rattle.dom_search.proofs.all_tuples.search.Given as goal

abbrev pub invariant-loop-number : goal.invariant-loop-number
invariant-loop-number l = record {
  so_far : IsBestSoFar l.model l.number l.found l.best;
  inside : l.found ≡ true → AreInHulls l.model.network.hulls l.best;
  best_whole : length l.best ≡ length l.model.variables;
  candidate_whole : length l.candidate ≡ length l.model.variables;
  values_whole : length l.values.items ≡ length l.model.network.domains;
}
