-- The labels so far.
use Rattle.std.proofs.Common.{◌≡◌, List, [], ◌∷◌, ◌++◌, ℕ, take}
use Rattle.incidence.proofs.lists.add_labels.Given as goal

abbrev pub invariant-loop-label : goal.invariant-loop-label
invariant-loop-label l = record {
  last : (front : List (List ℕ)) × (row : List ℕ) × (l.packed ≡ front ++ row ∷ []);
  rows : (front : List (List ℕ)) → l.fn.packed ≡ front ++ [] ∷ [] → l.packed ≡ front ++ take l.label-index l.labels ∷ [];
}
