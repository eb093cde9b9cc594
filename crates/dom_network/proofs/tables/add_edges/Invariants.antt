-- The edges so far.
use Rattle.std.proofs.Common.{◌≡◌, List, [], ◌∷◌, ◌++◌, ℕ, take}
use Rattle.dom_definers.specs.Definers.{numbers}
use Rattle.dom_network.proofs.tables.add_edges.Given as goal

abbrev pub invariant-loop-var : goal.invariant-loop-var
invariant-loop-var l = record {
  last : (front : List (List ℕ)) × (row : List ℕ) × (l.graph ≡ front ++ row ∷ []);
  rows : (front : List (List ℕ)) → l.fn.graph ≡ front ++ [] ∷ [] → l.graph ≡ front ++ numbers (take l.var-index l.reads) ∷ [];
}
