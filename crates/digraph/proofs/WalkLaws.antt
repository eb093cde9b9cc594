-- A walk that meets no cycle is no longer than the graph.
use Rattle.std.proofs.Common.{◌≡◌, inl, inr, ℕ, ◌<◌, ◌≤◌, true, false, List, [], ◌∷◌, ◌++◌, length, sym, subst}
use Rattle.std.specs.Prelude.{◌==◌}
use Rattle.std.specs.List.{AllByRecursion, IsDistinct, list_any}
use Rattle.std.proofs.lemmas.Bool.{cases_Bool, eqb-true}
use Rattle.std.proofs.lemmas.Map.Steps.{length-le_from_distinct_below}
use Rattle.digraph.specs.Cycle.{Leads, IsPath, Reaches, IsOnCycle}

-- one edge after the other, from this node through these
abbrev pub IsWalk : List (List ℕ) → ℕ → List ℕ → Type 0
IsWalk graph a [] = Unit {0}
IsWalk graph a (x ∷ xs) = Leads graph a x × IsWalk graph x xs

-- the node is one of the graph, and lies on no cycle
abbrev pub IsOffCycles : List (List ℕ) → ℕ → Type 0
IsOffCycles graph x = (x < length graph) × (IsOnCycle graph x → ⊥)

module _ (graph : List (List ℕ)) where
  path_more : (a : ℕ) (xs : List ℕ) (b c : ℕ) → IsPath graph a xs b → Leads graph b c → IsPath graph a (xs ++ b ∷ []) c
  path_more a [] b c p l = (p, l)
  path_more a (x ∷ xs) b c p l = (p.0, path_more x xs b c p.1 l)

  differs : (x y : ℕ) → Reaches graph x y → (IsOnCycle graph x → ⊥) → (x == y) ≡ false
  differs x y r off =
      elim (cases_Bool (x == y)) [
        | inl e ↦ absurd (off (subst (λ z. Reaches graph x z) (sym (eqb-true x y e)) r))
        | inr e ↦ e
      ]

  -- a node off the cycles is none of those that it reaches
  reached_differ : (x y : ℕ) (zs : List ℕ) → Reaches graph x y → IsWalk graph y zs → (IsOnCycle graph x → ⊥) → AllByRecursion (λ z. (x == z) ≡ false) (y ∷ zs)
  reached_differ x y [] r w off = (differs x y r off, tt)
  reached_differ x y (z ∷ zs) r w off = (differs x y r off, reached_differ x z zs (r.0 ++ y ∷ [], path_more x r.0 y z r.1 w.0) w.1 off)

  walked_differ : (x : ℕ) (zs : List ℕ) → IsWalk graph x zs → (IsOnCycle graph x → ⊥) → AllByRecursion (λ z. (x == z) ≡ false) zs
  walked_differ x [] w off = tt
  walked_differ x (z ∷ zs) w off = reached_differ x z zs ([], w.0) w.1 off

  walk_distinct : (a : ℕ) (xs : List ℕ) → IsWalk graph a xs → AllByRecursion (IsOffCycles graph) xs → IsDistinct (λ x y. x == y) xs
  unfolding IsDistinct
  walk_distinct a [] w off = tt
  walk_distinct a (x ∷ xs) w off = (walked_differ x xs w.1 off.0.1, walk_distinct x xs w.1 off.1)

  walk_within : (xs : List ℕ) → AllByRecursion (IsOffCycles graph) xs → (q : ℕ) → list_any (λ x. q == x) xs ≡ true → q < length graph
  walk_within [] off q found = absurd cc
  walk_within (x ∷ xs) off q found =
      elim (cases_Bool (q == x)) [
        | inl e ↦ subst (λ z. z < length graph) (sym (eqb-true q x e)) off.0.0
        | inr e ↦ walk_within xs off.1 q (rw e at found)
      ]

  -- a walk through nodes off the cycles has at most as many as there are
  pub walk_bounded : (a : ℕ) (xs : List ℕ) → IsWalk graph a xs → AllByRecursion (IsOffCycles graph) xs → length xs ≤ length graph
  walk_bounded a xs w off = length-le_from_distinct_below xs (length graph) (walk_distinct a xs w off) (walk_within xs off)
