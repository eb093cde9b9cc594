-- The path of a walk: one node more, one less, and when an edge closes a cycle.
use Rattle.std.proofs.Common.{◌≡◌, inl, inr, ℕ, zero, suc, ◌+◌, ◌-◌, List, [], ◌∷◌, ◌++◌, length, take, get_or, slice_get, Some, sym, ap, ◌∙◌, subst, arith}
use Rattle.std.specs.List.{Contains}
use Rattle.std.proofs.lemmas.List.{take_more, take_all}
use Rattle.std.proofs.lemmas.Option.{slice_get_within, slice_get-get_or, get_or_from_slice_get}
use Rattle.digraph.specs.Cycle.{Leads, Reaches, HasCycle}
use Rattle.digraph.specs.Descent.{IsTop, IsLinked}
use Rattle.digraph.proofs.Places.{one_there, there_left, there_cases}
use Rattle.digraph.proofs.OrderLaws.{place_of}
use Rattle.digraph.proofs.SearchLaws.{reaches_on, reaches_at}

pub linked_push : (graph : List (List ℕ)) (path : List ℕ) (k : ℕ) → IsLinked graph path → ((a : ℕ) → IsTop path a → Leads graph a k) → IsLinked graph (path ++ k ∷ [])
linked_push graph path k linked lead i a b e f =
    elim (there_cases path k b (suc i) f) [
      | inl g ↦ elim (there_cases path k a i e) [
        | inl h ↦ linked i a b h g
        | inr h ↦ absurd (omega (arith, h.0, slice_get_within path (suc i) b g))
      ]
      | inr g ↦ elim (there_cases path k a i e) [
        | inl h ↦ subst (Leads graph a) g.1 (lead a (subst (λ n. slice_get path n ≡ Some a) (omega (arith, g.0)) h))
        | inr h ↦ absurd (omega (arith, h.0, g.0))
      ]
    ]

pub linked_front : (graph : List (List ℕ)) (path : List ℕ) (k : ℕ) → IsLinked graph (path ++ k ∷ []) → IsLinked graph path
linked_front graph path k linked i a b e f = linked i a b (there_left path (k ∷ []) i a e) (there_left path (k ∷ []) (suc i) b f)

pub front_of : (path : List ℕ) (k : ℕ) → IsTop path k → path ≡ take (length path - 1) path ++ k ∷ []
front_of path k top =
    let lt = slice_get_within path (length path - 1) k top in
    sym (take_all (length path - 1 + 1) path (omega arith)) ∙ take_more path (length path - 1) 0 lt
    ∙ ap (λ x. take (length path - 1) path ++ x ∷ []) (get_or_from_slice_get path (length path - 1) k 0 top)

-- from a node on the path each later one is reached
path_reaches : (graph : List (List ℕ)) (path : List ℕ) → IsLinked graph path → (n i a b : ℕ) → slice_get path i ≡ Some a → slice_get path (suc (n + i)) ≡ Some b → Reaches graph a b
path_reaches graph path linked zero i a b e f = reaches_at graph a b (linked i a b e (subst (λ m. slice_get path m ≡ Some b) (omega arith) f))
path_reaches graph path linked (suc n) i a b e f =
    let there : slice_get path (suc (suc (n + i))) ≡ Some b = subst (λ m. slice_get path m ≡ Some b) (omega arith) f in
    let x = get_or path (suc (n + i)) 0 in
    let mid : slice_get path (suc (n + i)) ≡ Some x = slice_get-get_or path (suc (n + i)) 0 (omega (arith, slice_get_within path (suc (suc (n + i))) b there)) in
    reaches_on graph a x b (path_reaches graph path linked n i a x e mid) (linked (suc (n + i)) x b mid there)

-- an edge from the path's end back to the path closes a cycle
pub path_closes : (graph : List (List ℕ)) (path : List ℕ) (a t : ℕ) → IsLinked graph path → IsTop path a → Contains path t → Leads graph a t → HasCycle graph
path_closes graph path a t linked top on leads =
    let there = place_of path t on in
    let lt = slice_get_within path there.0 t there.1 in
    go (length path - 1 - there.0) there.0 (omega arith) there.1
  where
    go : (n i : ℕ) → n + i ≡ length path - 1 → slice_get path i ≡ Some t → HasCycle graph
    go zero i is e = (t, reaches_at graph t t (subst (λ x. Leads graph x t) (one_there path i a t (subst (λ m. slice_get path m ≡ Some a) (omega (arith, is)) top) e) leads))
    go (suc n) i is e = (t, reaches_on graph t a t (path_reaches graph path linked n i t a e (subst (λ m. slice_get path m ≡ Some a) (omega (arith, is)) top)) leads)
