-- Orders in which successors come first: one node more, and that no cycle has such an order.
use Rattle.std.proofs.Common.{◌≡◌, inl, inr, ℕ, ◌<◌, List, [], ◌∷◌, ◌++◌, length, take, get_or, slice_get, Some, refl, sym, ◌∙◌, subst, arith}
use Rattle.std.specs.List.{Contains}
use Rattle.std.proofs.lemmas.Bool.{cases_lt}
use Rattle.std.proofs.lemmas.List.{length_push, take-append-le, take_all, get_or_append_left, get_or_push}
use Rattle.std.proofs.lemmas.Option.{slice_get_within, slice_get_read, get_or_from_slice_get}
use Rattle.digraph.specs.Cycle.{Leads, IsPath, IsOnCycle}
use Rattle.digraph.specs.Order.{IsOnce, IsBehind, IsOrder, OrderedIsAcyclic}
use Rattle.digraph.proofs.Places.{there_left, there_last, there_cases, taken}

-- ---- places

-- what a list has stands at a place
pub place_of : (xs : List ℕ) (x : ℕ) → Contains xs x → (i : ℕ) × (slice_get xs i ≡ Some x)
place_of xs x h = (h.0, slice_get_read xs (length xs) h.0 x refl h.1 (sym h.2))

pub contains_at : (xs : List ℕ) (i x : ℕ) → slice_get xs i ≡ Some x → Contains xs x
contains_at xs i x e = (i, slice_get_within xs i x e, get_or_from_slice_get xs i x x e)

-- ---- no entry twice

pub once_push : (xs : List ℕ) (y : ℕ) → IsOnce xs → (Contains xs y → ⊥) → IsOnce (xs ++ y ∷ [])
once_push xs y once new i j x e f =
    elim (there_cases xs y x i e) [
      | inl a ↦ elim (there_cases xs y x j f) [
        | inl b ↦ once i j x a b
        | inr b ↦ absurd (new (contains_at xs i y (subst (λ z. slice_get xs i ≡ Some z) (sym b.1) a)))
      ]
      | inr a ↦ elim (there_cases xs y x j f) [
        | inl b ↦ absurd (new (contains_at xs j y (subst (λ z. slice_get xs j ≡ Some z) (sym a.1) b)))
        | inr b ↦ a.0 ∙ sym b.0
      ]
    ]

pub once_front : (xs : List ℕ) (y : ℕ) → IsOnce (xs ++ y ∷ []) → IsOnce xs
once_front xs y once i j x e f = once i j x (there_left xs (y ∷ []) i x e) (there_left xs (y ∷ []) j x f)

pub once_last : (xs : List ℕ) (y : ℕ) → IsOnce (xs ++ y ∷ []) → Contains xs y → ⊥
once_last xs y once h =
    let there = place_of xs y h in
    let same : there.0 ≡ length xs = once there.0 (length xs) y (there_left xs (y ∷ []) there.0 y there.1) (there_last xs y) in
    absurd (omega (arith, slice_get_within xs there.0 y there.1))

-- ---- behind its successors

pub behind_push : (graph : List (List ℕ)) (order : List ℕ) (k : ℕ) → IsBehind graph order → ((b : ℕ) → Leads graph k b → Contains order b) → IsBehind graph (order ++ k ∷ [])
behind_push graph order k behind all i b lt leads =
    elim (cases_lt i (length order)) [
      | inl below ↦ (let same : get_or (order ++ k ∷ []) i 0 ≡ get_or order i 0 = get_or_append_left order (k ∷ []) 0 i below in
          subst (λ xs. Contains xs b) (sym (take-append-le i order (k ∷ []) (omega arith))) (behind i b below (subst (λ a. Leads graph a b) same leads)))
      | inr past ↦ (let last : i ≡ length order = omega (arith, length_push order k) in
          let top : get_or (order ++ k ∷ []) i 0 ≡ k = get_or_push order k 0 i (sym last) in
          subst (λ xs. Contains xs b) (sym (take-append-le i order (k ∷ []) (omega arith) ∙ take_all i order (omega arith))) (all b (subst (λ a. Leads graph a b) top leads)))
    ]

-- ---- no cycle

path_node : (graph : List (List ℕ)) (a : ℕ) (xs : List ℕ) (b : ℕ) → IsPath graph a xs b → b < length graph
path_node graph a [] b path = path.0
path_node graph a (x ∷ xs) b path = path_node graph x xs b path.1

module _ (graph : List (List ℕ)) (order : List ℕ) (ordered : IsOrder graph order) where
  earlier : (i a b : ℕ) → slice_get order i ≡ Some a → Leads graph a b → (j : ℕ) × (j < i) × (slice_get order j ≡ Some b)
  earlier i a b e leads =
      let lt = slice_get_within order i a e in
      let at : get_or order i 0 ≡ a = get_or_from_slice_get order i a 0 e in
      let there = place_of (take i order) b (ordered.behind i b lt (subst (λ x. Leads graph x b) (sym at) leads)) in
      taken order i there.0 b there.1

  path_earlier : (i a : ℕ) (xs : List ℕ) (b : ℕ) → slice_get order i ≡ Some a → IsPath graph a xs b → (j : ℕ) × (j < i) × (slice_get order j ≡ Some b)
  path_earlier i a [] b e path = earlier i a b e path
  path_earlier i a (x ∷ xs) b e path =
      let next = earlier i a x e path.0 in
      let rest = path_earlier next.0 x xs b next.2 path.1 in
      (rest.0, omega (arith, next.1, rest.1), rest.2)

  acyclic_at : (k : ℕ) → IsOnCycle graph k → ⊥
  acyclic_at k cycle =
      let node = path_node graph k cycle.0 k cycle.1 in
      let there = place_of order k (ordered.whole k node) in
      let before = path_earlier there.0 k cycle.0 k there.1 cycle.1 in
      let same : before.0 ≡ there.0 = ordered.once before.0 there.0 k before.2 there.1 in
      absurd (omega (arith, before.1))

pub ordered_acyclic : OrderedIsAcyclic
ordered_acyclic graph order ordered k cycle = acyclic_at graph order ordered k cycle
