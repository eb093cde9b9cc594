-- Free values that are from their domains.
use Rattle.std.proofs.Common.{◌≡◌, ◌<◌, ◌≤◌, ◌+◌, ◌↔◌, true, List, [], ◌∷◌, ℕ, zero, suc, length, drop, map, get_or, ℤ, sym, ◌∙◌, ap, subst, arith}
use Rattle.std.proofs.lemmas.List.{drop_all, drop_more}
use Rattle.dom_core.specs.Assignment.{value_at}
use Rattle.dom_core.specs.Rises.{is_among}
use Rattle.dom_core.specs.declared.var_id.VarId.{VarId}
use Rattle.dom_network.specs.Free.{IsTuple, free_of}
use Rattle.dom_network.specs.Network.{IsNetwork, Network}
use Rattle.dom_network.proofs.FreeLaws.{domain_count, free_below}
use Rattle.kind_law.specs.Laws.{AllBelow}

below_at : (n : ℕ) (vs : List VarId) (i : ℕ) (d : VarId) → AllBelow n vs → i < length vs → (get_or vs i d).0 < n
below_at n [] i d h lt = absurd (omega (arith, lt))
below_at n (v ∷ vs) zero d h lt = h.0
below_at n (v ∷ vs) (suc i) d h lt = below_at n vs i d h.1 (omega (arith, lt))

module _ (m : Network) (order : List ℕ) (items : List VarId) (i : ℕ) (net : IsNetwork m order) (is_free : items ≡ free_of m.definers) where
  domains_long : length m.domains ≡ length items
  domains_long = domain_count m.hulls (free_of m.definers) m.domains net.domains ∙ sym (ap (λ (us : List VarId). length us) is_free)

  pub free_var_below : (a : List ℤ) (d : VarId) → length a ≡ length m.hulls → i < length items → (get_or items i d).0 < length a
  free_var_below a d whole lt =
      below_at (length a) items i d (subst (λ (us : List VarId). AllBelow (length a) us) (sym is_free) (free_below m.definers (length a) (omega (arith, whole, net.whole)))) lt

  -- where the value at this place is from its domain, those behind it decide
  pub tuple_more : (a : List ℤ) (d : List ℤ) (v : VarId) → i < length items → d ≡ get_or m.domains i d → is_among (value_at a (get_or items i v)) d ≡ true
      → IsTuple (drop i m.domains) (map (value_at a) (drop i (free_of m.definers))) ↔ IsTuple (drop (i + 1) m.domains) (map (value_at a) (drop (i + 1) (free_of m.definers)))
  tuple_more a d v lt there among =
      let long : i < length m.domains = omega (arith, lt, domains_long) in
      let first : drop i m.domains ≡ d ∷ drop (i + 1) m.domains = drop_more m.domains i d long ∙ ap (λ (x : List ℤ). x ∷ drop (i + 1) m.domains) (sym there) in
      let second : drop i items ≡ get_or items i v ∷ drop (i + 1) items = drop_more items i v lt in
      let whole : IsTuple (drop i m.domains) (map (value_at a) (drop i items)) ↔ IsTuple (drop (i + 1) m.domains) (map (value_at a) (drop (i + 1) items)) =
      subst (λ (xs : List (List ℤ)). IsTuple xs (map (value_at a) (drop i items)) ↔ IsTuple (drop (i + 1) m.domains) (map (value_at a) (drop (i + 1) items))) (sym first)
      (subst (λ (us : List VarId). IsTuple (d ∷ drop (i + 1) m.domains) (map (value_at a) us) ↔ IsTuple (drop (i + 1) m.domains) (map (value_at a) (drop (i + 1) items))) (sym second)
      ((λ t. t.1), (λ t. (among, t)))) in
      subst (λ (us : List VarId). IsTuple (drop i m.domains) (map (value_at a) (drop i us)) ↔ IsTuple (drop (i + 1) m.domains) (map (value_at a) (drop (i + 1) us))) is_free whole

  -- nothing is left
  pub tuple_done : (a : List ℤ) → length items ≤ i → IsTuple (drop i m.domains) (map (value_at a) (drop i (free_of m.definers)))
  tuple_done a past =
      let none : drop i m.domains ≡ [] = drop_all i m.domains (omega (arith, past, domains_long)) in
      let none_too : drop i (free_of m.definers) ≡ [] = ap (λ (us : List VarId). drop i us) (sym is_free) ∙ drop_all i items past in
      subst (λ (xs : List (List ℤ)). IsTuple xs (map (value_at a) (drop i (free_of m.definers)))) (sym none)
      (subst (λ (us : List VarId). IsTuple [] (map (value_at a) us)) (sym none_too) tt)
