-- An assignment is feasible exactly where its free values lie in their domains and every constraint, restrictions among them, is met.
use Rattle.std.proofs.Common.{◌≡◌, ℕ, zero, suc, ◌+◌, ◌<◌, ◌≤◌, true, List, [], ◌∷◌, ◌++◌, length, drop, map, refl, sym, subst, arith, Option, Some, None, ℤ}
use Rattle.any_kind.specs.Any.{any_met}
use Rattle.any_kind.specs.declared.any.AnyKind.{AnyKind}
use Rattle.dom_core.specs.Assignment.{entry_at, value_at}
use Rattle.dom_core.specs.Rises.{is_among}
use Rattle.dom_core.specs.declared.set.Set.{Set}
use Rattle.dom_definers.specs.declared.variable.Variable.{Variable}
use Rattle.dom_domains.specs.Allowed.{Allows, EachAllowed, values_of}
use Rattle.dom_domains.specs.Faults.{IsOpen}
use Rattle.dom_domains.specs.Restrictions.{AreRestrictionsFrom, IsRestrictedBy, IsRestriction, set_of}
use Rattle.dom_domains.specs.FreeDomains.{free_domains}
use Rattle.any_kind.specs.Meets.{MeetsEach}
use Rattle.dom_network.specs.Free.{IsTuple, free_from}

-- each free variable is declared with some of the integers
abbrev pub AreClosed : List Variable → List (Option ℕ) → Type 0
AreClosed [] ds = Unit {0}
AreClosed (v ∷ vs) [] = ⊥
AreClosed (v ∷ vs) (None ∷ ds) = (IsOpen v.form v.declared → ⊥) × AreClosed vs ds
AreClosed (v ∷ vs) (Some i ∷ ds) = AreClosed vs ds

-- the values of an assignment from this variable on
entries_from : (a : List ℤ) (n : ℕ) → n < length a → drop n a ≡ entry_at a n ∷ drop (suc n) a
entries_from [] n lt = absurd (omega (arith, lt))
entries_from (x ∷ xs) zero lt = refl
entries_from (x ∷ xs) (suc n) lt = entries_from xs n (omega (arith, lt))

-- nothing is left of a list that ends here
nothing_from : (a : List ℤ) (n : ℕ) → length a ≤ n → drop n a ≡ []
nothing_from [] zero h = refl
nothing_from [] (suc n) h = refl
nothing_from (x ∷ xs) zero h = absurd (omega (arith, h))
nothing_from (x ∷ xs) (suc n) h = nothing_from xs n (omega (arith, h))

pub meets_split : (ks rs : List AnyKind) (a : List ℤ) → MeetsEach (ks ++ rs) a → MeetsEach ks a × MeetsEach rs a
meets_split [] rs a h = (tt, h)
meets_split (k ∷ ks) rs a h = (let rest = meets_split ks rs a h.1 in ((h.0, rest.0), rest.1))

module _ (among : (v : Variable) (x : ℤ) → (IsOpen v.form v.declared → ⊥) → is_among x (values_of v) ≡ true → Allows v x)
    (listed : (v : Variable) (x : ℤ) → (IsOpen v.form v.declared → ⊥) → Allows v x → is_among x (values_of v) ≡ true)
    (restricted : (n : ℕ) (v : Variable) (s : Set) (k : AnyKind) (a : List ℤ) → set_of v ≡ Some s → IsRestriction n s k → any_met k a ≡ true → Allows v (entry_at a n))
    (unrestricted : (v : Variable) (x : ℤ) → set_of v ≡ None → Allows v x) (a : List ℤ) where
  by_restriction : (n : ℕ) (v : Variable) (o : Option Set) (P : List AnyKind → Type 0) (ks : List AnyKind) → set_of v ≡ o → IsRestrictedBy n o P ks → MeetsEach ks a
      → Allows v (entry_at a n) × ((rest : List AnyKind) × P rest × MeetsEach rest a)
  by_restriction n v None P ks e h m = (unrestricted v (entry_at a n) e, (ks, h, m))
  by_restriction n v (Some s) P [] e h m = absurd h
  by_restriction n v (Some s) P (k ∷ ks) e h m = (restricted n v s k a e h.0 m.0, (ks, h.1, m.1))

  -- where free values lie in their domains and restrictions are met, each value is allowed
  pub all_allowed : (n : ℕ) (vs : List Variable) (ds : List (Option ℕ)) (ks : List AnyKind) → n + length vs ≡ length a → length ds ≡ length vs → AreClosed vs ds → AreRestrictionsFrom n vs ds ks
      → MeetsEach ks a → IsTuple (free_domains vs ds) (map (value_at a) (free_from n ds)) → EachAllowed vs (drop n a)
  all_allowed n [] ds ks size whole closed r m t = subst (λ (xs : List ℤ). EachAllowed [] xs) (sym (nothing_from a n (omega (arith, size)))) tt
  all_allowed n (v ∷ vs) [] ks size whole closed r m t = absurd closed
  all_allowed n (v ∷ vs) (None ∷ ds) ks size whole closed r m t =
      subst (λ (xs : List ℤ). EachAllowed (v ∷ vs) xs) (sym (entries_from a n (omega (arith, size))))
      (among v (entry_at a n) closed.0 t.0, all_allowed (suc n) vs ds ks (omega (arith, size)) (omega (arith, whole)) closed.1 r m t.1)
  all_allowed n (v ∷ vs) (Some i ∷ ds) ks size whole closed r m t =
      let own = by_restriction n v (set_of v) (AreRestrictionsFrom (suc n) vs ds) ks refl r m in
      subst (λ (xs : List ℤ). EachAllowed (v ∷ vs) xs) (sym (entries_from a n (omega (arith, size))))
      (own.0, all_allowed (suc n) vs ds own.1.0 (omega (arith, size)) (omega (arith, whole)) closed own.1.1 own.1.2 t)

  -- where each value is allowed, free values lie in their domains
  pub allowed_tuple : (n : ℕ) (vs : List Variable) (ds : List (Option ℕ)) → n + length vs ≡ length a → length ds ≡ length vs → AreClosed vs ds → EachAllowed vs (drop n a)
      → IsTuple (free_domains vs ds) (map (value_at a) (free_from n ds))
  allowed_tuple n [] [] size whole closed h = tt
  allowed_tuple n [] (d ∷ ds) size whole closed h = absurd (omega (arith, whole))
  allowed_tuple n (v ∷ vs) [] size whole closed h = absurd closed
  allowed_tuple n (v ∷ vs) (None ∷ ds) size whole closed h =
      let both = subst (λ (xs : List ℤ). EachAllowed (v ∷ vs) xs) (entries_from a n (omega (arith, size))) h in
      (listed v (entry_at a n) closed.0 both.0, allowed_tuple (suc n) vs ds (omega (arith, size)) (omega (arith, whole)) closed.1 both.1)
  allowed_tuple n (v ∷ vs) (Some i ∷ ds) size whole closed h =
      let both = subst (λ (xs : List ℤ). EachAllowed (v ∷ vs) xs) (entries_from a n (omega (arith, size))) h in
      allowed_tuple (suc n) vs ds (omega (arith, size)) (omega (arith, whole)) closed both.1
