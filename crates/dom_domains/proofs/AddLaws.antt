-- Restrictions that are added one by one.
use Rattle.std.proofs.Common.{◌≡◌, ℕ, suc, ◌+◌, ◌<◌, ◌≤◌, List, [], ◌∷◌, ◌++◌, length, drop, get_or, refl, sym, ◌∙◌, ap, subst, arith, add-one, Option, Some, None}
use Rattle.std.proofs.lemmas.List.{append-nil, append_assoc, drop_all, drop_more}
use Rattle.any_kind.specs.declared.any.AnyKind.{AnyKind}
use Rattle.dom_core.specs.declared.set.Set.{Set}
use Rattle.dom_core.proofs.ListLaws.{append_push}
use Rattle.dom_definers.specs.Definers.{definer_at}
use Rattle.dom_definers.specs.declared.variable.Variable.{Variable}
use Rattle.dom_domains.specs.Restrictions.{AddsRestriction, AddsRestrictions, AreRestrictions, AreRestrictionsFrom, IsRestrictedBy, restricting_set}

-- restrictions stand behind the old constraints, and with any restrictions of the variables from this number on behind them they are those of all
pub record IsAdded (vs : List Variable) (ds : List (Option ℕ)) (n : ℕ) (old new : List AnyKind) : Type 0 where
  pub so_far : List AnyKind
  pub behind : new ≡ old ++ so_far
  pub whole : (rest : List AnyKind) → AreRestrictionsFrom n (drop n vs) (drop n ds) rest → AreRestrictions vs ds (so_far ++ rest)

pub none_added : (vs : List Variable) (ds : List (Option ℕ)) (old : List AnyKind) → IsAdded vs ds 0 old old
none_added vs ds old = record { so_far = []; behind = sym (append-nil old); whole = λ rest h. h }

drop_next : {A : Type 0} (xs : List A) (n : ℕ) (d : A) → n < length xs → drop n xs ≡ get_or xs n d ∷ drop (suc n) xs
drop_next xs n d lt = drop_more xs n d lt ∙ ap (λ (j : ℕ). get_or xs n d ∷ drop j xs) (add-one n)

module _ (vs : List Variable) (ds : List (Option ℕ)) (n : ℕ) (v : Variable) (lt : n < length vs) (whole : length ds ≡ length vs) (is : v ≡ get_or vs n v) where
  -- the restrictions from this variable on are its own and those of the later ones
  from_here : (ks : List AnyKind) → IsRestrictedBy n (restricting_set v (definer_at ds n)) (AreRestrictionsFrom (suc n) (drop (suc n) vs) (drop (suc n) ds)) ks → AreRestrictionsFrom n (drop n vs) (drop n ds) ks
  from_here ks h =
      let first : v ∷ drop (suc n) vs ≡ drop n vs = sym (drop_next vs n v lt ∙ ap (λ (w : Variable). w ∷ drop (suc n) vs) (sym is)) in
      let second : definer_at ds n ∷ drop (suc n) ds ≡ drop n ds = sym (drop_next ds n None (omega (arith, lt, whole))) in
      subst (λ (es : List (Option ℕ)). AreRestrictionsFrom n (drop n vs) es ks) second
      (subst (λ (ws : List Variable). AreRestrictionsFrom n ws (definer_at ds n ∷ drop (suc n) ds) ks) first h)

  next_by : (s : Option Set) (old so new : List AnyKind) → restricting_set v (definer_at ds n) ≡ s → IsAdded vs ds n old so → AddsRestriction n s so new → IsAdded vs ds (suc n) old new
  next_by None old so new e a h = record {
    so_far = a.so_far;
    behind = h ∙ a.behind;
    whole = λ rest g. a.whole rest (from_here rest (subst (λ (t : Option Set). IsRestrictedBy n t (AreRestrictionsFrom (suc n) (drop (suc n) vs) (drop (suc n) ds)) rest) (sym e) g));
  }
  next_by (Some s) old so new e a h = record {
    so_far = a.so_far ++ h.0 ∷ [];
    behind = h.2 ∙ ap (λ (ks : List AnyKind). ks ++ h.0 ∷ []) a.behind ∙ append_assoc old a.so_far (h.0 ∷ []);
    whole = λ rest g. subst (AreRestrictions vs ds) (sym (append_push a.so_far h.0 rest)) (a.whole (h.0 ∷ rest)
        (from_here (h.0 ∷ rest) (subst (λ (t : Option Set). IsRestrictedBy n t (AreRestrictionsFrom (suc n) (drop (suc n) vs) (drop (suc n) ds)) (h.0 ∷ rest)) (sym e) (h.1, g))));
  }

  pub next_added : (s : Option Set) (old so new : List AnyKind) → s ≡ restricting_set v (definer_at ds n) → IsAdded vs ds n old so → AddsRestriction n s so new → IsAdded vs ds (n + 1) old new
  next_added s old so new e a h = subst (λ (j : ℕ). IsAdded vs ds j old new) (sym (add-one n)) (next_by s old so new (sym e) a h)

pub all_added : (vs : List Variable) (ds : List (Option ℕ)) (n : ℕ) (old new : List AnyKind) → length vs ≤ n → IsAdded vs ds n old new → AddsRestrictions vs ds old new
all_added vs ds n old new past a = record {
  restrictions = a.so_far;
  are_restrictions = subst (AreRestrictions vs ds) (append-nil a.so_far)
      (a.whole [] (subst (λ (ws : List Variable). AreRestrictionsFrom n ws (drop n ds) []) (sym (drop_all n vs past)) refl));
  behind = a.behind;
}
