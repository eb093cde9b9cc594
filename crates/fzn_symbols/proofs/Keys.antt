-- Where a name stands among keys, each of which gives a name.
use Rattle.std.proofs.Common.{◌≡◌, ℕ, zero, suc, Bool, true, false, not, ◌||◌, cond, List, [], ◌∷◌, ◌++◌, map, get_or, nat_eq, Option, None, Some, is_some, MatchOption, Ok, slice_get, position, refl, sym, ◌∙◌, ap, ◌⊎◌, inl, inr}
use Rattle.std.specs.List.{list_any}
use Rattle.std.specs.Option.{option_map}
use Rattle.std.specs.Cmp.Lexicographic.{pointwise, same_text, bytes_decides}
use Rattle.std.proofs.lemmas.List.{map-append}
use Rattle.std.proofs.lemmas.List.Quantifiers.{position-Some}
use Rattle.std.proofs.lemmas.Option.{slice_get-get_or, slice_get-map}
use Rattle.fzn_symbols.specs.Listed.{IsListed, IsUnlisted}
use Rattle.fzn_symbols.specs.Noted.{IsAdded}

or_false : (a b : Bool) → (a || b) ≡ false → (a ≡ false) × (b ≡ false)
or_false true b e = absurd cc
or_false false b e = (refl, e)

or_true : (a b : Bool) → (a || b) ≡ true → (a ≡ true) ⊎ (b ≡ true)
or_true true b e = inl refl
or_true false b e = inr e

module _ {K : Type 0} (f : K → List ℕ) (n : List ℕ) where
  -- the key gives the name
  abbrev pub tells : K → Bool
  tells k = pointwise nat_eq n (f k)

  told : (k : K) → tells k ≡ true → f k ≡ n
  told k e = sym (same_text n (f k) (sym e))

  tells_it : (k : K) → f k ≡ n → tells k ≡ true
  tells_it k e = (bytes_decides n (f k)).1 (sym e)

  missing_at : (ks : List K) (i : ℕ) → list_any tells ks ≡ false → slice_get (map f ks) i ≡ Some n → ⊥
  missing_at [] i e at = absurd cc
  missing_at (k ∷ ks) zero e at =
      let is : f k ≡ n = cc in
      let tells_so : tells k ≡ true = tells_it k is in
      let tells_not : tells k ≡ false = (or_false (tells k) (list_any tells ks) e).0 in
      absurd cc
  missing_at (k ∷ ks) (suc i) e at = missing_at ks i (or_false (tells k) (list_any tells ks) e).1 at

  -- where no key gives the name, it is unlisted
  pub missing : (ks : List K) → list_any tells ks ≡ false → IsUnlisted (map f ks) n
  missing ks e h = missing_at ks h.0 e h.1

  -- where some key does, it is listed
  pub there : (ks : List K) → list_any tells ks ≡ true → IsListed (map f ks) n
  there [] e = absurd cc
  there (k ∷ ks) e =
      elim (or_true (tells k) (list_any tells ks) e) [
        | inl h ↦ (zero, ap Some (told k h))
        | inr h ↦ (let t = there ks h in (suc t.0, t.1))
      ]

  -- the first key that gives it has its place
  pub place : (ks : List K) (i : ℕ) → position tells ks ≡ Some i → slice_get (map f ks) i ≡ Some n
  place [] i e = absurd cc
  place (k ∷ ks) i e =
      let p = position-Some tells (k ∷ ks) i k e in
      slice_get-map f (k ∷ ks) i ∙ ap (option_map f) (slice_get-get_or (k ∷ ks) i k p.0) ∙ ap Some (told (get_or (k ∷ ks) i k) p.1)

  pub found : (ks : List K) (r : Option ℕ) → r ≡ position tells ks → is_some r ≡ list_any tells ks → MatchOption r (IsUnlisted (map f ks) n) (λ i. slice_get (map f ks) i ≡ Some n)
  found ks None e some = missing ks (sym some)
  found ks (Some i) e some = place ks i (sym e)

  pub added : (k : K) (ks new : List K) (r : Bool) → f k ≡ n → r ≡ not (list_any tells ks)
      → new ≡ cond (list_any tells ks) ks (ks ++ k ∷ []) → IsAdded (map f ks) n (map f new) (Ok (not r))
  added k ks new r is is_new news = by (list_any tells ks) refl is_new news
    where
      by : (b : Bool) → list_any tells ks ≡ b → r ≡ not b → new ≡ cond b ks (ks ++ k ∷ []) → IsAdded (map f ks) n (map f new) (Ok (not r))
      by true e g h = rw g (there ks e, ap (map f) h)
      by false e g h =
          let more : map f new ≡ map f ks ++ n ∷ [] = ap (map f) h ∙ map-append f ks (k ∷ []) ∙ ap (λ (m : List ℕ). map f ks ++ m ∷ []) is in
          rw g (missing ks e, more)
