-- The places of declarations by their names.
use Rattle.std.proofs.Common.{◌≡◌, ℕ, zero, suc, ◌+◌, List, [], ◌∷◌, Some, refl, ap, ◌∙◌, arith, inl, inr}
use Rattle.std.specs.Str.{bytes_eq}
use Rattle.std.proofs.lemmas.Bool.{cases_Bool}
use Rattle.std.proofs.lemmas.Slice.Eq.{bytes_eq-Decides}
use Rattle.fzn_syntax.specs.declared.declaration.Declaration.{Declaration}
use Rattle.fzn_symbols.specs.Named.{name_of, names_of, AreDifferent, IsPlaced, IsUndeclared}
use Rattle.fzn_symbols.proofs.Places.{named_at, tail_different}
use Rattle.fzn_check.specs.Places.{places_from, places_of}

-- a name that is not declared has no place
no_places : (k : ℕ) (ds : List Declaration) (n : List ℕ) → IsUndeclared ds n → places_from k ds n ≡ []
no_places k [] n none = refl
no_places k (d ∷ ds) n none =
    elim (cases_Bool (bytes_eq (name_of d) n)) [
      | inl e ↦ absurd (none d (0, refl, (bytes_eq-Decides (name_of d) n).0 e))
      | inr e ↦ rw e (no_places (suc k) ds n (λ other h. none other (suc h.0, h.1, h.2)))
    ]

-- the declarations behind the first of this name are of others
later_are_others : (d : Declaration) (ds : List Declaration) (n : List ℕ) → AreDifferent (names_of (d ∷ ds)) → name_of d ≡ n → IsUndeclared ds n
later_are_others d ds n different is other h =
    let same : 0 ≡ suc h.0 = different 0 (suc h.0) n (ap Some is) (named_at ds n h.0 other h.1 h.2) in
    absurd (omega (arith, same))

-- the place of a name that is declared once
one_place : (k : ℕ) (ds : List Declaration) (n : List ℕ) (j : ℕ) → AreDifferent (names_of ds) → IsPlaced ds n j → places_from k ds n ≡ (k + j) ∷ []
one_place k [] n j different h = absurd cc
one_place k (d ∷ ds) n zero different h =
    let is : name_of d ≡ n = cc in
    let first : k ≡ k + 0 = omega arith in
    rw ((bytes_eq-Decides (name_of d) n).1 is) (ap (λ (ks : List ℕ). k ∷ ks) (no_places (suc k) ds n (later_are_others d ds n different is)) ∙ ap (λ (i : ℕ). i ∷ []) first)
one_place k (d ∷ ds) n (suc j) different h =
    let later : suc k + j ≡ k + suc j = omega arith in
    elim (cases_Bool (bytes_eq (name_of d) n)) [
      | inl e ↦ absurd (later_are_others d ds n different ((bytes_eq-Decides (name_of d) n).0 e) h.0 (j, h.1, h.2))
      | inr e ↦ rw e (one_place (suc k) ds n j (tail_different d ds different) (h.0, h.1, h.2) ∙ ap (λ (i : ℕ). i ∷ []) later)
    ]

pub no_places_of : (ds : List Declaration) (n : List ℕ) → IsUndeclared ds n → places_of ds n ≡ []
no_places_of ds n none = no_places 0 ds n none

pub one_place_of : (ds : List Declaration) (n : List ℕ) (k : ℕ) → AreDifferent (names_of ds) → IsPlaced ds n k → places_of ds n ≡ k ∷ []
one_place_of ds n k different h = let is : 0 + k ≡ k = omega arith in one_place 0 ds n k different h ∙ ap (λ (i : ℕ). i ∷ []) is
