-- The places of the free variables.
use Rattle.std.proofs.Common.{◌≡◌, ◌<◌, ◌≤◌, ◌+◌, Option, Some, None, List, [], ◌∷◌, ◌++◌, ℕ, zero, suc, length, drop, get_or, slice_get, ℤ, refl, sym, ◌∙◌, ap, subst, arith}
use Rattle.std.proofs.lemmas.List.{append_assoc, append-nil, length-append, drop_all, drop_more}
use Rattle.std.proofs.lemmas.Option.{slice_get_within}
use Rattle.dom_core.specs.declared.var_id.VarId.{VarId}
use Rattle.dom_definers.specs.Definers.{definer_at}
use Rattle.dom_network.specs.Free.{free_from, free_of}
use Rattle.dom_network.specs.Network.{Network}
use Rattle.dom_network.specs.Place.{HasDomain, IsPlace, free_here, place_behind, places_from, places_of}

-- ---- one variable more

free_next : (v : ℕ) (d : Option ℕ) (ds : List (Option ℕ)) → free_from v (d ∷ ds) ≡ free_here v d ++ free_from (suc v) ds
free_next v None ds = refl
free_next v (Some i) ds = refl

place_next : (n v : ℕ) (d : Option ℕ) (ds : List (Option ℕ)) → places_from n (d ∷ ds) ≡ place_behind n d ∷ places_from (n + length (free_here v d)) ds
place_next n v None ds = ap (λ (k : ℕ). Some n ∷ places_from k ds) (let z : suc n ≡ n + 1 = omega arith in z)
place_next n v (Some i) ds = ap (λ (k : ℕ). None ∷ places_from k ds) (let z : n ≡ n + 0 = omega arith in z)

-- the free variables and places so far, with those that are left, are all
pub record AreListed (ds : List (Option ℕ)) (i : ℕ) (free : List VarId) (places : List (Option ℕ)) : Type 0 where
  pub frees : free ++ free_from i (drop i ds) ≡ free_of ds
  pub behind : places ++ places_from (length free) (drop i ds) ≡ places_of ds

pub listed_next : (ds : List (Option ℕ)) (i : ℕ) (d : Option ℕ) (free : List VarId) (places : List (Option ℕ)) → i < length ds → d ≡ get_or ds i d → AreListed ds i free places
    → AreListed ds (i + 1) (free ++ free_here i d) (places ++ place_behind (length free) d ∷ [])
listed_next ds i d free places lt e h =
    let left : drop i ds ≡ d ∷ drop (i + 1) ds = drop_more ds i d lt ∙ ap (λ (x : Option ℕ). x ∷ drop (i + 1) ds) (sym e) in
    let count : length free + length (free_here i d) ≡ length (free ++ free_here i d) = sym (length-append free (free_here i d)) in
    record {
      frees = append_assoc free (free_here i d) (free_from (i + 1) (drop (i + 1) ds))
          ∙ ap (λ (k : ℕ). free ++ (free_here i d ++ free_from k (drop (i + 1) ds))) (let z : i + 1 ≡ suc i = omega arith in z)
          ∙ ap (λ (us : List VarId). free ++ us) (sym (free_next i d (drop (i + 1) ds))) ∙ ap (λ (xs : List (Option ℕ)). free ++ free_from i xs) (sym left) ∙ h.frees;
      behind = append_assoc places (place_behind (length free) d ∷ []) (places_from (length (free ++ free_here i d)) (drop (i + 1) ds))
          ∙ ap (λ (k : ℕ). places ++ (place_behind (length free) d ∷ places_from k (drop (i + 1) ds))) (sym count)
          ∙ ap (λ (us : List (Option ℕ)). places ++ us) (sym (place_next (length free) i d (drop (i + 1) ds)))
          ∙ ap (λ (xs : List (Option ℕ)). places ++ places_from (length free) xs) (sym left) ∙ h.behind;
    }

pub listed_none : (ds : List (Option ℕ)) → AreListed ds 0 [] []
listed_none ds = record { frees = refl; behind = refl }

pub free_all : (ds : List (Option ℕ)) (i : ℕ) (free : List VarId) (places : List (Option ℕ)) → length ds ≤ i → AreListed ds i free places → free ≡ free_of ds
free_all ds i free places le h =
    sym (append-nil free) ∙ ap (λ (xs : List (Option ℕ)). free ++ free_from i xs) (sym (drop_all i ds le)) ∙ h.frees

pub places_all : (ds : List (Option ℕ)) (i : ℕ) (free : List VarId) (places : List (Option ℕ)) → length ds ≤ i → AreListed ds i free places → places ≡ places_of ds
places_all ds i free places le h =
    sym (append-nil places) ∙ ap (λ (xs : List (Option ℕ)). places ++ places_from (length free) xs) (sym (drop_all i ds le)) ∙ h.behind

-- ---- reading a place

places_length : (n : ℕ) (ds : List (Option ℕ)) → length (places_from n ds) ≡ length ds
places_length n [] = refl
places_length n (None ∷ ds) = ap suc (places_length (suc n) ds)
places_length n (Some i ∷ ds) = ap suc (places_length n ds)

pub place_count : (ds : List (Option ℕ)) → length (places_of ds) ≡ length ds
place_count ds = places_length 0 ds

-- the place of the variable at this distance from the first, where so many free ones stand before that
abbrev IsPlaceFrom : ℕ → ℕ → List (Option ℕ) → ℕ → Option ℕ → Type 0
IsPlaceFrom n v ds j None = definer_at ds j ≡ None → ⊥
IsPlaceFrom n v ds j (Some p) = (definer_at ds j ≡ None) × ((q : ℕ) × (p ≡ n + q) × (slice_get (free_from v ds) q ≡ Some (record { 0 = v + j })))

named : (vs : List VarId) (q n m : ℕ) → n ≡ m → slice_get vs q ≡ Some (record { 0 = n }) → slice_get vs q ≡ Some (record { 0 = m })
named vs q n m e h = subst (λ (k : ℕ). slice_get vs q ≡ Some (record { 0 = k })) e h

behind_free : (n v : ℕ) (ds : List (Option ℕ)) (j : ℕ) (o : Option ℕ) → IsPlaceFrom (suc n) (suc v) ds j o → IsPlaceFrom n v (None ∷ ds) (suc j) o
behind_free n v ds j None h = h
behind_free n v ds j (Some p) h = (h.0, (suc h.1.0, omega (arith, h.1.1), named (free_from (suc v) ds) h.1.0 (suc v + j) (v + suc j) (omega arith) h.1.2))

behind_defined : (n v i : ℕ) (ds : List (Option ℕ)) (j : ℕ) (o : Option ℕ) → IsPlaceFrom n (suc v) ds j o → IsPlaceFrom n v (Some i ∷ ds) (suc j) o
behind_defined n v i ds j None h = h
behind_defined n v i ds j (Some p) h = (h.0, (h.1.0, h.1.1, named (free_from (suc v) ds) h.1.0 (suc v + j) (v + suc j) (omega arith) h.1.2))

place_from : (n v : ℕ) (ds : List (Option ℕ)) (j : ℕ) → j < length ds → IsPlaceFrom n v ds j (get_or (places_from n ds) j None)
place_from n v [] j lt = absurd (omega (arith, lt))
place_from n v (None ∷ ds) zero lt = (refl, (0, omega arith, named (record { 0 = v } ∷ free_from (suc v) ds) 0 v (v + 0) (omega arith) refl))
place_from n v (None ∷ ds) (suc j) lt = behind_free n v ds j (get_or (places_from (suc n) ds) j None) (place_from (suc n) (suc v) ds j (omega (arith, lt)))
place_from n v (Some i ∷ ds) zero lt = λ e. absurd (cc)
place_from n v (Some i ∷ ds) (suc j) lt = behind_defined n v i ds j (get_or (places_from n ds) j None) (place_from n (suc v) ds j (omega (arith, lt)))

first_place : (ds : List (Option ℕ)) (v : ℕ) (o : Option ℕ) → IsPlaceFrom 0 0 ds v o → IsPlace ds v o
first_place ds v None h = h
first_place ds v (Some p) h =
    let same : h.1.0 ≡ p = omega (arith, h.1.1) in
    (h.0, subst (λ (q : ℕ). slice_get (free_of ds) q ≡ Some (record { 0 = v })) same (named (free_of ds) h.1.0 (0 + v) v (omega arith) h.1.2))

-- the place that is kept is that of the variable
pub place_read : (ds : List (Option ℕ)) (v : ℕ) → v < length ds → IsPlace ds v (get_or (places_of ds) v None)
place_read ds v lt = first_place ds v (get_or (places_of ds) v None) (place_from 0 0 ds v lt)

-- the place of a free variable is one of the list
pub place_within : (ds : List (Option ℕ)) (v p : ℕ) (o : Option ℕ) → IsPlace ds v o → o ≡ Some p → p < length (free_of ds)
place_within ds v p o h e = slice_get_within (free_of ds) p (record { 0 = v }) (subst (λ (q : Option ℕ). IsPlace ds v q) e h).1

-- a free variable has a place
pub place_missing : (ds : List (Option ℕ)) (v : ℕ) (o : Option ℕ) → IsPlace ds v o → o ≡ None → definer_at ds v ≡ None → ⊥
place_missing ds v o h e free = subst (λ (q : Option ℕ). IsPlace ds v q) e h free

-- the domain at the place of a variable is its own
pub domain_at_place : (m : Network) (v p : ℕ) (o : Option ℕ) (d : List ℤ) → IsPlace m.definers v o → o ≡ Some p → slice_get m.domains p ≡ Some d → HasDomain m v d
domain_at_place m v p o d h e g = (p, subst (λ (q : Option ℕ). IsPlace m.definers v q) e h, g)
