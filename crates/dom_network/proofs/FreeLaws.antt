-- The free variables and their values.
use Rattle.std.proofs.Common.{◌≡◌, ◌<◌, ◌≤◌, ◌+◌, true, Option, Some, None, List, [], ◌∷◌, ℕ, zero, suc, length, map, set, slice_get, ℤ, pos, refl, sym, ◌∙◌, ap, subst, arith}
use Rattle.std.proofs.lemmas.List.{length-set, get_or-set_same, get_or-set_other}
use Rattle.dom_core.specs.Assignment.{entry_at, value_at}
use Rattle.dom_core.specs.Domain.{IsDomain}
use Rattle.dom_core.specs.Ends.{Ends, lies_in}
use Rattle.dom_core.specs.Rises.{is_among}
use Rattle.dom_core.specs.declared.var_id.VarId.{VarId}
use Rattle.dom_core.proofs.EndsLaws.{lies}
use Rattle.dom_core.proofs.RisesLaws.{first_least, last_greatest}
use Rattle.dom_definers.specs.Definers.{definer_at}
use Rattle.dom_definers.specs.Hulls.{hull_at, span_of, spans}
use Rattle.dom_network.specs.Filling.{written}
use Rattle.dom_network.specs.Free.{IsTuple, free_from, free_of, free_values}
use Rattle.dom_network.specs.Network.{AreDomains, ends_of_values}
use Rattle.kind_law.specs.Laws.{Each, AllBelow}
use Rattle.kind_law.proofs.EachLaws.{each_at, each_map}

-- ---- which variables are free

-- the variable is at this distance from the first, and has no definer
pub record IsFreeFrom (v : ℕ) (ds : List (Option ℕ)) (u : VarId) : Type 0 where
  pub distance : ℕ
  pub number : u.0 ≡ v + distance
  pub below : distance < length ds
  pub free : definer_at ds distance ≡ None

later_free : (v : ℕ) (d : Option ℕ) (ds : List (Option ℕ)) (u : VarId) → IsFreeFrom (suc v) ds u → IsFreeFrom v (d ∷ ds) u
later_free v d ds u f = record { distance = suc f.distance; number = omega (arith, f.number); below = omega (arith, f.below); free = f.free }

pub each_free : (v : ℕ) (ds : List (Option ℕ)) → Each (IsFreeFrom v ds) (free_from v ds)
each_free v [] = tt
each_free v (None ∷ ds) =
    (record { distance = 0; number = omega arith; below = omega arith; free = refl }, each_map (IsFreeFrom (suc v) ds) (IsFreeFrom v (None ∷ ds)) (free_from (suc v) ds) (later_free v None ds) (each_free (suc v) ds))
each_free v (Some i ∷ ds) = each_map (IsFreeFrom (suc v) ds) (IsFreeFrom v (Some i ∷ ds)) (free_from (suc v) ds) (later_free v (Some i) ds) (each_free (suc v) ds)

-- the free variables are some of so many
pub free_below : (ds : List (Option ℕ)) (n : ℕ) → length ds ≤ n → AllBelow n (free_of ds)
free_below ds n le = each_map (IsFreeFrom 0 ds) (λ u. u.0 < n) (free_of ds) (λ u f. omega (arith, f.number, f.below, le)) (each_free 0 ds)

-- a variable without a definer stands in the list
free_place : (v : ℕ) (ds : List (Option ℕ)) (j : ℕ) → j < length ds → definer_at ds j ≡ None → (p : ℕ) × (slice_get (free_from v ds) p ≡ Some (record { 0 = v + j }))
free_place v [] j lt e = absurd (omega (arith, lt))
free_place v (None ∷ ds) zero lt e = (0, ap (λ (n : ℕ). let u : VarId = record { 0 = n } in Some u) (let z : v ≡ v + 0 = omega arith in z))
free_place v (None ∷ ds) (suc j) lt e =
    let t = free_place (suc v) ds j (omega (arith, lt)) e in
    (suc t.0, t.1 ∙ ap (λ (n : ℕ). let u : VarId = record { 0 = n } in Some u) (let z : suc v + j ≡ v + suc j = omega arith in z))
free_place v (Some i ∷ ds) zero lt e = absurd (cc)
free_place v (Some i ∷ ds) (suc j) lt e =
    let t = free_place (suc v) ds j (omega (arith, lt)) e in
    (t.0, t.1 ∙ ap (λ (n : ℕ). let u : VarId = record { 0 = n } in Some u) (let z : suc v + j ≡ v + suc j = omega arith in z))

-- what holds of each free variable holds of one without a definer
pub free_one : (P : VarId → Type 0) (ds : List (Option ℕ)) (v : ℕ) → v < length ds → definer_at ds v ≡ None → Each P (free_of ds) → P (record { 0 = v })
free_one P ds v lt e h =
    let t = free_place 0 ds v lt e in
    let z : 0 + v ≡ v = omega arith in
    each_at P (free_of ds) t.0 (record { 0 = v }) h (t.1 ∙ ap (λ (n : ℕ). let u : VarId = record { 0 = n } in Some u) z)

-- ---- values

head_same : (x y : ℤ) (xs ys : List ℤ) → x ∷ xs ≡ y ∷ ys → (x ≡ y) × (xs ≡ ys)
head_same x y xs ys e = (cc, cc)

-- where the values are the same, each of them is
pub each_same : (a b : List ℤ) (vs : List VarId) → map (value_at a) vs ≡ map (value_at b) vs → Each (λ u. entry_at a u.0 ≡ entry_at b u.0) vs
each_same a b [] e = tt
each_same a b (v ∷ vs) e =
    let t = head_same (value_at a v) (value_at b v) (map (value_at a) vs) (map (value_at b) vs) e in
    (t.0, each_same a b vs t.1)

pub same_values : (a b : List ℤ) (vs : List VarId) → Each (λ u. entry_at a u.0 ≡ entry_at b u.0) vs → map (value_at a) vs ≡ map (value_at b) vs
same_values a b [] h = refl
same_values a b (v ∷ vs) h = ap (λ (x : ℤ). x ∷ map (value_at a) vs) h.0 ∙ ap (λ (xs : List ℤ). value_at b v ∷ xs) (same_values a b vs h.1)

-- the value of a defined variable is none of the free ones
pub free_stays : (ds : List (Option ℕ)) (v i : ℕ) (a : List ℤ) (x : ℤ) → definer_at ds v ≡ Some i → free_values ds (set a v x) ≡ free_values ds a
free_stays ds v i a x e =
    same_values (set a v x) a (free_of ds)
    (each_map (IsFreeFrom 0 ds) (λ u. entry_at (set a v x) u.0 ≡ entry_at a u.0) (free_of ds)
    (λ u f. get_or-set_other a v u.0 x (pos 0) (λ same. (let there : f.distance ≡ v = omega (arith, same, f.number) in
    let none : definer_at ds v ≡ None = subst (λ (j : ℕ). definer_at ds j ≡ None) there f.free in absurd (cc)))) (each_free 0 ds))

-- ---- values that are written

pub written_length : (vs : List VarId) (xs a : List ℤ) → length (written vs xs a) ≡ length a
written_length [] xs a = refl
written_length (v ∷ vs) [] a = refl
written_length (v ∷ vs) (x ∷ xs) a = written_length vs xs (set a v.0 x) ∙ length-set a v.0 x

-- a variable before the first stays
written_before : (v w : ℕ) (ds : List (Option ℕ)) (xs a : List ℤ) → w < v → entry_at (written (free_from v ds) xs a) w ≡ entry_at a w
written_before v w [] xs a lt = refl
written_before v w (Some i ∷ ds) xs a lt = written_before (suc v) w ds xs a (omega (arith, lt))
written_before v w (None ∷ ds) [] a lt = refl
written_before v w (None ∷ ds) (x ∷ xs) a lt = written_before (suc v) w ds xs (set a v x) (omega (arith, lt)) ∙ get_or-set_other a v w x (pos 0) (λ e. omega (arith, e, lt))

written_from : (v : ℕ) (ds : List (Option ℕ)) (xs a : List ℤ) → length xs ≡ length (free_from v ds) → v + length ds ≤ length a
    → map (value_at (written (free_from v ds) xs a)) (free_from v ds) ≡ xs
written_from v [] [] a e le = refl
written_from v [] (x ∷ xs) a e le = absurd (omega (arith, e))
written_from v (Some i ∷ ds) xs a e le = written_from (suc v) ds xs a e (omega (arith, le))
written_from v (None ∷ ds) [] a e le = absurd (omega (arith, e))
written_from v (None ∷ ds) (x ∷ xs) a e le =
    let here : entry_at (written (free_from (suc v) ds) xs (set a v x)) v ≡ x =
    written_before (suc v) v ds xs (set a v x) (omega arith) ∙ get_or-set_same a v x (pos 0) (omega (arith, le)) in
    let long : suc v + length ds ≤ length (set a v x) = omega (arith, le, length-set a v x) in
    let rest = written_from (suc v) ds xs (set a v x) (omega (arith, e)) long in
    ap (λ (y : ℤ). y ∷ map (value_at (written (free_from (suc v) ds) xs (set a v x))) (free_from (suc v) ds)) here ∙ ap (λ (ys : List ℤ). x ∷ ys) rest

-- the free variables have the values that are written
pub written_values : (ds : List (Option ℕ)) (xs a : List ℤ) → length xs ≡ length (free_of ds) → length ds ≤ length a → free_values ds (written (free_of ds) xs a) ≡ xs
written_values ds xs a e le = written_from 0 ds xs a e (omega (arith, le))

-- ---- values from domains

tuple_length : (ds : List (List ℤ)) (xs : List ℤ) → IsTuple ds xs → length xs ≡ length ds
tuple_length [] [] t = refl
tuple_length [] (x ∷ xs) t = absurd t
tuple_length (d ∷ ds) [] t = absurd t
tuple_length (d ∷ ds) (x ∷ xs) t = ap suc (tuple_length ds xs t.1)

pub domain_count : (hs : List (Option Ends)) (vs : List VarId) (ds : List (List ℤ)) → AreDomains hs vs ds → length ds ≡ length vs
domain_count hs [] [] h = refl
domain_count hs [] (d ∷ ds) h = absurd h
domain_count hs (v ∷ vs) [] h = absurd h
domain_count hs (v ∷ vs) (d ∷ ds) h = ap suc (domain_count hs vs ds h.2)

-- a value from each domain is one for each free variable
pub tuple_count : (hs : List (Option Ends)) (vs : List VarId) (ds : List (List ℤ)) (xs : List ℤ) → AreDomains hs vs ds → IsTuple ds xs → length xs ≡ length vs
tuple_count hs vs ds xs h t = tuple_length ds xs t ∙ domain_count hs vs ds h

one_inside : (d : List ℤ) (x : ℤ) (h : Option Ends) → IsDomain d → h ≡ Some (ends_of_values d) → is_among x d ≡ true → lies_in x (span_of h) ≡ true
one_inside d x h is_domain hull among =
    subst (λ (o : Option Ends). lies_in x (span_of o) ≡ true) (sym hull) (lies x (ends_of_values d) (first_least d x is_domain.rises among) (last_greatest d x is_domain.rises among))

-- values from the domains lie in the hulls
pub tuple_inside : (hs : List (Option Ends)) (vs : List VarId) (ds : List (List ℤ)) (a : List ℤ) → AreDomains hs vs ds → IsTuple ds (map (value_at a) vs)
    → Each (λ u. lies_in (entry_at a u.0) (spans hs u.0) ≡ true) vs
tuple_inside hs [] ds a h t = tt
tuple_inside hs (v ∷ vs) [] a h t = absurd h
tuple_inside hs (v ∷ vs) (d ∷ ds) a h t = (one_inside d (value_at a v) (hull_at hs v.0) h.0 h.1 t.0, tuple_inside hs vs ds a h.2 t.1)
