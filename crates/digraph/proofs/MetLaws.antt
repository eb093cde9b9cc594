-- What a search has met: it stays met, and what is known of it stays true.
use Rattle.std.proofs.Common.{◌≡◌, ◌⊎◌, inl, inr, ℕ, zero, suc, ◌+◌, ◌<◌, Bool, true, false, List, [], ◌∷◌, ◌++◌, length, get_or, set, slice_get, Some, refl, sym, ap, ◌∙◌, subst, arith}
use Rattle.std.specs.List.{Contains}
use Rattle.std.proofs.lemmas.Bool.{cases_Bool}
use Rattle.std.proofs.lemmas.List.{length_push}
use Rattle.digraph.specs.Met.{Met, is_met, met_with, met_with_all}
use Rattle.digraph.proofs.Places.{there_left}

-- ---- flags

pub set_stays : (bs : List Bool) (t u : ℕ) → get_or bs u true ≡ true → get_or (set bs t true) u true ≡ true
set_stays [] t u e = refl
set_stays (b ∷ bs) zero zero e = refl
set_stays (b ∷ bs) zero (suc u) e = e
set_stays (b ∷ bs) (suc t) zero e = e
set_stays (b ∷ bs) (suc t) (suc u) e = set_stays bs t u e

pub set_here : (bs : List Bool) (t : ℕ) → get_or (set bs t true) t true ≡ true
set_here [] t = refl
set_here (b ∷ bs) zero = refl
set_here (b ∷ bs) (suc t) = set_here bs t

pub set_only : (bs : List Bool) (t u : ℕ) → get_or (set bs t true) u true ≡ true → (get_or bs u true ≡ true) ⊎ (t ≡ u)
set_only [] t u e = inl refl
set_only (b ∷ bs) zero zero e = inr refl
set_only (b ∷ bs) zero (suc u) e = inl e
set_only (b ∷ bs) (suc t) zero e = inl e
set_only (b ∷ bs) (suc t) (suc u) e = elim (set_only bs t u e) [ inl h ↦ inl h | inr h ↦ inr (ap suc h) ]

pub down_within : (bs : List Bool) (t : ℕ) → get_or bs t true ≡ false → t < length bs
down_within [] t e = absurd cc
down_within (b ∷ bs) zero e = omega arith
down_within (b ∷ bs) (suc t) e = omega (arith, down_within bs t e)

-- how many flags are down
unfoldable pub down_of : List Bool → ℕ
down_of [] = zero
down_of (true ∷ bs) = down_of bs
down_of (false ∷ bs) = suc (down_of bs)

down_set : (bs : List Bool) (t : ℕ) → get_or bs t true ≡ false → suc (down_of (set bs t true)) ≡ down_of bs
unfolding down_of
down_set [] t e = absurd cc
down_set (true ∷ bs) zero e = absurd cc
down_set (false ∷ bs) zero e = refl
down_set (true ∷ bs) (suc t) e = down_set bs t e
down_set (false ∷ bs) (suc t) e = ap suc (down_set bs t e)

-- ---- one node is met

-- a node is met that was not met before
abbrev pub fresh_of : Met → ℕ → Met
fresh_of m t = record { seen = set m.seen t true; order = m.order ++ t ∷ [] }

met_before : (m : Met) (t : ℕ) → is_met m t ≡ true → met_with m t ≡ m
met_before m t e = rw e refl

met_fresh : (m : Met) (t : ℕ) → is_met m t ≡ false → met_with m t ≡ fresh_of m t
met_fresh m t e = rw e refl

-- what holds of both outcomes holds of a meeting
pub by_cases : (P : Met → Type 0) (m : Met) (t : ℕ) → (is_met m t ≡ true → P m) → (is_met m t ≡ false → P (fresh_of m t)) → P (met_with m t)
by_cases P m t before fresh = elim (cases_Bool (is_met m t)) [ inl e ↦ subst P (sym (met_before m t e)) (before e) | inr e ↦ subst P (sym (met_fresh m t e)) (fresh e) ]

with_stays : (m : Met) (t u : ℕ) → is_met m u ≡ true → is_met (met_with m t) u ≡ true
with_stays m t u e = by_cases (λ n. is_met n u ≡ true) m t (λ f. e) (λ f. set_stays m.seen t u e)

with_here : (m : Met) (t : ℕ) → is_met (met_with m t) t ≡ true
with_here m t = by_cases (λ n. is_met n t ≡ true) m t (λ f. f) (λ f. set_here m.seen t)

with_order : (m : Met) (t i u : ℕ) → slice_get m.order i ≡ Some u → slice_get (met_with m t).order i ≡ Some u
with_order m t i u e = by_cases (λ n. slice_get n.order i ≡ Some u) m t (λ f. e) (λ f. there_left m.order (t ∷ []) i u e)

-- the nodes left to meet, and those met
abbrev pub weight_of : Met → ℕ
weight_of m = down_of m.seen + length m.order

with_weight : (m : Met) (t : ℕ) → weight_of (met_with m t) ≡ weight_of m
with_weight m t = by_cases (λ n. weight_of n ≡ weight_of m) m t (λ f. refl) (λ f. omega (arith, down_set m.seen t f, length_push m.order t))

-- ---- several nodes are met

pub met_push : (m : Met) (ts : List ℕ) (t : ℕ) → met_with_all m (ts ++ t ∷ []) ≡ met_with (met_with_all m ts) t
met_push m [] t = refl
met_push m (u ∷ ts) t = met_push (met_with m u) ts t

pub all_stay : (m : Met) (ts : List ℕ) (u : ℕ) → is_met m u ≡ true → is_met (met_with_all m ts) u ≡ true
all_stay m [] u e = e
all_stay m (t ∷ ts) u e = all_stay (met_with m t) ts u (with_stays m t u e)

pub all_order : (m : Met) (ts : List ℕ) (i u : ℕ) → slice_get m.order i ≡ Some u → slice_get (met_with_all m ts).order i ≡ Some u
all_order m [] i u e = e
all_order m (t ∷ ts) i u e = all_order (met_with m t) ts i u (with_order m t i u e)

pub all_weight : (m : Met) (ts : List ℕ) → weight_of (met_with_all m ts) ≡ weight_of m
all_weight m [] = refl
all_weight m (t ∷ ts) = all_weight (met_with m t) ts ∙ with_weight m t

-- these nodes are met, or aren't nodes
abbrev pub AllMet : Met → List ℕ → Type 0
AllMet m ts = (t : ℕ) → Contains ts t → is_met m t ≡ true

here_met : (m : Met) (ts : List ℕ) (i t : ℕ) → i < length ts → get_or ts i t ≡ t → is_met (met_with_all m ts) t ≡ true
here_met m [] i t lt e = absurd (omega arith)
here_met m (u ∷ ts) zero t lt e = all_stay (met_with m u) ts t (subst (λ v. is_met (met_with m u) v ≡ true) e (with_here m u))
here_met m (u ∷ ts) (suc i) t lt e = here_met (met_with m u) ts i t (omega arith) e

pub all_met : (m : Met) (ts : List ℕ) → AllMet (met_with_all m ts) ts
all_met m ts t h = here_met m ts h.0 t h.1 h.2
