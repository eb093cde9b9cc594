-- Places in lists, and the declared names of the front of a text.
use Rattle.std.proofs.Common.{◌≡◌, ℕ, zero, suc, ◌<◌, List, [], ◌∷◌, ◌++◌, length, take, Some, slice_get, refl, sym, ◌∙◌, ap, arith, ◌⊎◌, inl, inr}
use Rattle.std.proofs.lemmas.List.{append_assoc, append-nil}
use Rattle.fzn_symbols.specs.Listed.{IsListed}
use Rattle.fzn_symbols.specs.Numbered.{Mark, declared_by, declared_names}

-- ---- places

-- what stands among the first so many stands there in the whole
pub among_first : {X : Type 0} (xs : List X) (n i : ℕ) (x : X) → slice_get (take n xs) i ≡ Some x → (i < n) × (slice_get xs i ≡ Some x)
among_first xs zero i x e = absurd cc
among_first [] (suc n) i x e = absurd cc
among_first (y ∷ xs) (suc n) zero x e = (omega arith, e)
among_first (y ∷ xs) (suc n) (suc i) x e = let h = among_first xs n i x e in (omega (arith, h.0), h.1)

-- what stands early enough stands among the first so many
pub first_among : {X : Type 0} (xs : List X) (n i : ℕ) (x : X) → i < n → slice_get xs i ≡ Some x → slice_get (take n xs) i ≡ Some x
first_among xs zero i x lt e = absurd (omega arith)
first_among [] (suc n) i x lt e = absurd cc
first_among (y ∷ xs) (suc n) zero x lt e = e
first_among (y ∷ xs) (suc n) (suc i) x lt e = first_among xs n i x (omega arith) e

-- ---- names

pub listed_left : (xs ys : List (List ℕ)) (n : List ℕ) (i : ℕ) → slice_get xs i ≡ Some n → slice_get (xs ++ ys) i ≡ Some n
listed_left [] ys n i e = absurd cc
listed_left (x ∷ xs) ys n zero e = e
listed_left (x ∷ xs) ys n (suc i) e = listed_left xs ys n i e

pub listed_last : (xs : List (List ℕ)) (n : List ℕ) → slice_get (xs ++ n ∷ []) (length xs) ≡ Some n
listed_last [] n = refl
listed_last (x ∷ xs) n = listed_last xs n

pub listed_cases : (xs : List (List ℕ)) (y n : List ℕ) (i : ℕ) → slice_get (xs ++ y ∷ []) i ≡ Some n → IsListed xs n ⊎ (y ≡ n)
listed_cases [] y n zero e = inr cc
listed_cases [] y n (suc i) e = absurd cc
listed_cases (x ∷ xs) y n zero e = inl (zero, e)
listed_cases (x ∷ xs) y n (suc i) e =
    elim (listed_cases xs y n i e) [ inl h ↦ inl (suc h.0, h.1) | inr h ↦ inr h ]

-- ---- declared names

-- one occurrence more
pub declared_next : (os : List Mark) (k : ℕ) (o : Mark) → slice_get os k ≡ Some o → declared_names (take (suc k) os) ≡ declared_names (take k os) ++ declared_by o.role o.name
declared_next [] k o e = absurd cc
declared_next (p ∷ os) zero o e =
    let is : p ≡ o = cc in
    rw is (append-nil (declared_by o.role o.name))
declared_next (p ∷ os) (suc k) o e =
    let before = declared_by p.role p.name in
    ap (λ (ns : List (List ℕ)). before ++ ns) (declared_next os k o e) ∙ sym (append_assoc before (declared_names (take k os)) (declared_by o.role o.name))
