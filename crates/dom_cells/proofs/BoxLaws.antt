-- Laws of cells, of boxes and of the literals that cut them.
use Rattle.std.proofs.Common.{◌≡◌, ℕ, ◌==◌, Bool, true, false, ◌&&◌, cond, List, [], ◌∷◌, ◌++◌, ℤ, ◌≤ℤ◌, int_le, refl, sym, ◌∙◌, ap, subst, arith, ◌⊎◌, inl, inr, if◌then◌else◌}
use Rattle.std.proofs.lemmas.Int.{ints, clamps}
use Rattle.std.proofs.lemmas.Bool.Decides.{Decides-eqb}
use Rattle.std.specs.Ordering.{int_eq}
use Rattle.std.specs.Int.{int_max, int_min}
use Rattle.std.specs.List.{filter}
use Rattle.dom_core.specs.Rises.{is_among, Rises}
use Rattle.dom_cells.specs.Cell.{has_of, lo_of, hi_of, IsSane, Suits, cut, cut_lo, cut_hi, IsCell}
use Rattle.dom_cells.specs.Box.{cut_at, cut_all, AllSuit}
use Rattle.dom_core.specs.Literal.{is_related, holds_at, is_end, negation}
use Rattle.dom_core.specs.declared.literal.Literal.{Literal}
use Rattle.dom_core.specs.declared.literal.Rel.{Rel}
use Rattle.dom_core.specs.declared.literal.Rel.TheVariants.{Le, Ge, Eq, Ne}
use Rattle.dom_cells.specs.declared.start.Start.{Start}
use Rattle.dom_cells.specs.declared.start.Start.TheVariants.{Values, Span}
use Rattle.dom_core.proofs.LiteralLaws.{end_negation}
use Rattle.dom_core.proofs.RisesLaws.{same_test, int_eq_from, or_left, among_cases, among_tail, first_least, last_greatest, first_among, last_among, some_among}
use Rattle.dom_core.proofs.TestLaws.{le_true, true_le, and_first, and_second, and_both, true_or_false, not_both}

-- ---- filters

-- the filter keeps the values of which the test holds
pub is_among-filter : (p : ℤ → Bool) (x : ℤ) (xs : List ℤ) → is_among x (filter p xs) ≡ (is_among x xs && p x)
is_among-filter p x [] = refl
is_among-filter p x (y ∷ ys) =
    let ih : is_among x (filter p ys) ≡ (is_among x ys && p x) = is_among-filter p x ys in
    let step : (b : Bool) → p y ≡ b → is_among x (cond b (y ∷ filter p ys) (filter p ys)) ≡ (is_among x (y ∷ ys) && p x) =
    λ b. elim b as (λ b. p y ≡ b → is_among x (cond b (y ∷ filter p ys) (filter p ys)) ≡ (is_among x (y ∷ ys) && p x)) [
      | true ↦ λ e. same_test (is_among x (y ∷ filter p ys)) (is_among x (y ∷ ys) && p x)
          (λ h. elim (among_cases x y (filter p ys) h) [
            | inl same ↦ and_both (is_among x (y ∷ ys)) (p x) (or_left (int_eq x y) (is_among x ys) (int_eq_from x y same)) (ap p same ∙ e)
            | inr later ↦ (let t : (is_among x ys && p x) ≡ true = sym ih ∙ later in
                and_both (is_among x (y ∷ ys)) (p x) (among_tail x y ys (and_first (is_among x ys) (p x) t)) (and_second (is_among x ys) (p x) t))
          ])
          (λ h. elim (among_cases x y ys (and_first (is_among x (y ∷ ys)) (p x) h)) [
            | inl same ↦ or_left (int_eq x y) (is_among x (filter p ys)) (int_eq_from x y same)
            | inr later ↦ among_tail x y (filter p ys) (ih ∙ and_both (is_among x ys) (p x) later (and_second (is_among x (y ∷ ys)) (p x) h))
          ])
      | false ↦ λ e. same_test (is_among x (filter p ys)) (is_among x (y ∷ ys) && p x)
          (λ h. (let t : (is_among x ys && p x) ≡ true = sym ih ∙ h in
          and_both (is_among x (y ∷ ys)) (p x) (among_tail x y ys (and_first (is_among x ys) (p x) t)) (and_second (is_among x ys) (p x) t)))
          (λ h. elim (among_cases x y ys (and_first (is_among x (y ∷ ys)) (p x) h)) [
            | inl same ↦ absurd (not_both (p x) (and_second (is_among x (y ∷ ys)) (p x) h) (ap p same ∙ e))
            | inr later ↦ ih ∙ and_both (is_among x ys) (p x) later (and_second (is_among x (y ∷ ys)) (p x) h)
          ])
    ] in
    step (p y) refl

pub rises-filter : (p : ℤ → Bool) (xs : List ℤ) → Rises xs → Rises (filter p xs)
rises-filter p [] r = tt
rises-filter p (y ∷ ys) r =
    let step : (b : Bool) → Rises (cond b (y ∷ filter p ys) (filter p ys)) =
    λ b. elim b as (λ b. Rises (cond b (y ∷ filter p ys) (filter p ys))) [
      | true ↦ ((λ x h. r.0 x (and_first (is_among x ys) (p x) (sym (is_among-filter p x ys) ∙ h))), rises-filter p ys r.1)
      | false ↦ rises-filter p ys r.1
    ] in
    step (p y)

-- ---- cells

-- the ends of a sane cell are values, and no value lies beyond them
pub sane-cell : (c : Start) → IsSane c → IsCell c
sane-cell (Values xs) s = record {
  least = first_among xs s.1;
  greatest = last_among xs s.1;
  low = λ x h. first_least xs x s.0 h;
  high = λ x h. last_greatest xs x s.0 h;
}
sane-cell (Span lo hi) s = record {
  least = and_both (int_le lo lo) (int_le lo hi) (true_le lo lo (omega (arith, ints))) (true_le lo hi s);
  greatest = and_both (int_le lo hi) (int_le hi hi) (true_le lo hi s) (true_le hi hi (omega (arith, ints)));
  low = λ x h. le_true lo x (and_first (int_le lo x) (int_le x hi) h);
  high = λ x h. le_true x hi (and_second (int_le lo x) (int_le x hi) h);
}

pub sane-ends : (c : Start) → IsSane c → lo_of c ≤ℤ hi_of c
sane-ends c s = let k : IsCell c = sane-cell c s in k.low (hi_of c) k.greatest

-- a span under a relation that bounds one end
span-cut : (r : Rel) (v lo hi x : ℤ) → is_end r ≡ true
    → (int_le (cut_lo r v lo) x && int_le x (cut_hi r v hi)) ≡ ((int_le lo x && int_le x hi) && is_related r x v)
span-cut Le v lo hi x e = same_test _ _
    (λ h. (let low : lo ≤ℤ x = le_true lo x (and_first (int_le lo x) _ h) in
    let high : x ≤ℤ int_min hi v = le_true x (int_min hi v) (and_second (int_le lo x) _ h) in
    and_both (int_le lo x && int_le x hi) (int_le x v)
    (and_both (int_le lo x) (int_le x hi) (true_le lo x low) (true_le x hi (omega (arith, ints, clamps))))
    (true_le x v (omega (arith, ints, clamps)))))
    (λ h. (let t : (int_le lo x && int_le x hi) ≡ true = and_first (int_le lo x && int_le x hi) (int_le x v) h in
    let low : lo ≤ℤ x = le_true lo x (and_first (int_le lo x) (int_le x hi) t) in
    let high : x ≤ℤ hi = le_true x hi (and_second (int_le lo x) (int_le x hi) t) in
    let most : x ≤ℤ v = le_true x v (and_second (int_le lo x && int_le x hi) (int_le x v) h) in
    and_both (int_le lo x) (int_le x (int_min hi v)) (true_le lo x low) (true_le x (int_min hi v) (omega (arith, ints, clamps)))))
span-cut Ge v lo hi x e = same_test _ _
    (λ h. (let low : int_max lo v ≤ℤ x = le_true (int_max lo v) x (and_first (int_le (int_max lo v) x) _ h) in
    let high : x ≤ℤ hi = le_true x hi (and_second (int_le (int_max lo v) x) _ h) in
    and_both (int_le lo x && int_le x hi) (int_le v x)
    (and_both (int_le lo x) (int_le x hi) (true_le lo x (omega (arith, ints, clamps))) (true_le x hi high))
    (true_le v x (omega (arith, ints, clamps)))))
    (λ h. (let t : (int_le lo x && int_le x hi) ≡ true = and_first (int_le lo x && int_le x hi) (int_le v x) h in
    let low : lo ≤ℤ x = le_true lo x (and_first (int_le lo x) (int_le x hi) t) in
    let high : x ≤ℤ hi = le_true x hi (and_second (int_le lo x) (int_le x hi) t) in
    let least : v ≤ℤ x = le_true v x (and_second (int_le lo x && int_le x hi) (int_le v x) h) in
    and_both (int_le (int_max lo v) x) (int_le x hi) (true_le (int_max lo v) x (omega (arith, ints, clamps))) (true_le x hi high)))
span-cut Eq v lo hi x e = absurd (cc)
span-cut Ne v lo hi x e = absurd (cc)

-- a cut keeps the values of which the literal holds
pub has-cut : (c : Start) (l : Literal) (x : ℤ) → Suits c l.rel → has_of (cut c l) x ≡ (has_of c x && holds_at l x)
has-cut (Values xs) l x s = is_among-filter (holds_at l) x xs
has-cut (Span lo hi) l x s = span-cut l.rel l.value lo hi x s

-- a cut cell with a value is sane
pub sane-cut : (c : Start) (l : Literal) (x : ℤ) → IsSane c → has_of (cut c l) x ≡ true → IsSane (cut c l)
sane-cut (Values xs) l x s h = (rises-filter (holds_at l) xs s.0, some_among x (filter (holds_at l) xs) h)
sane-cut (Span lo hi) l x s h =
    let low : cut_lo l.rel l.value lo ≤ℤ x = le_true (cut_lo l.rel l.value lo) x (and_first _ (int_le x (cut_hi l.rel l.value hi)) h) in
    let high : x ≤ℤ cut_hi l.rel l.value hi = le_true x (cut_hi l.rel l.value hi) (and_second (int_le (cut_lo l.rel l.value lo) x) _ h) in
    omega (arith, ints)

pub suits-cut : (c : Start) (l : Literal) (r : Rel) → Suits c r → Suits (cut c l) r
suits-cut (Values xs) l r s = tt
suits-cut (Span lo hi) l r s = s

-- ---- cutting the cell of one variable

pub cut_at-same : (v : ℕ) (c : Start) (l : Literal) → v ≡ l.var.0 → cut_at v c l ≡ cut c l
cut_at-same v c l e = ap (λ (b : Bool). if b then cut c l else c) ((Decides-eqb v l.var.0).1 e)

pub false_same : (v w : ℕ) → (v ≡ w → ⊥) → (v == w) ≡ false
false_same v w other = elim (true_or_false (v == w)) [ inl e ↦ absurd (other ((Decides-eqb v w).0 e)) | inr e ↦ e ]

pub cut_at-other : (v : ℕ) (c : Start) (l : Literal) → (v ≡ l.var.0 → ⊥) → cut_at v c l ≡ c
cut_at-other v c l other = ap (λ (b : Bool). if b then cut c l else c) (false_same v l.var.0 other)

pub same_or_other : (v w : ℕ) → (v ≡ w) ⊎ (v ≡ w → ⊥)
same_or_other v w = elim (true_or_false (v == w)) [ inl e ↦ inl ((Decides-eqb v w).0 e) | inr e ↦ inr (λ s. not_both (v == w) ((Decides-eqb v w).1 s) e) ]

-- what is cut has no other value than before
pub has-cut_at : (v : ℕ) (c : Start) (l : Literal) (x : ℤ) → (v ≡ l.var.0 → Suits c l.rel) → has_of (cut_at v c l) x ≡ true → has_of c x ≡ true
has-cut_at v c l x s h =
    elim (same_or_other v l.var.0) [
      | inl same ↦ and_first (has_of c x) (holds_at l x) (sym (has-cut c l x (s same)) ∙ ap (λ (d : Start). has_of d x) (sym (cut_at-same v c l same)) ∙ h)
      | inr other ↦ ap (λ (d : Start). has_of d x) (sym (cut_at-other v c l other)) ∙ h
    ]

pub sane-cut_at : (v : ℕ) (c : Start) (l : Literal) (x : ℤ) → IsSane c → has_of (cut_at v c l) x ≡ true → IsSane (cut_at v c l)
sane-cut_at v c l x s h =
    elim (same_or_other v l.var.0) [
      | inl same ↦ (let e : cut_at v c l ≡ cut c l = cut_at-same v c l same in
          subst IsSane (sym e) (sane-cut c l x s (ap (λ (d : Start). has_of d x) (sym e) ∙ h)))
      | inr other ↦ subst IsSane (sym (cut_at-other v c l other)) s
    ]

pub suits-cut_at : (v : ℕ) (c : Start) (l : Literal) (r : Rel) → Suits c r → Suits (cut_at v c l) r
suits-cut_at v c l r s =
    elim (same_or_other v l.var.0) [
      | inl same ↦ subst (λ (d : Start). Suits d r) (sym (cut_at-same v c l same)) (suits-cut c l r s)
      | inr other ↦ subst (λ (d : Start). Suits d r) (sym (cut_at-other v c l other)) s
    ]

-- ---- cutting by many literals

pub suits-cut_all : (v : ℕ) (c : Start) (ls : List Literal) (r : Rel) → Suits c r → Suits (cut_all v c ls) r
suits-cut_all v c [] r s = s
suits-cut_all v c (l ∷ ls) r s = suits-cut_all v (cut_at v c l) ls r (suits-cut_at v c l r s)

pub cut_all-append : (v : ℕ) (c : Start) (ls ks : List Literal) → cut_all v c (ls ++ ks) ≡ cut_all v (cut_all v c ls) ks
cut_all-append v c [] ks = refl
cut_all-append v c (l ∷ ls) ks = cut_all-append v (cut_at v c l) ls ks

pub cut_all-push : (v : ℕ) (c : Start) (ls : List Literal) (l : Literal) → cut_all v c (ls ++ l ∷ []) ≡ cut_at v (cut_all v c ls) l
cut_all-push v c [] l = refl
cut_all-push v c (k ∷ ks) l = cut_all-push v (cut_at v c k) ks l

pub AllSuit-push : (v : ℕ) (c : Start) (ls : List Literal) (l : Literal) → AllSuit v c ls → (v ≡ l.var.0 → Suits c l.rel) → AllSuit v c (ls ++ l ∷ [])
AllSuit-push v c [] l a s = (s, tt)
AllSuit-push v c (k ∷ ks) l a s = (a.0, AllSuit-push v c ks l a.1 s)

-- whether each literal on the variable holds of the value
abbrev pub holds_all : ℕ → List Literal → ℤ → Bool
holds_all v [] x = true
holds_all v (l ∷ ls) x = (if v == l.var.0 then holds_at l x else true) && holds_all v ls x

and_true : (b : Bool) → (b && true) ≡ b
and_true true = refl
and_true false = refl

and_assoc : (a b d : Bool) → ((a && b) && d) ≡ (a && (b && d))
and_assoc true b d = refl
and_assoc false b d = refl

-- a cut at one variable, test by test
pub has-cut_at_is : (v : ℕ) (c : Start) (l : Literal) (x : ℤ) → (v ≡ l.var.0 → Suits c l.rel)
    → has_of (cut_at v c l) x ≡ (has_of c x && (if v == l.var.0 then holds_at l x else true))
has-cut_at_is v c l x s =
    elim (same_or_other v l.var.0) [
      | inl same ↦ ap (λ (d : Start). has_of d x) (cut_at-same v c l same) ∙ has-cut c l x (s same)
          ∙ ap (λ (b : Bool). has_of c x && (if b then holds_at l x else true)) (sym ((Decides-eqb v l.var.0).1 same))
      | inr other ↦ ap (λ (d : Start). has_of d x) (cut_at-other v c l other) ∙ sym (and_true (has_of c x))
          ∙ ap (λ (b : Bool). has_of c x && (if b then holds_at l x else true)) (sym (false_same v l.var.0 other))
    ]

suits_after : (v : ℕ) (c : Start) (l : Literal) (ls : List Literal) → AllSuit v c ls → AllSuit v (cut_at v c l) ls
suits_after v c l [] a = tt
suits_after v c l (k ∷ ks) a = ((λ e. suits-cut_at v c l k.rel (a.0 e)), suits_after v c l ks a.1)

-- the cell has the values of its start of which each literal holds
pub has-cut_all : (v : ℕ) (c : Start) (ls : List Literal) (x : ℤ) → AllSuit v c ls → has_of (cut_all v c ls) x ≡ (has_of c x && holds_all v ls x)
has-cut_all v c [] x a = sym (and_true (has_of c x))
has-cut_all v c (l ∷ ls) x a =
    has-cut_all v (cut_at v c l) ls x (suits_after v c l ls a.1)
    ∙ ap (λ (b : Bool). b && holds_all v ls x) (has-cut_at_is v c l x a.0)
    ∙ and_assoc (has_of c x) (if v == l.var.0 then holds_at l x else true) (holds_all v ls x)

-- a cut cell with a value is sane
pub sane-cut_all : (v : ℕ) (c : Start) (ls : List Literal) (x : ℤ) → AllSuit v c ls → IsSane c → has_of (cut_all v c ls) x ≡ true → IsSane (cut_all v c ls)
sane-cut_all v c [] x a s h = s
sane-cut_all v c (l ∷ ls) x a s h =
    let first : has_of (cut_at v c l) x ≡ true =
    and_first (has_of (cut_at v c l) x) (holds_all v ls x) (sym (has-cut_all v (cut_at v c l) ls x (suits_after v c l ls a.1)) ∙ h) in
    sane-cut_all v (cut_at v c l) ls x (suits_after v c l ls a.1) (sane-cut_at v c l x s first) h

-- ---- negations

pub suits-negation : (c : Start) (l : Literal) → Suits c l.rel → Suits c (negation l).rel
suits-negation (Values xs) l s = tt
suits-negation (Span lo hi) l s = end_negation l.rel s
