-- Cells without a value, and literals that are false, held or open there.
use Rattle.std.proofs.Common.{◌≡◌, ℕ, Bool, true, false, not, ◌&&◌, cond, List, [], ◌∷◌, ℤ, ◌≤ℤ◌, int_le, refl, sym, ◌∙◌, ap, subst, arith, inl, inr}
use Rattle.std.proofs.Math.Path.{fun_ext}
use Rattle.std.proofs.lemmas.Int.{ints, clamps}
use Rattle.std.specs.List.{filter}
use Rattle.dom_core.specs.Literal.{is_related, holds_at}
use Rattle.dom_core.specs.Rises.{is_among}
use Rattle.dom_core.specs.declared.literal.Literal.{Literal}
use Rattle.dom_core.specs.declared.literal.Rel.{Rel}
use Rattle.dom_core.specs.declared.literal.Rel.TheVariants.{Le, Ge, Eq, Ne}
use Rattle.dom_cells.specs.Box.{kept}
use Rattle.dom_cells.specs.Cell.{has_of, lo_of, IsSane, IsCell, Suits, cut, cut_lo, cut_hi, IsHeld, IsFalse, IsPossible, CanFail, IsTruth, is_empty, is_false}
use Rattle.dom_cells.specs.declared.start.Start.{Start}
use Rattle.dom_cells.specs.declared.start.Start.TheVariants.{Values, Span}
use Rattle.dom_cells.specs.declared.truth.Truth.{Truth}
use Rattle.dom_cells.specs.declared.truth.Truth.TheVariants.{True, False, Open}
use Rattle.dom_core.proofs.RisesLaws.{int_eq_same, among_head, among_tail}
use Rattle.dom_core.proofs.TestLaws.{le_true, true_le, not_true, and_first, and_second, and_both, true_or_false, not_both}
use Rattle.dom_cells.proofs.BoxLaws.{sane-cell, has-cut, cut_at-same, cut_at-other, same_or_other}

-- ---- cells without a value

-- what is not empty has a value
pub record HasSome (c : Start) : Type 0 where
  pub value : ℤ
  pub has : has_of c value ≡ true

pub some_value : (c : Start) → is_empty c ≡ false → HasSome c
some_value (Values []) e = absurd (cc)
some_value (Values (x ∷ xs)) e = record { value = x; has = among_head x xs }
some_value (Span lo hi) e = elim (true_or_false (int_le lo hi)) [
  | inl t ↦ record { value = lo; has = and_both (int_le lo lo) (int_le lo hi) (true_le lo lo (omega (arith, ints))) t }
  | inr f ↦ absurd (not_both (not (int_le lo hi)) (ap not f) e)
]

none_between : (lo hi x : ℤ) → int_le lo hi ≡ false → (int_le lo x && int_le x hi) ≡ true → ⊥
none_between lo hi x e h =
    let low : lo ≤ℤ x = le_true lo x (and_first (int_le lo x) (int_le x hi) h) in
    let high : x ≤ℤ hi = le_true x hi (and_second (int_le lo x) (int_le x hi) h) in
    let le : lo ≤ℤ hi = omega (arith, ints) in
    not_both (int_le lo hi) (true_le lo hi le) e

pub no_value : (c : Start) → is_empty c ≡ true → (x : ℤ) → has_of c x ≡ true → ⊥
no_value (Values []) e x h = absurd (cc)
no_value (Values (y ∷ ys)) e x h = absurd (cc)
no_value (Span lo hi) e x h = none_between lo hi x (not_true (int_le lo hi) e) h

-- a cell that has no value is empty
pub empty_from : (c : Start) → ((x : ℤ) → has_of c x ≡ true → ⊥) → is_empty c ≡ true
empty_from c none = elim (true_or_false (is_empty c)) [
  | inl t ↦ t
  | inr f ↦ (let s : HasSome c = some_value c f in absurd (none s.value s.has))
]

pub sane_some : (c : Start) → IsSane c → is_empty c ≡ false
sane_some c s = elim (true_or_false (is_empty c)) [
  | inl t ↦ absurd (no_value c t (lo_of c) (sane-cell c s).least)
  | inr f ↦ f
]

-- ---- literals that are false

-- a literal that suits the cell is false by its cut exactly where it holds of no value
pub false_is : (c : Start) (l : Literal) → Suits c l.rel → IsFalse c l → is_false c l ≡ true
false_is c l s f = empty_from (cut c l) (λ x h. (let both : (has_of c x && holds_at l x) ≡ true = sym (has-cut c l x s) ∙ h in
    not_both (holds_at l x) (and_second (has_of c x) (holds_at l x) both) (f.none x (and_first (has_of c x) (holds_at l x) both))))

fails_where_false : (c : Start) (l : Literal) (x : ℤ) → Suits c l.rel → is_false c l ≡ true → has_of c x ≡ true → holds_at l x ≡ false
fails_where_false c l x s e h = elim (true_or_false (holds_at l x)) [
  | inl t ↦ absurd (no_value (cut c l) e x (has-cut c l x s ∙ and_both (has_of c x) (holds_at l x) h t))
  | inr f ↦ f
]

pub is_false_from : (c : Start) (l : Literal) → Suits c l.rel → is_false c l ≡ true → IsFalse c l
is_false_from c l s e = record { none = λ x h. fails_where_false c l x s e h }

pub possible_is : (c : Start) (l : Literal) → Suits c l.rel → IsPossible c l → is_false c l ≡ false
possible_is c l s p = elim (true_or_false (is_false c l)) [
  | inl t ↦ absurd (not_both (holds_at l p.value) p.holds (fails_where_false c l p.value s t p.has))
  | inr f ↦ f
]

pub possible_from : (c : Start) (l : Literal) → Suits c l.rel → is_false c l ≡ false → IsPossible c l
possible_from c l s e =
    let some : HasSome (cut c l) = some_value (cut c l) e in
    let both : (has_of c some.value && holds_at l some.value) ≡ true = sym (has-cut c l some.value s) ∙ some.has in
    record {
      value = some.value;
      has = and_first (has_of c some.value) (holds_at l some.value) both;
      holds = and_second (has_of c some.value) (holds_at l some.value) both;
    }

-- ---- the three truths shut one another out

pub true_is : (c : Start) (l : Literal) (t : Truth) → IsSane c → IsTruth c l t → IsHeld c l → t ≡ True
true_is c l True s is h = refl
true_is c l False s is h =
    let k : IsCell c = sane-cell c s in
    absurd (not_both (holds_at l (lo_of c)) (h.all (lo_of c) k.least) (is.none (lo_of c) k.least))
true_is c l Open s is h = absurd (not_both (holds_at l is.1.value) (h.all is.1.value is.1.has) is.1.fails)

pub untrue_is : (c : Start) (l : Literal) (t : Truth) → IsSane c → IsTruth c l t → IsFalse c l → t ≡ False
untrue_is c l False s is h = refl
untrue_is c l True s is h =
    let k : IsCell c = sane-cell c s in
    absurd (not_both (holds_at l (lo_of c)) (is.all (lo_of c) k.least) (h.none (lo_of c) k.least))
untrue_is c l Open s is h = absurd (not_both (holds_at l is.0.value) is.0.holds (h.none is.0.value is.0.has))

pub open_is : (c : Start) (l : Literal) (t : Truth) → IsTruth c l t → IsPossible c l → CanFail c l → t ≡ Open
open_is c l Open is p f = refl
open_is c l True is p f = absurd (not_both (holds_at l f.value) (is.all f.value f.has) f.fails)
open_is c l False is p f = absurd (not_both (holds_at l p.value) p.holds (is.none p.value p.has))

-- ---- literals that are held

all_kept : (p : ℤ → Bool) (xs : List ℤ) → ((x : ℤ) → is_among x xs ≡ true → p x ≡ true) → filter p xs ≡ xs
all_kept p [] h = refl
all_kept p (y ∷ ys) h =
    ap (λ (b : Bool). cond b (y ∷ filter p ys) (filter p ys)) (h y (among_head y ys))
    ∙ ap (λ (zs : List ℤ). y ∷ zs) (all_kept p ys (λ x t. h x (among_tail x y ys t)))

lo_held : (r : Rel) (v lo : ℤ) → is_related r lo v ≡ true → cut_lo r v lo ≡ lo
lo_held Le v lo a = refl
lo_held Ge v lo a = let le : v ≤ℤ lo = le_true v lo a in omega (arith, ints, clamps)
lo_held Eq v lo a = let e : lo ≡ v = int_eq_same lo v a in omega (arith, ints, clamps)
lo_held Ne v lo a = refl

hi_held : (r : Rel) (v hi : ℤ) → is_related r hi v ≡ true → cut_hi r v hi ≡ hi
hi_held Le v hi a = let le : hi ≤ℤ v = le_true hi v a in omega (arith, ints, clamps)
hi_held Ge v hi a = refl
hi_held Eq v hi a = let e : hi ≡ v = int_eq_same hi v a in omega (arith, ints, clamps)
hi_held Ne v hi a = refl

-- a literal that holds of all values cuts nothing
pub held_cut : (c : Start) (l : Literal) → IsSane c → IsHeld c l → cut c l ≡ c
held_cut (Values xs) l s h = ap Values (all_kept (holds_at l) xs h.all)
held_cut (Span lo hi) l s h =
    let k : IsCell (Span lo hi) = sane-cell (Span lo hi) s in
    ap (λ (x : ℤ). Span x (cut_hi l.rel l.value hi)) (lo_held l.rel l.value lo (h.all lo k.least))
    ∙ ap (Span lo) (hi_held l.rel l.value hi (h.all hi k.greatest))

-- nor does it cut the box
pub held_kept : (b : ℕ → Start) (l : Literal) → IsSane (b l.var.0) → IsHeld (b l.var.0) l → kept b l ≡ b
held_kept b l s h = fun_ext (λ v. elim (same_or_other v l.var.0) [
  | inl same ↦ cut_at-same v (b v) l same ∙ subst (λ (w : ℕ). cut (b w) l ≡ b w) (sym same) (held_cut (b l.var.0) l s h)
  | inr other ↦ cut_at-other v (b v) l other
])
