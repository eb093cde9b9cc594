-- The ends of a cell that is cut by one bound more.
use Rattle.std.proofs.Common.{◌≡◌, ℕ, Bool, true, false, ◌&&◌, ℤ, ◌<ℤ◌, ◌≤ℤ◌, refl, sym, ◌∙◌, ap, subst, arith, ◌⊎◌, inl, inr}
use Rattle.std.proofs.lemmas.Int.{ints}
use Rattle.dom_cells.specs.Cell.{has_of, lo_of, hi_of, IsSane, Suits, cut, IsCell}
use Rattle.dom_cells.specs.Box.{cut_at}
use Rattle.dom_core.specs.Literal.{holds_at, is_end}
use Rattle.dom_cells.specs.Flagged.{IsFloor, IsCeiling}
use Rattle.dom_core.specs.declared.literal.Literal.{Literal}
use Rattle.dom_core.specs.declared.literal.Rel.{Rel}
use Rattle.dom_core.specs.declared.literal.Rel.TheVariants.{Le, Ge, Eq, Ne}
use Rattle.dom_cells.specs.declared.start.Start.{Start}
use Rattle.dom_cells.specs.declared.start.Start.TheVariants.{Values, Span}
use Rattle.dom_core.proofs.LiteralLaws.{le_holds, holds_le, ge_holds, holds_ge}
use Rattle.dom_core.proofs.TestLaws.{and_first, and_second, and_both}
use Rattle.dom_cells.proofs.BoxLaws.{sane-cell, has-cut, cut_at-same, cut_at-other, same_or_other}

pub suits_end : (c : Start) (r : Rel) → is_end r ≡ true → Suits c r
suits_end (Values xs) r e = tt
suits_end (Span lo hi) r e = e

pub not_ge : (r : Rel) → is_end r ≡ true → (r ≡ Ge → ⊥) → r ≡ Le
not_ge Le e n = refl
not_ge Ge e n = absurd (n refl)
not_ge Eq e n = absurd (cc)
not_ge Ne e n = absurd (cc)

pub not_le : (r : Rel) → is_end r ≡ true → (r ≡ Le → ⊥) → r ≡ Ge
not_le Le e n = absurd (n refl)
not_le Ge e n = refl
not_le Eq e n = absurd (cc)
not_le Ne e n = absurd (cc)

pub end_cases : (r : Rel) → is_end r ≡ true → (r ≡ Le) ⊎ (r ≡ Ge)
end_cases Le e = inl refl
end_cases Ge e = inr refl
end_cases Eq e = absurd (cc)
end_cases Ne e = absurd (cc)

-- the least value is the one that is least
least_is : (d : Start) (r : ℤ) → IsSane d → has_of d r ≡ true → ((x : ℤ) → has_of d x ≡ true → r ≤ℤ x) → r ≡ lo_of d
least_is d r s h low =
    let k : IsCell d = sane-cell d s in
    let a : r ≤ℤ lo_of d = low (lo_of d) k.least in
    let b : lo_of d ≤ℤ r = k.low r h in
    omega (arith, ints)

greatest_is : (d : Start) (r : ℤ) → IsSane d → has_of d r ≡ true → ((x : ℤ) → has_of d x ≡ true → x ≤ℤ r) → r ≡ hi_of d
greatest_is d r s h high =
    let k : IsCell d = sane-cell d s in
    let a : hi_of d ≤ℤ r = high (hi_of d) k.greatest in
    let b : r ≤ℤ hi_of d = k.high r h in
    omega (arith, ints)

-- what a cut cell has
cut_has : (c : Start) (l : Literal) (x : ℤ) → is_end l.rel ≡ true → has_of (cut c l) x ≡ true → has_of c x ≡ true
cut_has c l x e h = and_first (has_of c x) (holds_at l x) (sym (has-cut c l x (suits_end c l.rel e)) ∙ h)

cut_holds : (c : Start) (l : Literal) (x : ℤ) → is_end l.rel ≡ true → has_of (cut c l) x ≡ true → holds_at l x ≡ true
cut_holds c l x e h = and_second (has_of c x) (holds_at l x) (sym (has-cut c l x (suits_end c l.rel e)) ∙ h)

in_cut : (c : Start) (l : Literal) (x : ℤ) → is_end l.rel ≡ true → has_of c x ≡ true → holds_at l x ≡ true → has_of (cut c l) x ≡ true
in_cut c l x e h g = has-cut c l x (suits_end c l.rel e) ∙ and_both (has_of c x) (holds_at l x) h g

-- some value of a cut cell
lowest_holds : (c : Start) (l : Literal) → is_end l.rel ≡ true → IsSane (cut c l) → (has_of c (lo_of (cut c l)) ≡ true) × (holds_at l (lo_of (cut c l)) ≡ true)
lowest_holds c l e s =
    let k : IsCell (cut c l) = sane-cell (cut c l) s in
    (cut_has c l (lo_of (cut c l)) e k.least, cut_holds c l (lo_of (cut c l)) e k.least)

-- ---- the cell of the literal's variable

cut-lo_le : (c : Start) (l : Literal) → is_end l.rel ≡ true → l.rel ≡ Le → IsSane c → IsSane (cut c l) → lo_of c ≡ lo_of (cut c l)
cut-lo_le c l e rel sc s =
    let k : IsCell c = sane-cell c sc in
    let t = lowest_holds c l e s in
    let a : lo_of c ≤ℤ lo_of (cut c l) = k.low (lo_of (cut c l)) t.0 in
    let b : lo_of (cut c l) ≤ℤ l.value = le_holds l (lo_of (cut c l)) rel t.1 in
    least_is (cut c l) (lo_of c) s (in_cut c l (lo_of c) e k.least (holds_le l (lo_of c) rel (omega (arith, ints)))) (λ x h. k.low x (cut_has c l x e h))

cut-hi_ge : (c : Start) (l : Literal) → is_end l.rel ≡ true → l.rel ≡ Ge → IsSane c → IsSane (cut c l) → hi_of c ≡ hi_of (cut c l)
cut-hi_ge c l e rel sc s =
    let k : IsCell c = sane-cell c sc in
    let t = lowest_holds c l e s in
    let a : lo_of (cut c l) ≤ℤ hi_of c = k.high (lo_of (cut c l)) t.0 in
    let b : l.value ≤ℤ lo_of (cut c l) = ge_holds l (lo_of (cut c l)) rel t.1 in
    greatest_is (cut c l) (hi_of c) s (in_cut c l (hi_of c) e k.greatest (holds_ge l (hi_of c) rel (omega (arith, ints)))) (λ x h. k.high x (cut_has c l x e h))

cut-lo_within : (c : Start) (l : Literal) → is_end l.rel ≡ true → l.rel ≡ Ge → l.value ≤ℤ lo_of c → IsSane c → IsSane (cut c l) → lo_of c ≡ lo_of (cut c l)
cut-lo_within c l e rel low sc s =
    let k : IsCell c = sane-cell c sc in
    least_is (cut c l) (lo_of c) s (in_cut c l (lo_of c) e k.least (holds_ge l (lo_of c) rel low)) (λ x h. k.low x (cut_has c l x e h))

cut-hi_within : (c : Start) (l : Literal) → is_end l.rel ≡ true → l.rel ≡ Le → hi_of c ≤ℤ l.value → IsSane c → IsSane (cut c l) → hi_of c ≡ hi_of (cut c l)
cut-hi_within c l e rel high sc s =
    let k : IsCell c = sane-cell c sc in
    greatest_is (cut c l) (hi_of c) s (in_cut c l (hi_of c) e k.greatest (holds_le l (hi_of c) rel high)) (λ x h. k.high x (cut_has c l x e h))

cut-lo_ceiling : (c : Start) (l : Literal) (r : ℤ) → is_end l.rel ≡ true → l.rel ≡ Ge → IsCeiling (has_of c) l.value r → IsSane (cut c l) → r ≡ lo_of (cut c l)
cut-lo_ceiling c l r e rel f s =
    least_is (cut c l) r s (in_cut c l r e f.has (holds_ge l r rel f.at_least)) (λ x h. f.least x (cut_has c l x e h) (ge_holds l x rel (cut_holds c l x e h)))

cut-hi_floor : (c : Start) (l : Literal) (r : ℤ) → is_end l.rel ≡ true → l.rel ≡ Le → IsFloor (has_of c) l.value r → IsSane (cut c l) → r ≡ hi_of (cut c l)
cut-hi_floor c l r e rel f s =
    greatest_is (cut c l) r s (in_cut c l r e f.has (holds_le l r rel f.at_most)) (λ x h. f.greatest x (cut_has c l x e h) (le_holds l x rel (cut_holds c l x e h)))

swapped : (a b : Bool) → (a && b) ≡ (b && a)
swapped true true = refl
swapped true false = refl
swapped false true = refl
swapped false false = refl

-- ---- the same for the kept cell of a variable

module _ (v : ℕ) (c : Start) (l : Literal) (e : is_end l.rel ≡ true) where
  other-lo : (l.var.0 ≡ v → ⊥) → lo_of c ≡ lo_of (cut_at v c l)
  other-lo n = ap lo_of (sym (cut_at-other v c l (λ s. n (sym s))))

  other-hi : (l.var.0 ≡ v → ⊥) → hi_of c ≡ hi_of (cut_at v c l)
  other-hi n = ap hi_of (sym (cut_at-other v c l (λ s. n (sym s))))

  same_cell : l.var.0 ≡ v → cut c l ≡ cut_at v c l
  same_cell at = sym (cut_at-same v c l (sym at))

  sane_same : l.var.0 ≡ v → IsSane (cut_at v c l) → IsSane (cut c l)
  sane_same at s = subst IsSane (sym (same_cell at)) s

  pub kept-lo_other : (l.var.0 ≡ v → ⊥) → lo_of c ≡ lo_of (cut_at v c l)
  kept-lo_other = other-lo

  pub kept-hi_other : (l.var.0 ≡ v → ⊥) → hi_of c ≡ hi_of (cut_at v c l)
  kept-hi_other = other-hi

  pub kept-lo_le : l.var.0 ≡ v → (l.rel ≡ Ge → ⊥) → IsSane c → IsSane (cut_at v c l) → lo_of c ≡ lo_of (cut_at v c l)
  kept-lo_le at n sc s = cut-lo_le c l e (not_ge l.rel e n) sc (sane_same at s) ∙ ap lo_of (same_cell at)

  pub kept-hi_ge : l.var.0 ≡ v → (l.rel ≡ Le → ⊥) → IsSane c → IsSane (cut_at v c l) → hi_of c ≡ hi_of (cut_at v c l)
  kept-hi_ge at n sc s = cut-hi_ge c l e (not_le l.rel e n) sc (sane_same at s) ∙ ap hi_of (same_cell at)

  pub kept-lo_within : l.var.0 ≡ v → l.rel ≡ Ge → l.value ≤ℤ lo_of c → IsSane c → IsSane (cut_at v c l) → lo_of c ≡ lo_of (cut_at v c l)
  kept-lo_within at rel low sc s = cut-lo_within c l e rel low sc (sane_same at s) ∙ ap lo_of (same_cell at)

  pub kept-hi_within : l.var.0 ≡ v → l.rel ≡ Le → hi_of c ≤ℤ l.value → IsSane c → IsSane (cut_at v c l) → hi_of c ≡ hi_of (cut_at v c l)
  kept-hi_within at rel high sc s = cut-hi_within c l e rel high sc (sane_same at s) ∙ ap hi_of (same_cell at)

  pub kept-lo_ceiling : l.var.0 ≡ v → l.rel ≡ Ge → (r : ℤ) → IsCeiling (has_of c) l.value r → IsSane (cut_at v c l) → r ≡ lo_of (cut_at v c l)
  kept-lo_ceiling at rel r f s = cut-lo_ceiling c l r e rel f (sane_same at s) ∙ ap lo_of (same_cell at)

  pub kept-hi_floor : l.var.0 ≡ v → l.rel ≡ Le → (r : ℤ) → IsFloor (has_of c) l.value r → IsSane (cut_at v c l) → r ≡ hi_of (cut_at v c l)
  kept-hi_floor at rel r f s = cut-hi_floor c l r e rel f (sane_same at s) ∙ ap hi_of (same_cell at)

  -- a kept cell has a value that the bound allows
  pub kept-below_hi : l.var.0 ≡ v → l.rel ≡ Ge → IsSane c → IsSane (cut_at v c l) → l.value ≤ℤ hi_of c
  kept-below_hi at rel sc s =
      let k : IsCell c = sane-cell c sc in
      let t = lowest_holds c l e (sane_same at s) in
      let a : lo_of (cut c l) ≤ℤ hi_of c = k.high (lo_of (cut c l)) t.0 in
      let b : l.value ≤ℤ lo_of (cut c l) = ge_holds l (lo_of (cut c l)) rel t.1 in
      omega (arith, ints)

  pub kept-above_lo : l.var.0 ≡ v → l.rel ≡ Le → IsSane c → IsSane (cut_at v c l) → lo_of c ≤ℤ l.value
  kept-above_lo at rel sc s =
      let k : IsCell c = sane-cell c sc in
      let t = lowest_holds c l e (sane_same at s) in
      let a : lo_of c ≤ℤ lo_of (cut c l) = k.low (lo_of (cut c l)) t.0 in
      let b : lo_of (cut c l) ≤ℤ l.value = le_holds l (lo_of (cut c l)) rel t.1 in
      omega (arith, ints)

  pub kept-has_other : (l.var.0 ≡ v → ⊥) → (x : ℤ) → has_of c x ≡ has_of (cut_at v c l) x
  kept-has_other n x = ap (λ (d : Start). has_of d x) (sym (cut_at-other v c l (λ s. n (sym s))))

  pub kept-has_same : l.var.0 ≡ v → (x : ℤ) → (holds_at l x && has_of c x) ≡ has_of (cut_at v c l) x
  kept-has_same at x = swapped (holds_at l x) (has_of c x) ∙ sym (has-cut c l x (suits_end c l.rel e)) ∙ ap (λ (d : Start). has_of d x) (same_cell at)

  -- a kept cell has no other values
  pub kept-sub : (x : ℤ) → has_of (cut_at v c l) x ≡ true → has_of c x ≡ true
  kept-sub x h = elim (same_or_other v l.var.0) [
    | inl same ↦ and_second (holds_at l x) (has_of c x) (kept-has_same (sym same) x ∙ h)
    | inr other ↦ kept-has_other (λ s. other (sym s)) x ∙ h
  ]

  pub kept-lo_above : IsSane c → IsSane (cut_at v c l) → lo_of c ≤ℤ lo_of (cut_at v c l)
  kept-lo_above sc s = (sane-cell c sc).low (lo_of (cut_at v c l)) (kept-sub (lo_of (cut_at v c l)) (sane-cell (cut_at v c l) s).least)

  pub kept-hi_below : IsSane c → IsSane (cut_at v c l) → hi_of (cut_at v c l) ≤ℤ hi_of c
  kept-hi_below sc s = (sane-cell c sc).high (hi_of (cut_at v c l)) (kept-sub (hi_of (cut_at v c l)) (sane-cell (cut_at v c l) s).greatest)

  -- the bound holds between values of a kept cell
  holds_between : l.var.0 ≡ v → (low r high : ℤ) → low ≤ℤ r → r ≤ℤ high → holds_at l low ≡ true → holds_at l high ≡ true → holds_at l r ≡ true
  holds_between at low r high a b h g = elim (end_cases l.rel e) [
    | inl le ↦ (let m : high ≤ℤ l.value = le_holds l high le g in holds_le l r le (omega (arith, ints)))
    | inr ge ↦ (let m : l.value ≤ℤ low = ge_holds l low ge h in holds_ge l r ge (omega (arith, ints)))
  ]

  kept_holds : l.var.0 ≡ v → (x : ℤ) → has_of (cut_at v c l) x ≡ true → holds_at l x ≡ true
  kept_holds at x h = and_first (holds_at l x) (has_of c x) (kept-has_same at x ∙ h)

  kept_between : (low r high : ℤ) → low ≤ℤ r → r ≤ℤ high → has_of (cut_at v c l) low ≡ true → has_of (cut_at v c l) high ≡ true → has_of c r ≡ true
      → has_of (cut_at v c l) r ≡ true
  kept_between low r high a b h g has = elim (same_or_other v l.var.0) [
    | inl same ↦ sym (kept-has_same (sym same) r)
        ∙ and_both (holds_at l r) (has_of c r) (holds_between (sym same) low r high a b (kept_holds (sym same) low h) (kept_holds (sym same) high g)) has
    | inr other ↦ sym (kept-has_other (λ s. other (sym s)) r) ∙ has
  ]

  -- the least value from a number on, where a kept cell has values on both sides
  pub kept-ceiling : (w r : ℤ) → IsSane (cut_at v c l) → lo_of (cut_at v c l) <ℤ w → w ≤ℤ hi_of (cut_at v c l) → IsCeiling (has_of c) w r
      → IsCeiling (has_of (cut_at v c l)) w r
  kept-ceiling w r s low high f =
      let k : IsCell (cut_at v c l) = sane-cell (cut_at v c l) s in
      let at_least : w ≤ℤ r = f.at_least in
      let within : r ≤ℤ hi_of (cut_at v c l) = f.least (hi_of (cut_at v c l)) (kept-sub (hi_of (cut_at v c l)) k.greatest) high in
      record {
        has = kept_between (lo_of (cut_at v c l)) r (hi_of (cut_at v c l)) (omega (arith, ints)) within k.least k.greatest f.has;
        at_least = at_least;
        least = λ x h le. f.least x (kept-sub x h) le;
      }
