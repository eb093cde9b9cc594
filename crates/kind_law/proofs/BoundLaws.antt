-- Boxes with one bound more.
use Rattle.std.proofs.Common.{◌≡◌, ℕ, ◌<◌, ◌≤◌, Bool, true, List, length, ℤ, pos, ◌+ℤ◌, ◌-ℤ◌, ◌≤ℤ◌, int_le, inl, inr, refl, sym, ◌∙◌, ap, subst, arith}
use Rattle.std.proofs.lemmas.Int.{ints}
use Rattle.dom_cells.specs.Box.{Box, IsBox, cell_of, kept}
use Rattle.dom_cells.specs.Cell.{IsCell, IsPart, IsSane, has_of, lo_of, hi_of}
use Rattle.dom_core.specs.Ends.{Ends}
use Rattle.dom_core.specs.Literal.{holds_at, is_end}
use Rattle.dom_core.specs.declared.literal.Literal.{Literal}
use Rattle.dom_core.specs.Assignment.{entry_at}
use Rattle.dom_cells.specs.declared.start.Start.{Start}
use Rattle.dom_cells.specs.declared.start.Start.TheVariants.{Span}
use Rattle.dom_core.specs.declared.var_id.VarId.{VarId}
use Rattle.dom_cells.proofs.BoxLaws.{sane-cell, sane-ends, sane-cut, has-cut, cut_at-same, cut_at-other, same_or_other}
use Rattle.dom_core.proofs.TestLaws.{and_first, and_second, and_both, le_true, not_true}
use Rattle.dom_core.proofs.LiteralLaws.{holds_le, holds_ge, le_holds, ge_holds}
use Rattle.dom_cells.proofs.KeptLaws.{suits_end}
use Rattle.dom_core.proofs.RisesLaws.{natural_is}
use Rattle.kind_law.specs.Laws.{AllBelow, AllSane, IsSmaller, EndsIn, AreWithin, hulls, ShrinkLaw, FitsLaw, FixedLaw, IsWithin, IsUnmet, point}
use Rattle.kind_law.specs.Next.{below, above, trim, size_of, steps_refuted, IsBound}
use Rattle.kind_law.specs.declared.side.Side.{Side}
use Rattle.kind_law.specs.declared.side.Side.TheVariants.{Low, High}
use Rattle.kind_law.proofs.EachLaws.{each_map, each_both}

pub box-sane : (m : Box) (vars : List VarId) → IsBox m → AllBelow (length m.starts) vars → AllSane (cell_of m) vars
box-sane m vars s h = each_map (λ u. u.0 < length m.starts) (λ u. IsSane (cell_of m u.0)) vars (λ u lt. s.cells u.0 lt) h

-- a cell with fewer values lies in the other
pub part : (inside : Bool) (small large : Start) → IsSane small → IsSane large → ((x : ℤ) → has_of small x ≡ true → has_of large x ≡ true)
    → IsPart inside small large
part inside small large s t sub =
    let k : IsCell small = sane-cell small s in
    let m : IsCell large = sane-cell large t in
    record {
      cell = k;
      whole = m;
      low = m.low (lo_of small) (sub (lo_of small) k.least);
      high = m.high (hi_of small) (sub (hi_of small) k.greatest);
      values = λ i x h. sub x h;
    }

-- ---- the kept box

-- what the kept cell has
pub kept_has : (b : ℕ → Start) (l : Literal) (v : ℕ) (x : ℤ) → is_end l.rel ≡ true → has_of (kept b l v) x ≡ true → has_of (b v) x ≡ true
kept_has b l v x e h =
    elim (same_or_other v l.var.0) [
      | inl same ↦ and_first (has_of (b v) x) (holds_at l x)
          (sym (has-cut (b v) l x (suits_end (b v) l.rel e)) ∙ ap (λ (c : Start). has_of c x) (sym (cut_at-same v (b v) l same)) ∙ h)
      | inr other ↦ ap (λ (c : Start). has_of c x) (sym (cut_at-other v (b v) l other)) ∙ h
    ]

-- at its own variable the literal holds
pub kept_holds : (b : ℕ → Start) (l : Literal) (x : ℤ) → is_end l.rel ≡ true → has_of (kept b l l.var.0) x ≡ true → holds_at l x ≡ true
kept_holds b l x e h =
    and_second (has_of (b l.var.0) x) (holds_at l x)
    (sym (has-cut (b l.var.0) l x (suits_end (b l.var.0) l.rel e)) ∙ ap (λ (c : Start). has_of c x) (sym (cut_at-same l.var.0 (b l.var.0) l refl)) ∙ h)

pub in_kept : (b : ℕ → Start) (l : Literal) (v : ℕ) (x : ℤ) → is_end l.rel ≡ true → has_of (b v) x ≡ true → (v ≡ l.var.0 → holds_at l x ≡ true)
    → has_of (kept b l v) x ≡ true
in_kept b l v x e h g =
    elim (same_or_other v l.var.0) [
      | inl same ↦ ap (λ (c : Start). has_of c x) (cut_at-same v (b v) l same) ∙ has-cut (b v) l x (suits_end (b v) l.rel e)
          ∙ and_both (has_of (b v) x) (holds_at l x) h (g same)
      | inr other ↦ ap (λ (c : Start). has_of c x) (cut_at-other v (b v) l other) ∙ h
    ]

pub kept_sane : (b : ℕ → Start) (l : Literal) (v : ℕ) (y : ℤ) → is_end l.rel ≡ true → has_of (b l.var.0) y ≡ true → holds_at l y ≡ true → IsSane (b v)
    → IsSane (kept b l v)
kept_sane b l v y e has holds s =
    elim (same_or_other v l.var.0) [
      | inl same ↦ (let here : has_of (b v) y ≡ true = ap (λ (w : ℕ). has_of (b w) y) same ∙ has in
          subst IsSane (sym (cut_at-same v (b v) l same))
          (sane-cut (b v) l y s (has-cut (b v) l y (suits_end (b v) l.rel e) ∙ and_both (has_of (b v) y) (holds_at l y) here holds)))
      | inr other ↦ subst IsSane (sym (cut_at-other v (b v) l other)) s
    ]

pub kept-all-sane : (b : ℕ → Start) (vars : List VarId) (n : ℕ) (l : Literal) → IsBound vars n b l → AllSane b vars → AllSane (kept b l) vars
kept-all-sane b vars n l k s =
    each_map (λ u. IsSane (b u.0)) (λ u. IsSane (kept b l u.0)) vars (λ u h. kept_sane b l u.0 k.value k.end_is k.has k.holds h) s

pub kept-smaller : (inside : ℕ → Bool) (b : ℕ → Start) (vars : List VarId) (n : ℕ) (l : Literal) → IsBound vars n b l → AllSane b vars
    → IsSmaller inside vars (kept b l) b
kept-smaller inside b vars n l k s = record {
  parts =
      each_map (λ u. IsSane (b u.0)) (λ u. IsPart (inside u.0) (kept b l u.0) (b u.0)) vars
      (λ u h. part (inside u.0) (kept b l u.0) (b u.0) (kept_sane b l u.0 k.value k.end_is k.has k.holds h) h (λ x t. kept_has b l u.0 x k.end_is t)) s;
}

pub smaller-within : (inside : ℕ → Bool) (vars : List VarId) (small large : ℕ → Start) → IsSmaller inside vars small large
    → AreWithin vars (hulls small) (hulls large)
smaller-within inside vars small large s = record {
  parts =
      each_map (λ u. IsPart (inside u.0) (small u.0) (large u.0)) (λ u. EndsIn (hulls small u.0) (hulls large u.0)) vars
      (λ u p. record { low = p.low; order = p.cell.low (hi_of (small u.0)) p.cell.greatest; high = p.high }) s.parts;
}

pub kept-fits : (b : ℕ → Start) (vars : List VarId) (n : ℕ) (l : Literal) (fits : (ℕ → Ends) → Type 0) → FitsLaw vars fits → IsBound vars n b l → AllSane b vars
    → fits (hulls b) → fits (hulls (kept b l))
kept-fits b vars n l fits law k s f =
    law (hulls (kept b l)) (hulls b) (smaller-within (λ v. true) vars (kept b l) b (kept-smaller (λ v. true) b vars n l k s)) f

-- ---- steps from an end

pub size_is : (c : Start) → IsSane c → (lo_of c +ℤ pos (size_of c)) ≡ hi_of c
size_is c s =
    let ends : lo_of c ≤ℤ hi_of c = sane-ends c s in
    let e : pos (size_of c) ≡ (hi_of c -ℤ lo_of c) = natural_is (hi_of c -ℤ lo_of c) (omega (arith, ints)) in
    omega (arith, ints)

-- a box that keeps some step is one with a bound more
pub trim-bound : (b : ℕ → Start) (vars : List VarId) (n : ℕ) (u : VarId) (side : Side) (steps : ℕ) → AllBelow n vars → IsSane (b u.0) → 0 < steps
    → IsBound vars n b (trim side u (lo_of (b u.0)) (hi_of (b u.0)) steps)
trim-bound b vars n u Low steps h s some =
    let k : IsCell (b u.0) = sane-cell (b u.0) s in
    record {
      below = h;
      end_is = refl;
      value = lo_of (b u.0);
      has = k.least;
      holds = holds_le (below u (lo_of (b u.0) +ℤ pos steps)) (lo_of (b u.0)) refl (omega (arith, ints));
    }
trim-bound b vars n u High steps h s some =
    let k : IsCell (b u.0) = sane-cell (b u.0) s in
    record {
      below = h;
      end_is = refl;
      value = hi_of (b u.0);
      has = k.greatest;
      holds = holds_ge (above u (hi_of (b u.0) -ℤ pos steps)) (hi_of (b u.0)) refl (omega (arith, ints));
    }

-- what holds under fewer steps holds under more
trim-more : (u : VarId) (side : Side) (lo hi : ℤ) (few many : ℕ) (x : ℤ) → few ≤ many → holds_at (trim side u lo hi few) x ≡ true → holds_at (trim side u lo hi many) x ≡ true
trim-more u Low lo hi few many x le h =
    let most : x ≤ℤ ((lo +ℤ pos few) -ℤ pos 1) = le_holds (below u (lo +ℤ pos few)) x refl h in
    holds_le (below u (lo +ℤ pos many)) x refl (omega (arith, ints))
trim-more u High lo hi few many x le h =
    let least : ((hi -ℤ pos few) +ℤ pos 1) ≤ℤ x = ge_holds (above u (hi -ℤ pos few)) x refl h in
    holds_ge (above u (hi -ℤ pos many)) x refl (omega (arith, ints))

pub trim-var : (u : VarId) (side : Side) (lo hi : ℤ) (n : ℕ) → (trim side u lo hi n).var ≡ u
trim-var u Low lo hi n = refl
trim-var u High lo hi n = refl

trim-end : (u : VarId) (side : Side) (lo hi : ℤ) (n : ℕ) → is_end (trim side u lo hi n).rel ≡ true
trim-end u Low lo hi n = refl
trim-end u High lo hi n = refl

pub holds_there : (b : ℕ → Start) (l : Literal) (v : ℕ) (x : ℤ) → is_end l.rel ≡ true → v ≡ l.var.0 → has_of (kept b l v) x ≡ true → holds_at l x ≡ true
holds_there b l v x e same h = kept_holds b l x e (ap (λ (w : ℕ). has_of (kept b l w) x) (sym same) ∙ h)

-- fewer steps are refuted where more are
pub fewer : (refuted : (ℕ → Start) → Bool) (inside : ℕ → Bool) (vars : List VarId) (b : ℕ → Start) (n : ℕ) (u : VarId) (side : Side) (few many : ℕ)
    → ShrinkLaw inside vars refuted → AllBelow n vars → AllSane b vars → IsSane (b u.0) → 0 < few → few ≤ many
    → steps_refuted refuted b u side many ≡ true → steps_refuted refuted b u side few ≡ true
fewer refuted inside vars b n u side few many law h all s some le r =
    let k : IsBound vars n b (trim side u (lo_of (b u.0)) (hi_of (b u.0)) few) = trim-bound b vars n u side few h s some in
    let m : IsBound vars n b (trim side u (lo_of (b u.0)) (hi_of (b u.0)) many) = trim-bound b vars n u side many h s (omega arith) in
    law (kept b (trim side u (lo_of (b u.0)) (hi_of (b u.0)) few)) (kept b (trim side u (lo_of (b u.0)) (hi_of (b u.0)) many))
    (record {
      parts = each_map (λ w. IsSane (b w.0))
          (λ w. IsPart (inside w.0) (kept b (trim side u (lo_of (b u.0)) (hi_of (b u.0)) few) w.0) (kept b (trim side u (lo_of (b u.0)) (hi_of (b u.0)) many) w.0)) vars
          (λ w t. part (inside w.0) _ _ (kept_sane b (trim side u (lo_of (b u.0)) (hi_of (b u.0)) few) w.0 k.value k.end_is k.has k.holds t)
          (kept_sane b (trim side u (lo_of (b u.0)) (hi_of (b u.0)) many) w.0 m.value m.end_is m.has m.holds t)
          (λ x g. in_kept b (trim side u (lo_of (b u.0)) (hi_of (b u.0)) many) w.0 x m.end_is
          (kept_has b (trim side u (lo_of (b u.0)) (hi_of (b u.0)) few) w.0 x k.end_is g)
          (λ e. trim-more u side (lo_of (b u.0)) (hi_of (b u.0)) few many x le
          (holds_there b (trim side u (lo_of (b u.0)) (hi_of (b u.0)) few) w.0 x k.end_is
          (e ∙ ap (λ (y : VarId). y.0) (trim-var u side (lo_of (b u.0)) (hi_of (b u.0)) many ∙ sym (trim-var u side (lo_of (b u.0)) (hi_of (b u.0)) few))) g)))) all;
    }) r

-- ---- the box of one assignment

only_value : (x y : ℤ) → has_of (Span x x) y ≡ true → y ≡ x
only_value x y h =
    let low : x ≤ℤ y = le_true x y (and_first (int_le x y) (int_le y x) h) in
    let high : y ≤ℤ x = le_true y x (and_second (int_le x y) (int_le y x) h) in
    omega (arith, ints)

pub point-smaller : (inside : ℕ → Bool) (vars : List VarId) (b : ℕ → Start) (a : List ℤ) → AllSane b vars → IsWithin b vars a
    → IsSmaller inside vars (point a) b
point-smaller inside vars b a s w = record {
  parts =
      each_both (λ u. IsSane (b u.0)) (λ u. has_of (b u.0) (entry_at a u.0) ≡ true) (λ u. IsPart (inside u.0) (point a u.0) (b u.0)) vars
      (λ u t h. part (inside u.0) (point a u.0) (b u.0) (omega (arith, ints)) t
      (λ y g. ap (λ (z : ℤ). has_of (b u.0) z) (only_value (entry_at a u.0) y g) ∙ h)) s w;
}

-- the refute law follows from the shrink law and the fixed law
pub never_met : (inside : ℕ → Bool) (vars : List VarId) (met : List ℤ → Bool) (refuted : (ℕ → Start) → Bool) (b : ℕ → Start)
    → ShrinkLaw inside vars refuted → FixedLaw refuted met → AllSane b vars → refuted b ≡ true → IsUnmet met vars b
never_met inside vars met refuted b shrink fixed s r a w =
    not_true (met a) (sym (fixed a) ∙ shrink (point a) b (point-smaller inside vars b a s w) r)
