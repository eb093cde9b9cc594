-- Boxes within boxes: what stays implied, and what stays quiet.
use Rattle.std.proofs.Common.{◌≡◌, ℕ, ◌<◌, Bool, true, false, not, List, ℤ, ◌<ℤ◌, ◌≤ℤ◌, refl, sym, ◌∙◌, ap, subst, arith, inl, inr}
use Rattle.std.proofs.lemmas.Int.{ints}
use Rattle.dom_core.specs.Literal.{holds_at, is_end, negation}
use Rattle.dom_core.specs.declared.literal.Literal.{Literal}
use Rattle.dom_core.specs.declared.var_id.VarId.{VarId}
use Rattle.dom_cells.specs.declared.start.Start.{Start}
use Rattle.dom_cells.specs.Box.{kept, cut_at}
use Rattle.dom_cells.specs.Cell.{has_of, lo_of, hi_of, IsSane, IsPart, IsFalse, IsPossible}
use Rattle.dom_core.proofs.LiteralLaws.{holds_le, holds_ge}
use Rattle.dom_core.proofs.TestLaws.{true_or_false, not_both}
use Rattle.dom_cells.proofs.BoxLaws.{sane-cell}
use Rattle.dom_core.proofs.LiteralLaws.{end_negation, negation_holds}
use Rattle.kind_law.specs.Inside.{AgreeAt, AreSane, IsInside}
use Rattle.kind_law.specs.Laws.{Each, AllBelow, AllSane, IsSmaller, ShrinkLaw}
use Rattle.kind_law.specs.Next.{below, above, IsLowEnd, IsHighEnd, HasNoEnd}
use Rattle.kind_law.specs.Reason.{IsImplied}
use Rattle.kind_law.proofs.EachLaws.{each_map, each_both}
use Rattle.kind_law.proofs.BoundLaws.{part, kept_has, in_kept, holds_there, kept_sane}
use Rattle.kind_law.proofs.VisitLaws.{still_implied}

pub inside_same : (n : ℕ) (b : ℕ → Start) → IsInside n b b
inside_same n b = record { values = λ v lt x h. h }

pub inside_more : (n : ℕ) (a b c : ℕ → Start) → IsInside n a b → IsInside n b c → IsInside n a c
inside_more n a b c p q = record { values = λ v lt x h. q.values v lt x (p.values v lt x h) }

pub all_sane : (n : ℕ) (b : ℕ → Start) (vars : List VarId) → AreSane n b → AllBelow n vars → AllSane b vars
all_sane n b vars s below = each_map (λ u. u.0 < n) (λ u. IsSane (b u.0)) vars (λ u lt. s.cells u.0 lt) below

pub smaller_from : (inside : ℕ → Bool) (vars : List VarId) (n : ℕ) (small large : ℕ → Start) → AllBelow n vars → AreSane n small → AreSane n large → IsInside n small large
    → IsSmaller inside vars small large
smaller_from inside vars n small large below s l p =
    record {
      parts = each_map (λ u. u.0 < n) (λ u. IsPart (inside u.0) (small u.0) (large u.0)) vars
          (λ u lt. part (inside u.0) (small u.0) (large u.0) (s.cells u.0 lt) (l.cells u.0 lt) (p.values u.0 lt)) below;
    }

pub kept_are_sane : (n : ℕ) (b : ℕ → Start) (l : Literal) (x : ℤ) → is_end l.rel ≡ true → has_of (b l.var.0) x ≡ true → holds_at l x ≡ true → AreSane n b → AreSane n (kept b l)
kept_are_sane n b l x e h g s = record { cells = λ v lt. kept_sane b l v x e h g (s.cells v lt) }

pub kept_inside : (n : ℕ) (b : ℕ → Start) (l : Literal) → is_end l.rel ≡ true → IsInside n (kept b l) b
kept_inside n b l e = record { values = λ v lt x h. kept_has b l v x e h }

pub kept_both : (n : ℕ) (small large : ℕ → Start) (l : Literal) → is_end l.rel ≡ true → IsInside n small large → IsInside n (kept small l) (kept large l)
kept_both n small large l e p =
    record { values = λ v lt x h. in_kept large l v x e (p.values v lt x (kept_has small l v x e h)) (λ same. holds_there small l v x e same h) }

-- what was implied of a larger box is implied where it may still hold and may still fail
pub implied_now : (refuted : (ℕ → Start) → Bool) (inside : ℕ → Bool) (vars : List VarId) (n : ℕ) (small large : ℕ → Start) (l : Literal) → ShrinkLaw inside vars refuted
    → AllBelow n vars → AreSane n small → AreSane n large → IsInside n small large → IsImplied refuted large l
    → IsPossible (small l.var.0) l → IsPossible (small l.var.0) (negation l) → IsImplied refuted small l
implied_now refuted inside vars n small large l law below s t p h possible still =
    let e : is_end (negation l).rel ≡ true = end_negation l.rel h.end_is in
    still_implied refuted inside vars small large l law
    (smaller_from inside vars n (kept small (negation l)) (kept large (negation l)) below
    (kept_are_sane n small (negation l) still.value e still.has still.holds s)
    (kept_are_sane n large (negation l) h.open_still.value e h.open_still.has h.open_still.holds t)
    (kept_both n small large (negation l) e p)) possible still h

fails_then_negation : (l : Literal) (x : ℤ) → holds_at l x ≡ false → holds_at (negation l) x ≡ true
fails_then_negation l x f = negation_holds l x ∙ ap not f

-- where it has become false, the box is refuted
pub refuted_now : (refuted : (ℕ → Start) → Bool) (inside : ℕ → Bool) (vars : List VarId) (n : ℕ) (small large : ℕ → Start) (l : Literal) → ShrinkLaw inside vars refuted
    → AllBelow n vars → AreSane n small → AreSane n large → IsInside n small large → IsImplied refuted large l
    → IsFalse (small l.var.0) l → refuted small ≡ true
refuted_now refuted inside vars n small large l law below s t p h gone =
    let e : is_end (negation l).rel ≡ true = end_negation l.rel h.end_is in
    let q : IsInside n small (kept large (negation l)) = record {
      values = λ v lt x g. in_kept large (negation l) v x e (p.values v lt x g)
          (λ same. fails_then_negation l x (gone.none x (subst (λ (w : ℕ). has_of (small w) x ≡ true) same g)));
    } in
    law small (kept large (negation l))
    (smaller_from inside vars n small (kept large (negation l)) below s (kept_are_sane n large (negation l) h.open_still.value e h.open_still.has h.open_still.holds t) q) h.refutes

-- ---- boxes that agree at the variables

agree_part : (inside : Bool) (c d : Start) → IsSane d → c ≡ d → IsPart inside c d
agree_part inside c d s e = part inside c d (subst IsSane (sym e) s) s (λ x h. subst (λ (k : Start). has_of k x ≡ true) e h)

agree_smaller : (inside : ℕ → Bool) (vars : List VarId) (a b : ℕ → Start) → AllSane b vars → AgreeAt a b vars → IsSmaller inside vars a b
agree_smaller inside vars a b s e =
    record { parts = each_both (λ u. IsSane (b u.0)) (λ u. a u.0 ≡ b u.0) (λ u. IsPart (inside u.0) (a u.0) (b u.0)) vars (λ u t g. agree_part (inside u.0) (a u.0) (b u.0) t g) s e }

agree_back : (vars : List VarId) (a b : ℕ → Start) → AgreeAt a b vars → AgreeAt b a vars
agree_back vars a b e = each_map (λ u. a u.0 ≡ b u.0) (λ u. b u.0 ≡ a u.0) vars (λ u g. sym g) e

agree_sane : (vars : List VarId) (a b : ℕ → Start) → AllSane b vars → AgreeAt a b vars → AllSane a vars
agree_sane vars a b s e = each_both (λ u. IsSane (b u.0)) (λ u. a u.0 ≡ b u.0) (λ u. IsSane (a u.0)) vars (λ u t g. subst IsSane (sym g) t) s e

agree_kept : (vars : List VarId) (a b : ℕ → Start) (l : Literal) → AgreeAt a b vars → AgreeAt (kept a l) (kept b l) vars
agree_kept vars a b l e = each_map (λ u. a u.0 ≡ b u.0) (λ u. kept a l u.0 ≡ kept b l u.0) vars (λ u g. ap (λ (c : Start). cut_at u.0 c l) g) e

pub same_refuted : (refuted : (ℕ → Start) → Bool) (inside : ℕ → Bool) (vars : List VarId) (a b : ℕ → Start) → ShrinkLaw inside vars refuted
    → AllSane b vars → AgreeAt a b vars → refuted b ≡ false → refuted a ≡ false
same_refuted refuted inside vars a b law s e h =
    elim (true_or_false (refuted a)) [
      | inl t ↦ absurd (not_both (refuted b) (law b a (agree_smaller inside vars b a (agree_sane vars a b s e) (agree_back vars a b e)) t) h)
      | inr f ↦ f
    ]

kept_all_sane : (vars : List VarId) (b : ℕ → Start) (l : Literal) (x : ℤ) → is_end l.rel ≡ true → has_of (b l.var.0) x ≡ true → holds_at l x ≡ true → AllSane b vars → AllSane (kept b l) vars
kept_all_sane vars b l x e h g s = each_map (λ u. IsSane (b u.0)) (λ u. IsSane (kept b l u.0)) vars (λ u t. kept_sane b l u.0 x e h g t) s

same_low : (refuted : (ℕ → Start) → Bool) (inside : ℕ → Bool) (vars : List VarId) (a b : ℕ → Start) (u : VarId) (v : ℤ) → ShrinkLaw inside vars refuted
    → AllSane b vars → AgreeAt a b vars → IsSane (b u.0) → a u.0 ≡ b u.0 → IsLowEnd refuted a u v → IsLowEnd refuted b u v
same_low refuted inside vars a b u v law s e t g h =
    let lo : lo_of (a u.0) ≡ lo_of (b u.0) = ap lo_of g in
    let hi : hi_of (a u.0) ≡ hi_of (b u.0) = ap hi_of g in
    let low : lo_of (a u.0) <ℤ v = h.low in
    let high : v ≤ℤ hi_of (a u.0) = h.high in
    let sane : AllSane (kept b (below u v)) vars = kept_all_sane vars b (below u v) (lo_of (b u.0)) refl (sane-cell (b u.0) t).least (holds_le (below u v) (lo_of (b u.0)) refl (omega (arith, ints))) s in
    record {
      low = omega (arith, ints);
      high = omega (arith, ints);
      refutes = law (kept b (below u v)) (kept a (below u v))
          (agree_smaller inside vars (kept b (below u v)) (kept a (below u v)) (agree_sane vars (kept a (below u v)) (kept b (below u v)) sane (agree_kept vars a b (below u v) e))
          (agree_back vars (kept a (below u v)) (kept b (below u v)) (agree_kept vars a b (below u v) e))) h.refutes;
    }

same_high : (refuted : (ℕ → Start) → Bool) (inside : ℕ → Bool) (vars : List VarId) (a b : ℕ → Start) (u : VarId) (v : ℤ) → ShrinkLaw inside vars refuted
    → AllSane b vars → AgreeAt a b vars → IsSane (b u.0) → a u.0 ≡ b u.0 → IsHighEnd refuted a u v → IsHighEnd refuted b u v
same_high refuted inside vars a b u v law s e t g h =
    let lo : lo_of (a u.0) ≡ lo_of (b u.0) = ap lo_of g in
    let hi : hi_of (a u.0) ≡ hi_of (b u.0) = ap hi_of g in
    let low : lo_of (a u.0) ≤ℤ v = h.low in
    let high : v <ℤ hi_of (a u.0) = h.high in
    let sane : AllSane (kept b (above u v)) vars = kept_all_sane vars b (above u v) (hi_of (b u.0)) refl (sane-cell (b u.0) t).greatest (holds_ge (above u v) (hi_of (b u.0)) refl (omega (arith, ints))) s in
    record {
      low = omega (arith, ints);
      high = omega (arith, ints);
      refutes = law (kept b (above u v)) (kept a (above u v))
          (agree_smaller inside vars (kept b (above u v)) (kept a (above u v)) (agree_sane vars (kept a (above u v)) (kept b (above u v)) sane (agree_kept vars a b (above u v) e))
          (agree_back vars (kept a (above u v)) (kept b (above u v)) (agree_kept vars a b (above u v) e))) h.refutes;
    }

pub same_none : (refuted : (ℕ → Start) → Bool) (inside : ℕ → Bool) (vars : List VarId) (a b : ℕ → Start) → ShrinkLaw inside vars refuted
    → AllSane b vars → AgreeAt a b vars → Each (HasNoEnd refuted b) vars → Each (HasNoEnd refuted a) vars
same_none refuted inside vars a b law s e none =
    each_both (λ u. IsSane (b u.0) × (a u.0 ≡ b u.0)) (HasNoEnd refuted b) (HasNoEnd refuted a) vars
    (λ u t h. record { low = λ v l. h.low v (same_low refuted inside vars a b u v law s e t.0 t.1 l); high = λ v l. h.high v (same_high refuted inside vars a b u v law s e t.0 t.1 l) })
    (each_both (λ u. IsSane (b u.0)) (λ u. a u.0 ≡ b u.0) (λ u. IsSane (b u.0) × (a u.0 ≡ b u.0)) vars (λ u t g. (t, g)) s e) none

-- the test of a box looks at the variables alone
pub agree_refuted : (refuted : (ℕ → Start) → Bool) (inside : ℕ → Bool) (vars : List VarId) (a b : ℕ → Start) → ShrinkLaw inside vars refuted
    → AllSane b vars → AgreeAt a b vars → refuted a ≡ refuted b
agree_refuted refuted inside vars a b law s e =
    elim (true_or_false (refuted b)) [
      | inl t ↦ law a b (agree_smaller inside vars a b s e) t ∙ sym t
      | inr f ↦ same_refuted refuted inside vars a b law s e f ∙ sym f
    ]
