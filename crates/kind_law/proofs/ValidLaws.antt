-- A reason holds wherever its kind is met, and a box whose cells are fixed is refuted exactly where it is not.
use Rattle.std.proofs.Common.{◌≡◌, ℕ, ◌==◌, Bool, true, false, not, List, [], ◌∷◌, map, ℤ, if◌then◌else◌, refl, sym, ◌∙◌, ap, subst, inl, inr, Option, Some, None, int_le, ◌≤ℤ◌, arith}
use Rattle.std.proofs.lemmas.Int.{ints}
use Rattle.std.proofs.lemmas.Bool.Decides.{Decides-eqb}
use Rattle.dom_core.specs.Assignment.{entry_at}
use Rattle.dom_core.specs.Literal.{holds_at, negation, is_satisfied}
use Rattle.dom_core.specs.declared.literal.Literal.{Literal}
use Rattle.dom_core.specs.declared.var_id.VarId.{VarId}
use Rattle.dom_core.proofs.TestLaws.{and_both, and_first, and_second, le_true, true_le, true_or_false, neither, not_both}
use Rattle.dom_cells.specs.declared.start.Start.{Start}
use Rattle.dom_cells.specs.Box.{Box, start_at, against}
use Rattle.dom_cells.specs.Cell.{has_of, lo_of, hi_of, IsCell, IsPart, IsSane}
use Rattle.dom_cells.specs.declared.start.Start.TheVariants.{Span}
use Rattle.dom_cells.proofs.BoxLaws.{sane-cell, sane-cut_all, same_or_other, false_same}
use Rattle.kind_law.specs.DefineLaws.{AreFixed}
use Rattle.kind_law.specs.Laws.{AllSane, IsSmaller, IsWithin, ShrinkLaw, FixedLaw, point}
use Rattle.kind_law.specs.Reason.{IsReason, survives}
use Rattle.kind_law.proofs.EachLaws.{each_map, each_both}
use Rattle.kind_law.proofs.BoundLaws.{never_met, part}
use Rattle.kind_law.proofs.ReasonLaws.{AllSuited, fine-suited, suited-append, negations-suit, against_has}

-- where no literal of the clause holds, each value meets none of them
pub unsatisfied_survives : (v : ℕ) (ls : List Literal) (a : List ℤ) → is_satisfied ls a ≡ false → survives v ls (entry_at a v) ≡ true
unsatisfied_survives v [] a h = refl
unsatisfied_survives v (l ∷ ls) a h =
    let here : holds_at l (entry_at a l.var.0) ≡ false = (neither (holds_at l (entry_at a l.var.0)) (is_satisfied ls a) h).0 in
    and_both (if v == l.var.0 then not (holds_at l (entry_at a v)) else true) (survives v ls (entry_at a v))
    (elim (same_or_other v l.var.0) [
      | inl same ↦ ap (λ (b : Bool). if b then not (holds_at l (entry_at a v)) else true) ((Decides-eqb v l.var.0).1 same)
          ∙ ap not (ap (λ (w : ℕ). holds_at l (entry_at a w)) same ∙ here)
      | inr other ↦ ap (λ (b : Bool). if b then not (holds_at l (entry_at a v)) else true) (false_same v l.var.0 other)
    ])
    (unsatisfied_survives v ls a (neither (holds_at l (entry_at a l.var.0)) (is_satisfied ls a) h).1)

pub reason_suited : (refuted : (ℕ → Start) → Bool) (m : Box) (implied : Option Literal) (ls : List Literal) → IsReason refuted m implied ls → AllSuited m ls
reason_suited refuted m None ls r = subst (AllSuited m) (sym r.whole) (suited-append m r.front [] (fine-suited m r.front r.fine) tt)
reason_suited refuted m (Some l) ls r = subst (AllSuited m) (sym r.whole) (suited-append m r.front (l ∷ []) (fine-suited m r.front r.fine) (r.last.suit, tt))

pub reason_holds : (refuted : (ℕ → Start) → Bool) (inside : ℕ → Bool) (vars : List VarId) (met : List ℤ → Bool) (m : Box) (implied : Option Literal) (ls : List Literal)
    → ShrinkLaw inside vars refuted → FixedLaw refuted met → AllSane (start_at m.starts) vars → IsReason refuted m implied ls
    → (a : List ℤ) → IsWithin (start_at m.starts) vars a → met a ≡ true → is_satisfied ls a ≡ true
reason_holds refuted inside vars met m implied ls shrink fixed sane r a within meets =
    elim (true_or_false (is_satisfied ls a)) [
      | inl holds ↦ holds
      | inr fails ↦ (let suited : AllSuited m ls = reason_suited refuted m implied ls r in
          let inside_it : IsWithin (against m ls) vars a =
          each_map (λ u. has_of (start_at m.starts u.0) (entry_at a u.0) ≡ true) (λ u. has_of (against m ls u.0) (entry_at a u.0) ≡ true) vars
          (λ u h. against_has m ls u.0 (entry_at a u.0) suited
          ∙ and_both (has_of (start_at m.starts u.0) (entry_at a u.0)) (survives u.0 ls (entry_at a u.0)) h (unsatisfied_survives u.0 ls a fails)) within in
          let cells : AllSane (against m ls) vars =
          each_both (λ u. IsSane (start_at m.starts u.0)) (λ u. has_of (against m ls u.0) (entry_at a u.0) ≡ true) (λ u. IsSane (against m ls u.0)) vars
          (λ u s h. sane-cut_all u.0 (start_at m.starts u.0) (map negation ls) (entry_at a u.0) (negations-suit m u.0 ls suited) s h) sane inside_it in
          absurd (not_both (met a) meets (never_met inside vars met refuted (against m ls) shrink fixed cells r.against_it a inside_it)))
    ]

-- ---- boxes whose cells are fixed

-- a fixed cell has its one value alone
fixed_in : (c : Start) (y x : ℤ) → IsSane c → (lo_of c ≡ y) × (hi_of c ≡ y) → has_of c x ≡ true → has_of (Span y y) x ≡ true
fixed_in c y x s f h =
    let k : IsCell c = sane-cell c s in
    let lo : lo_of c ≡ y = f.0 in
    let hi : hi_of c ≡ y = f.1 in
    let low : lo_of c ≤ℤ x = k.low x h in
    let high : x ≤ℤ hi_of c = k.high x h in
    and_both (int_le y x) (int_le x y) (true_le y x (omega (arith, ints))) (true_le x y (omega (arith, ints)))

in_fixed : (c : Start) (y x : ℤ) → IsSane c → (lo_of c ≡ y) × (hi_of c ≡ y) → has_of (Span y y) x ≡ true → has_of c x ≡ true
in_fixed c y x s f h =
    let k : IsCell c = sane-cell c s in
    let low : y ≤ℤ x = le_true y x (and_first (int_le y x) (int_le x y) h) in
    let high : x ≤ℤ y = le_true x y (and_second (int_le y x) (int_le x y) h) in
    let lo : lo_of c ≡ y = f.0 in
    let same : lo_of c ≡ x = omega (arith, ints) in
    subst (λ (z : ℤ). has_of c z ≡ true) same k.least

one_sane : (y : ℤ) → IsSane (Span y y)
one_sane y = omega (arith, ints)

fixed_small : (inside : ℕ → Bool) (vars : List VarId) (b : ℕ → Start) (a : List ℤ) → AllSane b vars → AreFixed b vars a → IsSmaller inside vars b (point a)
fixed_small inside vars b a s f =
    record {
      parts = each_both (λ u. IsSane (b u.0)) (λ u. (lo_of (b u.0) ≡ entry_at a u.0) × (hi_of (b u.0) ≡ entry_at a u.0)) (λ u. IsPart (inside u.0) (b u.0) (point a u.0)) vars
          (λ u t g. part (inside u.0) (b u.0) (point a u.0) t (one_sane (entry_at a u.0)) (λ x h. fixed_in (b u.0) (entry_at a u.0) x t g h)) s f;
    }

fixed_large : (inside : ℕ → Bool) (vars : List VarId) (b : ℕ → Start) (a : List ℤ) → AllSane b vars → AreFixed b vars a → IsSmaller inside vars (point a) b
fixed_large inside vars b a s f =
    record {
      parts = each_both (λ u. IsSane (b u.0)) (λ u. (lo_of (b u.0) ≡ entry_at a u.0) × (hi_of (b u.0) ≡ entry_at a u.0)) (λ u. IsPart (inside u.0) (point a u.0) (b u.0)) vars
          (λ u t g. part (inside u.0) (point a u.0) (b u.0) (one_sane (entry_at a u.0)) t (λ x h. in_fixed (b u.0) (entry_at a u.0) x t g h)) s f;
    }

pub all_fixed : (inside : ℕ → Bool) (vars : List VarId) (refuted : (ℕ → Start) → Bool) (met : List ℤ → Bool) (b : ℕ → Start) (a : List ℤ)
    → ShrinkLaw inside vars refuted → FixedLaw refuted met → AllSane b vars → AreFixed b vars a → refuted b ≡ not (met a)
all_fixed inside vars refuted met b a shrink fixed s f =
    elim (true_or_false (refuted (point a))) [
      | inl t ↦ shrink b (point a) (fixed_small inside vars b a s f) t ∙ sym t ∙ fixed a
      | inr n ↦ elim (true_or_false (refuted b)) [
        | inl t ↦ absurd (not_both (refuted (point a)) (shrink (point a) b (fixed_large inside vars b a s f) t) n)
        | inr m ↦ m ∙ sym n ∙ fixed a
      ]
    ]
