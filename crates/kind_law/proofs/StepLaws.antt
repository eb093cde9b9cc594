-- Steps from an end of a cell, and the ends that they imply.
use Rattle.std.proofs.Common.{◌≡◌, ◌∙◌, ap, sym, ℕ, ◌<◌, ◌≤◌, ◌^◌, Bool, true, false, nat_lt, ℤ, pos, ◌+ℤ◌, ◌-ℤ◌, ◌<ℤ◌, ◌≤ℤ◌, Some, None, Option, ◌⊎◌, inl, inr, refl, subst, arith, FitsSigned, w64, to_z, of_z}
use Rattle.std.proofs.lemmas.Int.{ints}
use Rattle.std.specs.Int.{w128}
use Rattle.dom_cells.specs.Box.{kept}
use Rattle.dom_cells.specs.Cell.{IsCell, IsSane, has_of, lo_of, hi_of}
use Rattle.dom_cells.specs.Flagged.{IsFloor, IsCeiling}
use Rattle.dom_cells.specs.declared.start.Start.{Start}
use Rattle.dom_cells.proofs.BoxLaws.{sane-cell}
use Rattle.dom_core.specs.declared.literal.Literal.{Literal}
use Rattle.dom_core.specs.declared.literal.Rel.{Rel}
use Rattle.dom_core.specs.declared.literal.Rel.TheVariants.{Le, Ge}
use Rattle.dom_core.specs.declared.var_id.VarId.{VarId}
use Rattle.dom_core.proofs.LiteralLaws.{holds_le, holds_ge, le_holds, ge_holds}
use Rattle.dom_core.proofs.RisesLaws.{natural_is}
use Rattle.dom_core.proofs.TestLaws.{not_both}
use Rattle.kind_law.specs.Next.{below, above, size_of, IsImpliedLow, IsImpliedHigh}
use Rattle.kind_law.specs.Steps.{AreFew, IsStepReach, lost_high, lost_low, FallsBy, RisesBy, GivesEnd, IsEndWithin}
use Rattle.kind_law.specs.declared.side.Side.{Side}
use Rattle.kind_law.specs.declared.side.Side.TheVariants.{Low, High}
use Rattle.kind_law.proofs.BoundLaws.{kept_has, kept_holds, in_kept, kept_sane, size_is}

-- ---- tests of natural numbers

less_or_not : (m n : ℕ) → (m < n) ⊎ (n ≤ m)
less_or_not m n = grind arith

true_lt : (m n : ℕ) → m < n → nat_lt m n ≡ true
true_lt m n h = grind arith

false_lt : (m n : ℕ) → n ≤ m → nat_lt m n ≡ false
false_lt m n h = grind arith

-- ---- the ends of a cell with one bound more

pub low_holds : (b : ℕ → Start) (u : VarId) (v : ℤ) → IsSane (b u.0) → lo_of (b u.0) <ℤ v → IsSane (kept b (below u v) u.0)
low_holds b u v s h =
    kept_sane b (below u v) u.0 (lo_of (b u.0)) refl (sane-cell (b u.0) s).least (holds_le (below u v) (lo_of (b u.0)) refl (omega (arith, ints))) s

pub high_holds : (b : ℕ → Start) (u : VarId) (v : ℤ) → IsSane (b u.0) → v <ℤ hi_of (b u.0) → IsSane (kept b (above u v) u.0)
high_holds b u v s h =
    kept_sane b (above u v) u.0 (hi_of (b u.0)) refl (sane-cell (b u.0) s).greatest (holds_ge (above u v) (hi_of (b u.0)) refl (omega (arith, ints))) s

below-floor : (b : ℕ → Start) (u : VarId) (v : ℤ) → IsSane (b u.0) → lo_of (b u.0) <ℤ v → IsFloor (has_of (b u.0)) (v -ℤ pos 1) (hi_of (kept b (below u v) u.0))
below-floor b u v s h =
    let k : IsCell (kept b (below u v) u.0) = sane-cell (kept b (below u v) u.0) (low_holds b u v s h) in
    record {
      has = kept_has b (below u v) u.0 (hi_of (kept b (below u v) u.0)) refl k.greatest;
      at_most = le_holds (below u v) (hi_of (kept b (below u v) u.0)) refl (kept_holds b (below u v) (hi_of (kept b (below u v) u.0)) refl k.greatest);
      greatest = λ x g le. k.high x (in_kept b (below u v) u.0 x refl g (λ e. holds_le (below u v) x refl le));
    }

above-ceiling : (b : ℕ → Start) (u : VarId) (v : ℤ) → IsSane (b u.0) → v <ℤ hi_of (b u.0) → IsCeiling (has_of (b u.0)) (v +ℤ pos 1) (lo_of (kept b (above u v) u.0))
above-ceiling b u v s h =
    let k : IsCell (kept b (above u v) u.0) = sane-cell (kept b (above u v) u.0) (high_holds b u v s h) in
    record {
      has = kept_has b (above u v) u.0 (lo_of (kept b (above u v) u.0)) refl k.least;
      at_least = ge_holds (above u v) (lo_of (kept b (above u v) u.0)) refl (kept_holds b (above u v) (lo_of (kept b (above u v) u.0)) refl k.least);
      least = λ x g le. k.low x (in_kept b (above u v) u.0 x refl g (λ e. holds_ge (above u v) x refl le));
    }

pub lost_high_is : (b : ℕ → Start) (u : VarId) (v : ℤ) → IsSane (b u.0) → lo_of (b u.0) <ℤ v
    → (pos (lost_high b u v) ≡ (hi_of (b u.0) -ℤ hi_of (kept b (below u v) u.0))) × (lost_high b u v ≤ size_of (b u.0))
lost_high_is b u v s h =
    let k : IsCell (b u.0) = sane-cell (b u.0) s in
    let f : IsFloor (has_of (b u.0)) (v -ℤ pos 1) (hi_of (kept b (below u v) u.0)) = below-floor b u v s h in
    let low : lo_of (b u.0) ≤ℤ hi_of (kept b (below u v) u.0) = k.low (hi_of (kept b (below u v) u.0)) f.has in
    let high : hi_of (kept b (below u v) u.0) ≤ℤ hi_of (b u.0) = k.high (hi_of (kept b (below u v) u.0)) f.has in
    let size : (lo_of (b u.0) +ℤ pos (size_of (b u.0))) ≡ hi_of (b u.0) = size_is (b u.0) s in
    let e : pos (lost_high b u v) ≡ (hi_of (b u.0) -ℤ hi_of (kept b (below u v) u.0)) = natural_is (hi_of (b u.0) -ℤ hi_of (kept b (below u v) u.0)) (omega (arith, ints)) in
    (e, omega (arith, ints))

pub lost_low_is : (b : ℕ → Start) (u : VarId) (v : ℤ) → IsSane (b u.0) → v <ℤ hi_of (b u.0)
    → (pos (lost_low b u v) ≡ (lo_of (kept b (above u v) u.0) -ℤ lo_of (b u.0))) × (lost_low b u v ≤ size_of (b u.0))
lost_low_is b u v s h =
    let k : IsCell (b u.0) = sane-cell (b u.0) s in
    let f : IsCeiling (has_of (b u.0)) (v +ℤ pos 1) (lo_of (kept b (above u v) u.0)) = above-ceiling b u v s h in
    let low : lo_of (b u.0) ≤ℤ lo_of (kept b (above u v) u.0) = k.low (lo_of (kept b (above u v) u.0)) f.has in
    let high : lo_of (kept b (above u v) u.0) ≤ℤ hi_of (b u.0) = k.high (lo_of (kept b (above u v) u.0)) f.has in
    let size : (lo_of (b u.0) +ℤ pos (size_of (b u.0))) ≡ hi_of (b u.0) = size_is (b u.0) s in
    let e : pos (lost_low b u v) ≡ (lo_of (kept b (above u v) u.0) -ℤ lo_of (b u.0)) = natural_is (lo_of (kept b (above u v) u.0) -ℤ lo_of (b u.0)) (omega (arith, ints)) in
    (e, omega (arith, ints))

-- ---- from reaches to ends

at_most_or_more : (x y : ℤ) → (x ≤ℤ y) ⊎ (y <ℤ x)
at_most_or_more x y = grind (arith, ints)

-- the bound at the least value within the reach moves the greatest value beyond it
far_high : (b : ℕ → Start) (u : VarId) (n : ℕ) (r : ℤ) → IsSane (b u.0) → IsCeiling (has_of (b u.0)) (hi_of (b u.0) -ℤ pos n) r → lo_of (b u.0) <ℤ r
    → n < lost_high b u r
far_high b u n r s near low =
    let f : IsFloor (has_of (b u.0)) (r -ℤ pos 1) (hi_of (kept b (below u r) u.0)) = below-floor b u r s low in
    let e : pos (lost_high b u r) ≡ (hi_of (b u.0) -ℤ hi_of (kept b (below u r) u.0)) = (lost_high_is b u r s low).0 in
    let top : hi_of (kept b (below u r) u.0) ≤ℤ (r -ℤ pos 1) = f.at_most in
    elim (less_or_not n (lost_high b u r)) [
      | inl lt ↦ lt
      | inr le ↦ (let g : r ≤ℤ hi_of (kept b (below u r) u.0) = near.least (hi_of (kept b (below u r) u.0)) f.has (omega (arith, ints)) in absurd (omega (arith, ints)))
    ]

close_high : (b : ℕ → Start) (u : VarId) (n : ℕ) (r w : ℤ) → IsSane (b u.0) → IsCeiling (has_of (b u.0)) (hi_of (b u.0) -ℤ pos n) r → lo_of (b u.0) <ℤ w
    → r <ℤ w → lost_high b u w ≤ n
close_high b u n r w s near low gt =
    let f : IsFloor (has_of (b u.0)) (w -ℤ pos 1) (hi_of (kept b (below u w) u.0)) = below-floor b u w s low in
    let e : pos (lost_high b u w) ≡ (hi_of (b u.0) -ℤ hi_of (kept b (below u w) u.0)) = (lost_high_is b u w s low).0 in
    let top : r ≤ℤ hi_of (kept b (below u w) u.0) = f.greatest r near.has (omega (arith, ints)) in
    let at : (hi_of (b u.0) -ℤ pos n) ≤ℤ r = near.at_least in
    omega (arith, ints)

far_low : (b : ℕ → Start) (u : VarId) (n : ℕ) (r : ℤ) → IsSane (b u.0) → IsFloor (has_of (b u.0)) (lo_of (b u.0) +ℤ pos n) r → r <ℤ hi_of (b u.0)
    → n < lost_low b u r
far_low b u n r s near high =
    let f : IsCeiling (has_of (b u.0)) (r +ℤ pos 1) (lo_of (kept b (above u r) u.0)) = above-ceiling b u r s high in
    let e : pos (lost_low b u r) ≡ (lo_of (kept b (above u r) u.0) -ℤ lo_of (b u.0)) = (lost_low_is b u r s high).0 in
    let top : (r +ℤ pos 1) ≤ℤ lo_of (kept b (above u r) u.0) = f.at_least in
    elim (less_or_not n (lost_low b u r)) [
      | inl lt ↦ lt
      | inr le ↦ (let g : lo_of (kept b (above u r) u.0) ≤ℤ r = near.greatest (lo_of (kept b (above u r) u.0)) f.has (omega (arith, ints)) in absurd (omega (arith, ints)))
    ]

close_low : (b : ℕ → Start) (u : VarId) (n : ℕ) (r w : ℤ) → IsSane (b u.0) → IsFloor (has_of (b u.0)) (lo_of (b u.0) +ℤ pos n) r → w <ℤ hi_of (b u.0)
    → w <ℤ r → lost_low b u w ≤ n
close_low b u n r w s near high lt =
    let f : IsCeiling (has_of (b u.0)) (w +ℤ pos 1) (lo_of (kept b (above u w) u.0)) = above-ceiling b u w s high in
    let e : pos (lost_low b u w) ≡ (lo_of (kept b (above u w) u.0) -ℤ lo_of (b u.0)) = (lost_low_is b u w s high).0 in
    let top : lo_of (kept b (above u w) u.0) ≤ℤ r = f.least r near.has (omega (arith, ints)) in
    let at : r ≤ℤ (lo_of (b u.0) +ℤ pos n) = near.at_most in
    omega (arith, ints)

module _ (refuted : (ℕ → Start) → Bool) (b : ℕ → Start) (u : VarId) (s : IsSane (b u.0)) (test : ℕ → Bool) where
  pub low_none : FallsBy refuted b u test → IsStepReach test (size_of (b u.0)) None → IsImpliedLow refuted b u None
  low_none falls reach v e =
      not_both (refuted (kept b (below u v))) e.refutes (falls v e.low ∙ reach (lost_high b u v) (lost_high_is b u v s e.low).1)

  pub high_none : RisesBy refuted b u test → IsStepReach test (size_of (b u.0)) None → IsImpliedHigh refuted b u None
  high_none rises reach v e =
      not_both (refuted (kept b (above u v))) e.refutes (rises v e.high ∙ reach (lost_low b u v) (lost_low_is b u v s e.high).1)

  pub low_some : (n : ℕ) (r : ℤ) → FallsBy refuted b u test → IsStepReach test (size_of (b u.0)) (Some n)
      → IsCeiling (has_of (b u.0)) (hi_of (b u.0) -ℤ pos n) r → IsImpliedLow refuted b u (Some (record { var = u; rel = Ge; value = r }))
  low_some n r falls reach near =
      let k : IsCell (b u.0) = sane-cell (b u.0) s in
      let size : (lo_of (b u.0) +ℤ pos (size_of (b u.0))) ≡ hi_of (b u.0) = size_is (b u.0) s in
      let few : n < size_of (b u.0) = reach.0 in
      let at : (hi_of (b u.0) -ℤ pos n) ≤ℤ r = near.at_least in
      let low : lo_of (b u.0) <ℤ r = omega (arith, ints) in
      let high : r ≤ℤ hi_of (b u.0) = near.least (hi_of (b u.0)) k.greatest (omega (arith, ints)) in (
        refl,
        refl,
        record {
          low = low;
          high = high;
          refutes = falls r low ∙ reach.1 (lost_high b u r) (lost_high_is b u r s low).1 ∙ true_lt n (lost_high b u r) (far_high b u n r s near low);
        },
        λ w e. elim (at_most_or_more w r) [
          | inl le ↦ le
          | inr gt ↦ absurd (not_both (refuted (kept b (below u w))) e.refutes
              (falls w e.low ∙ reach.1 (lost_high b u w) (lost_high_is b u w s e.low).1 ∙ false_lt n (lost_high b u w) (close_high b u n r w s near e.low gt)))
        ],
      )

  pub high_some : (n : ℕ) (r : ℤ) → RisesBy refuted b u test → IsStepReach test (size_of (b u.0)) (Some n)
      → IsFloor (has_of (b u.0)) (lo_of (b u.0) +ℤ pos n) r → IsImpliedHigh refuted b u (Some (record { var = u; rel = Le; value = r }))
  high_some n r rises reach near =
      let k : IsCell (b u.0) = sane-cell (b u.0) s in
      let size : (lo_of (b u.0) +ℤ pos (size_of (b u.0))) ≡ hi_of (b u.0) = size_is (b u.0) s in
      let few : n < size_of (b u.0) = reach.0 in
      let at : r ≤ℤ (lo_of (b u.0) +ℤ pos n) = near.at_most in
      let high : r <ℤ hi_of (b u.0) = omega (arith, ints) in
      let low : lo_of (b u.0) ≤ℤ r = near.greatest (lo_of (b u.0)) k.least (omega (arith, ints)) in (
        refl,
        refl,
        record {
          low = low;
          high = high;
          refutes = rises r high ∙ reach.1 (lost_low b u r) (lost_low_is b u r s high).1 ∙ true_lt n (lost_low b u r) (far_low b u n r s near high);
        },
        λ w e. elim (at_most_or_more r w) [
          | inl le ↦ le
          | inr gt ↦ absurd (not_both (refuted (kept b (above u w))) e.refutes
              (rises w e.high ∙ reach.1 (lost_low b u w) (lost_low_is b u w s e.high).1 ∙ false_lt n (lost_low b u w) (close_low b u n r w s near e.high gt)))
        ],
      )

-- ---- either side

pub reach_few : (test : ℕ → Bool) (c : Start) (r : Option ℕ) → IsStepReach test (size_of c) r → AreFew c r
reach_few test c None h = tt
reach_few test c (Some n) h = h.0

pub gives_none : (b : ℕ → Start) (u : VarId) (side : Side) → IsSane (b u.0) → GivesEnd b u side None None
gives_none b u Low s refuted test moves reach = low_none refuted b u s test moves reach
gives_none b u High s refuted test moves reach = high_none refuted b u s test moves reach

literal_is : (l : Literal) (u : VarId) → l.var ≡ u → (r : Rel) → l.rel ≡ r → l ≡ record { var = u; rel = r; value = l.value }
literal_is l u e r f =
    ap (λ (v : VarId). let m : Literal = record { var = v; rel = l.rel; value = l.value } in m) e
    ∙ ap (λ (q : Rel). let m : Literal = record { var = u; rel = q; value = l.value } in m) f

pub gives_some : (b : ℕ → Start) (u : VarId) (side : Side) (n : ℕ) (l : Literal) → IsSane (b u.0) → IsEndWithin b u side n l → GivesEnd b u side (Some n) (Some l)
gives_some b u Low n l s w refuted test moves reach =
    subst (λ (m : Literal). IsImpliedLow refuted b u (Some m)) (sym (literal_is l u w.0 Ge w.1)) (low_some refuted b u s test n l.value moves reach w.2)
gives_some b u High n l s w refuted test moves reach =
    subst (λ (m : Literal). IsImpliedHigh refuted b u (Some m)) (sym (literal_is l u w.0 Le w.1)) (high_some refuted b u s test n l.value moves reach w.2)

-- ---- values near an end, as a machine computes them

near_fits : (lo hi near : ℤ) → FitsSigned w64 lo → FitsSigned w64 hi → lo ≤ℤ near → near ≤ℤ hi → FitsSigned w64 near
near_fits lo hi near f g low high = omega (arith, ints)

-- so many steps below the greatest value
pub near_high_is : (c : Start) (lo hi : ℤ) (n : ℕ) → FitsSigned w64 lo → FitsSigned w64 hi → n < 2 ^ 64 → lo ≡ lo_of c → hi ≡ hi_of c → IsSane c → n < size_of c
    → (to_z w128 (of_z w128 (to_z w128 (of_z w128 (to_z w64 (of_z w64 hi))) -ℤ to_z w128 n)) ≡ (hi_of c -ℤ pos n))
    × (lo_of c <ℤ (hi_of c -ℤ pos n)) × ((hi_of c -ℤ pos n) ≤ℤ hi_of c) × FitsSigned w64 (hi_of c -ℤ pos n)
near_high_is c lo hi n f g k e d s few =
    let size : (lo_of c +ℤ pos (size_of c)) ≡ hi_of c = size_is c s in
    (omega (arith, ints), omega (arith, ints), omega (arith, ints), near_fits lo hi (hi_of c -ℤ pos n) f g (omega (arith, ints)) (omega (arith, ints)))

-- so many steps above the least value
pub near_low_is : (c : Start) (lo hi : ℤ) (n : ℕ) → FitsSigned w64 lo → FitsSigned w64 hi → n < 2 ^ 64 → lo ≡ lo_of c → hi ≡ hi_of c → IsSane c → n < size_of c
    → (to_z w128 (of_z w128 (to_z w128 (of_z w128 (to_z w64 (of_z w64 lo))) +ℤ to_z w128 n)) ≡ (lo_of c +ℤ pos n))
    × (lo_of c ≤ℤ (lo_of c +ℤ pos n)) × ((lo_of c +ℤ pos n) <ℤ hi_of c) × FitsSigned w64 (lo_of c +ℤ pos n)
near_low_is c lo hi n f g k e d s few =
    let size : (lo_of c +ℤ pos (size_of c)) ≡ hi_of c = size_is c s in
    (omega (arith, ints), omega (arith, ints), omega (arith, ints), near_fits lo hi (lo_of c +ℤ pos n) f g (omega (arith, ints)) (omega (arith, ints)))
