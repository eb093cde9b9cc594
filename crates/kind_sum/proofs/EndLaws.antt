-- The ends that a sum implies for a variable of one of its terms.
use Rattle.std.proofs.Common.{◌≡◌, ℕ, suc, ◌*◌, Bool, true, false, not, ℤ, pos, negsuc, neg_ℤ, ◌+ℤ◌, ◌-ℤ◌, ◌*ℤ◌, ◌≤ℤ◌, int_lt, int_le, unsigned_abs, if◌then◌else◌, refl, sym, ◌∙◌, ap, arith}
use Rattle.std.proofs.Math.IntN.{pos-*ℤ-pos, negsuc-*ℤ-pos}
use Rattle.std.proofs.lemmas.Int.{ints}
use Rattle.dom_cells.specs.Box.{kept}
use Rattle.dom_cells.specs.Cell.{IsSane, lo_of, hi_of, ends_of}
use Rattle.dom_cells.specs.declared.start.Start.{Start}
use Rattle.dom_cells.proofs.KeptLaws.{kept-lo_le, kept-hi_ge}
use Rattle.dom_core.proofs.EndsLaws.{same_ends}
use Rattle.dom_core.specs.Ends.{Ends, IsOrdered, scaled_ends, replaced_ends}
use Rattle.dom_core.specs.declared.var_id.VarId.{VarId}
use Rattle.kind_law.specs.Laws.{Each}
use Rattle.kind_law.specs.Next.{below, above, size_of}
use Rattle.kind_law.proofs.BoundLaws.{size_is}
use Rattle.kind_law.specs.Steps.{lost_high, lost_low, FallsBy, RisesBy}
use Rattle.kind_law.proofs.StepLaws.{low_holds, high_holds, lost_high_is, lost_low_is}
use Rattle.kind_sum.specs.SumRelation.{SumRelation, sum_vars, sum_refuted}
use Rattle.kind_sum.specs.Reach.{moved_ends, is_pulled_off}
use Rattle.kind_parts.specs.Relation.{refuted_by}
use Rattle.kind_sum.specs.Slack.{IsSlack, pull_of}
use Rattle.kind_sum.specs.SumLaws.{times_difference}
use Rattle.kind_sum.proofs.SlackLaws.{kept_total, rest_ordered}

-- ---- what the steps of one variable make of a sum

-- the multiples of an interval by a factor whose sign is known
abbrev scaled_by : Bool → ℤ → Ends → Ends
scaled_by negative c a = record { lo = if negative then c *ℤ a.hi else c *ℤ a.lo; hi = if negative then c *ℤ a.lo else c *ℤ a.hi }

-- the multiple of so many steps by a factor of that size
abbrev signed : Bool → ℕ → ℤ
signed negative n = if negative then pos 0 -ℤ pos n else pos n

at_least_zero : (a : ℕ) → int_lt (pos a) (pos 0) ≡ false
at_least_zero a = grind (arith, ints)

way_is : (c : ℤ) (d : ℕ) → (c *ℤ pos d) ≡ signed (int_lt c (pos 0)) (unsigned_abs c * d)
way_is (pos a) d = let e : (pos a *ℤ pos d) ≡ pos (a * d) = pos-*ℤ-pos a d in e ∙ ap (λ (t : Bool). signed t (a * d)) (sym (at_least_zero a))
way_is (negsuc a) d = let e : (negsuc a *ℤ pos d) ≡ neg_ℤ (pos (suc a * d)) = negsuc-*ℤ-pos a d in omega (arith, ints)

difference_is : (c x y : ℤ) (d : ℕ) → pos d ≡ (x -ℤ y) → ((c *ℤ x) -ℤ (c *ℤ y)) ≡ signed (int_lt c (pos 0)) (unsigned_abs c * d)
difference_is c x y d e = sym (times_difference c x y) ∙ ap (λ (z : ℤ). c *ℤ z) (sym e) ∙ way_is c d

fallen : (negative : Bool) (c : ℤ) (t : Ends) (lo hi h : ℤ) (n : ℕ) → ((c *ℤ hi) -ℤ (c *ℤ h)) ≡ signed negative n
    → replaced_ends t (scaled_by negative c (record { lo = lo; hi = hi })) (scaled_by negative c (record { lo = lo; hi = h })) ≡ moved_ends negative t n
fallen true c t lo hi h n e = same_ends _ (moved_ends true t n) (omega (arith, ints)) (omega (arith, ints))
fallen false c t lo hi h n e = same_ends _ (moved_ends false t n) (omega (arith, ints)) (omega (arith, ints))

risen : (negative : Bool) (c : ℤ) (t : Ends) (lo hi l : ℤ) (n : ℕ) → ((c *ℤ l) -ℤ (c *ℤ lo)) ≡ signed negative n
    → replaced_ends t (scaled_by negative c (record { lo = lo; hi = hi })) (scaled_by negative c (record { lo = l; hi = hi })) ≡ moved_ends (not negative) t n
risen true c t lo hi l n e = same_ends _ (moved_ends false t n) (omega (arith, ints)) (omega (arith, ints))
risen false c t lo hi l n e = same_ends _ (moved_ends true t n) (omega (arith, ints)) (omega (arith, ints))

not_negative : (c : ℤ) → not (int_lt c (pos 0)) ≡ int_le (pos 0) c
not_negative c = grind (arith, ints)

spread : (negative : Bool) (low high x y : ℤ) (n : ℕ) → (y -ℤ x) ≡ signed negative n
    → (low -ℤ (if negative then y else x)) ≤ℤ (high -ℤ (if negative then x else y)) → (low +ℤ pos n) ≤ℤ high
spread true low high x y n e h = omega (arith, ints)
spread false low high x y n e h = omega (arith, ints)

ordered_either : (rises : Bool) (t : Ends) (n : ℕ) → (t.lo +ℤ pos n) ≤ℤ t.hi → IsOrdered (moved_ends rises t n)
ordered_either true t n h = h
ordered_either false t n h = omega (arith, ints)

module _ (k : SumRelation) (c : ℤ) (known : Ends) (b : ℕ → Start) (u : VarId) (s : IsSlack k c known b u) (sane : IsSane (b u.0)) where
  pub falls_by : FallsBy (sum_refuted k) b u (is_pulled_off k.relation known k.bound (pull_of (int_lt c (pos 0)) c (b u.0)))
  falls_by v low =
      ap (λ (t : Ends). refuted_by k.relation t k.bound)
      (kept_total k c known b u (below u v) s refl
      ∙ ap (λ (l : ℤ). replaced_ends known (scaled_ends c (ends_of (b u.0))) (scaled_ends c (record { lo = l; hi = hi_of (kept b (below u v) u.0) })))
      (sym (kept-lo_le u.0 (b u.0) (below u v) refl refl (λ e. absurd (cc)) sane (low_holds b u v sane low)))
      ∙ fallen (int_lt c (pos 0)) c known (lo_of (b u.0)) (hi_of (b u.0)) (hi_of (kept b (below u v) u.0)) (unsigned_abs c * lost_high b u v)
      (difference_is c (hi_of (b u.0)) (hi_of (kept b (below u v) u.0)) (lost_high b u v) (lost_high_is b u v sane low).0))

  pub rises_by : RisesBy (sum_refuted k) b u (is_pulled_off k.relation known k.bound (pull_of (int_le (pos 0) c) c (b u.0)))
  rises_by v high =
      ap (λ (t : Ends). refuted_by k.relation t k.bound)
      (kept_total k c known b u (above u v) s refl
      ∙ ap (λ (h : ℤ). replaced_ends known (scaled_ends c (ends_of (b u.0))) (scaled_ends c (record { lo = lo_of (kept b (above u v) u.0); hi = h })))
      (sym (kept-hi_ge u.0 (b u.0) (above u v) refl refl (λ e. absurd (cc)) sane (high_holds b u v sane high)))
      ∙ risen (int_lt c (pos 0)) c known (lo_of (b u.0)) (hi_of (b u.0)) (lo_of (kept b (above u v) u.0)) (unsigned_abs c * lost_low b u v)
      (difference_is c (lo_of (kept b (above u v) u.0)) (lo_of (b u.0)) (lost_low b u v) (lost_low_is b u v sane high).0)
      ∙ ap (λ (t : Bool). moved_ends t known (unsigned_abs c * lost_low b u v)) (not_negative c))

  -- the sum stays ordered where the variable's end moves over the whole cell
  order_left : (known.lo -ℤ (scaled_ends c (ends_of (b u.0))).lo) ≤ℤ (known.hi -ℤ (scaled_ends c (ends_of (b u.0))).hi)
      → (known.lo +ℤ pos (unsigned_abs c * size_of (b u.0))) ≤ℤ known.hi
  order_left h =
      let size : (lo_of (b u.0) +ℤ pos (size_of (b u.0))) ≡ hi_of (b u.0) = size_is (b u.0) sane in
      let d : ((c *ℤ hi_of (b u.0)) -ℤ (c *ℤ lo_of (b u.0))) ≡ signed (int_lt c (pos 0)) (unsigned_abs c * size_of (b u.0)) =
      difference_is c (hi_of (b u.0)) (lo_of (b u.0)) (size_of (b u.0)) (omega (arith, ints)) in
      spread (int_lt c (pos 0)) known.lo known.hi (c *ℤ lo_of (b u.0)) (c *ℤ hi_of (b u.0)) (unsigned_abs c * size_of (b u.0)) d h

  pub order_kept : (rises : Bool) → Each (λ w. IsSane (b w.0)) (sum_vars k) → IsOrdered (moved_ends rises known (unsigned_abs c * size_of (b u.0)))
  order_kept rises all = ordered_either rises known (unsigned_abs c * size_of (b u.0)) (order_left (rest_ordered k c known b u s all))
