-- Definers and hulls are determined.
use Rattle.std.proofs.Common.{◌≡◌, ℕ, zero, suc, ◌<◌, ◌≤◌, Bool, true, false, List, [], ◌∷◌, length, get_or, refl, sym, ◌∙◌, subst, arith, Option, Some, None, if◌then◌else◌, slice_get, inl, inr, ℤ, int_lt}
use Rattle.std.specs.List.{Contains}
use Rattle.std.proofs.lemmas.Bool.{cases_lt}
use Rattle.std.proofs.lemmas.Int.{ints}
use Rattle.std.proofs.lemmas.List.{ext_get_or, get_or_default, get_or_past}
use Rattle.std.proofs.lemmas.Option.{get_or_from_slice_get}
use Rattle.digraph.specs.Order.{IsOrder}
use Rattle.dom_core.specs.Ends.{Ends, IsOrdered, hull_ends, only}
use Rattle.dom_core.proofs.ProductLaws.{lt_false}
use Rattle.dom_definers.specs.Definers.{definer_at, dependence, numbers, posted_reads, reads_at}
use Rattle.dom_definers.specs.Hulls.{AreHulls, declared_or_none, hull_at, own_hull, posted_hull, span_of, spans}
use Rattle.dom_definers.specs.One.{DefinersAreOne, HullsAreOne}
use Rattle.dom_definers.specs.Variable.{form_hull, integers_hull, range_hull, values_hull, widened}
use Rattle.dom_definers.specs.declared.form.Declared.{Declared}
use Rattle.dom_definers.specs.declared.form.Declared.TheVariants.{Any, Range, Values}
use Rattle.dom_definers.specs.declared.form.Form.{Form}
use Rattle.dom_definers.specs.declared.form.Form.TheVariants.{Bool as Truths, Int}
use Rattle.dom_definers.specs.declared.posted.Posted.{Posted}
use Rattle.dom_definers.specs.declared.variable.Variable.{Variable}
use Rattle.dom_definers.proofs.HullLaws.{AreOrdered, AreSame, ordered_hull}
use Rattle.dom_definers.proofs.SolvingLaws.{each_number, node_before, nodes, order_below, same_own}

-- ---- definers

pub one_definers : DefinersAreOne
one_definers cs n one other h g =
    ext_get_or None one other (h.whole ∙ sym g.whole)
    (λ v lt. (let below : v < n = omega (arith, lt, h.whole) in h.at v below ∙ sym (g.at v below)))

-- ---- hulls have an integer

none_ordered : IsOrdered (span_of None)
none_ordered = omega (arith, ints)

range_ordered : (lo hi : ℤ) → IsOrdered (span_of (range_hull lo hi))
range_ordered lo hi =
    let e : Ends = record { lo = lo; hi = hi } in
    let step : (b : Bool) → int_lt hi lo ≡ b → IsOrdered (span_of (if b then None else Some e)) =
    λ b. elim b as (λ b. int_lt hi lo ≡ b → IsOrdered (span_of (if b then None else Some e)))
    [ true ↦ λ t. none_ordered | false ↦ λ t. lt_false hi lo t ] in
    step (int_lt hi lo) refl

hull_ordered : (a b : Ends) → IsOrdered a → IsOrdered b → IsOrdered (hull_ends a b)
hull_ordered a b p q = grind (arith, ints)

widened_ordered : (e : Ends) (xs : List ℤ) → IsOrdered e → IsOrdered (widened e xs)
widened_ordered e [] o = o
widened_ordered e (x ∷ xs) o = widened_ordered (hull_ends e (only x)) xs (hull_ordered e (only x) o (omega (arith, ints)))

values_ordered : (xs : List ℤ) → IsOrdered (span_of (values_hull xs))
values_ordered [] = none_ordered
values_ordered (x ∷ xs) = widened_ordered (only x) xs (omega (arith, ints))

integers_ordered : (d : Declared) → IsOrdered (span_of (integers_hull d))
integers_ordered Any = none_ordered
integers_ordered (Range lo hi) = range_ordered lo hi
integers_ordered (Values xs) = values_ordered xs

form_ordered : (f : Form) (d : Declared) → IsOrdered (span_of (form_hull f d))
form_ordered Truths d = omega (arith, ints)
form_ordered Int d = integers_ordered d

declared_ordered : (v : Option Variable) → IsOrdered (span_of (declared_or_none v))
declared_ordered None = none_ordered
declared_ordered (Some v) = form_ordered v.form v.declared

posted_ordered : (p : Option Posted) (declared : Option Ends) (hs : List (Option Ends)) → IsOrdered (span_of declared) → AreOrdered hs (posted_reads p)
    → IsOrdered (span_of (posted_hull p declared hs))
posted_ordered None declared hs o read = o
posted_ordered (Some p) declared hs o read = ordered_hull p.kind hs read declared o

own_ordered : (cs : List Posted) (d : Option ℕ) (declared : Option Ends) (hs : List (Option Ends)) → IsOrdered (span_of declared) → AreOrdered hs (reads_at cs d)
    → IsOrdered (span_of (own_hull cs d declared hs))
own_ordered cs None declared hs o read = o
own_ordered cs (Some i) declared hs o read = posted_ordered (slice_get cs i) declared hs o read

-- ---- hulls

module _ (vs : List Variable) (cs : List Posted) (ds : List (Option ℕ)) (order : List ℕ) (one other : List (Option Ends)) (whole : length ds ≡ length vs)
    (is_order : IsOrder (dependence cs ds) order) (h : AreHulls vs cs ds one) (g : AreHulls vs cs ds other) where
  -- the variable has the same hull in both lists, and an integer in it
  record IsSameAt (v : ℕ) : Type 0 where
    hull : hull_at one v ≡ hull_at other v
    ordered : IsOrdered (spans one v)

  same_beyond : (v : ℕ) → length vs ≤ v → IsSameAt v
  same_beyond v past =
      let none : hull_at one v ≡ None = get_or_past one v None (omega (arith, h.whole, past)) in
      record {
        hull = none ∙ sym (get_or_past other v None (omega (arith, g.whole, past)));
        ordered = subst (λ (e : Option Ends). IsOrdered (span_of e)) (sym none) none_ordered;
      }

  same_next : (v : ℕ) → v < length vs → ((b : ℕ) → Contains (numbers (reads_at cs (definer_at ds v))) b → IsSameAt b) → IsSameAt v
  same_next v below read =
      let declared = declared_or_none (slice_get vs v) in
      let ordered : AreOrdered one (reads_at cs (definer_at ds v)) =
      each_number (λ b. IsOrdered (spans one b)) (reads_at cs (definer_at ds v)) (λ b c. (read b c).ordered) in
      let same : AreSame one other (reads_at cs (definer_at ds v)) =
      each_number (λ b. hull_at one b ≡ hull_at other b) (reads_at cs (definer_at ds v)) (λ b c. (read b c).hull) in
      record {
        hull = h.each v below ∙ same_own cs (definer_at ds v) declared one other ordered same ∙ sym (g.each v below);
        ordered = subst (λ (e : Option Ends). IsOrdered (span_of e)) (sym (h.each v below))
            (own_ordered cs (definer_at ds v) declared one (declared_ordered (slice_get vs v)) ordered);
      }

  same_before : (n k : ℕ) → k < n → k < length order → IsSameAt (get_or order k 0)
  same_before zero k kn l = absurd (omega (arith, kn))
  same_before (suc n) k kn l =
      same_next (get_or order k 0) (order_below vs cs ds order k whole is_order l)
      (λ b c. elim (cases_lt b (length vs)) [
        | inl below ↦ (let r = node_before vs cs ds order whole is_order k b l below c in
            subst IsSameAt (get_or_from_slice_get order r.0 b 0 r.2) (same_before n r.0 (omega (arith, r.1, kn)) (omega (arith, r.1, l))))
        | inr past ↦ same_beyond b (omega (arith, past))
      ])

  same_at : (v : ℕ) → v < length vs → IsSameAt v
  same_at v below =
      let there = is_order.whole v (omega (arith, below, nodes cs ds, whole)) in
      subst IsSameAt (get_or_default order there.0 0 v there.1 ∙ there.2) (same_before (suc there.0) there.0 (omega arith) there.1)

  one_list : one ≡ other
  one_list = ext_get_or None one other (h.whole ∙ sym g.whole) (λ v lt. (same_at v (omega (arith, lt, h.whole))).hull)

pub one_hulls : HullsAreOne
one_hulls vs cs ds order one other whole is_order h g = one_list vs cs ds order one other whole is_order h g
