-- A definition's hull reads the hulls of what the definition reads, and of nothing else.
use Rattle.std.proofs.Common.{◌≡◌, ℕ, ◌≤◌, ◌^◌, Bool, true, false, ◌&&◌, List, [], ◌∷◌, ◌≤ℤ◌, refl, sym, ◌∙◌, ap, subst, arith, Option, Some, None, if◌then◌else◌, nat_lt, int_le}
use Rattle.std.proofs.lemmas.Int.{ints}
use Rattle.any_kind.specs.Any.{any_functional, any_inputs, any_measured, any_size, any_ranged, any_defined, any_vars}
use Rattle.any_kind.specs.AnyLaws.{any-among, any-defined, any-measured, any-measured_inputs, any-monotone, any-size}
use Rattle.any_kind.specs.declared.any.AnyKind.{AnyKind}
use Rattle.dom_core.specs.Ends.{Ends, IsOrdered}
use Rattle.dom_core.proofs.EndsLaws.{same_ends}
use Rattle.dom_core.proofs.TestLaws.{and_first, and_second}
use Rattle.dom_core.specs.declared.var_id.VarId.{VarId}
use Rattle.kind_law.specs.Laws.{Each, AreSmall, AreWithin, EndsIn, small_ends}
use Rattle.kind_law.proofs.ArgumentLaws.{each_among}
use Rattle.kind_law.proofs.EachLaws.{each_all, each_both, each_map}
use Rattle.dom_definers.specs.Definers.{reads_of}
use Rattle.dom_definers.specs.Hulls.{hull_at, span_of, spans, is_known, all_known, small_or_none, defined_hull, hull_by, IsSmallHull, AreSmallHulls}

-- ---- spans of hulls

pub known_one : (h : Option Ends) → is_known h ≡ true → IsSmallHull h → EndsIn (span_of h) small_ends
known_one None k s = absurd (cc)
known_one (Some e) k s = s

ordered_one : (h : Option Ends) → IsSmallHull h → IsOrdered (span_of h)
ordered_one None s = omega (arith, ints)
ordered_one (Some e) s = s.order

small_each : (hs : List (Option Ends)) (vars : List VarId) → AreSmallHulls hs → all_known hs vars ≡ true → Each (λ u. EndsIn (spans hs u.0) small_ends) vars
small_each hs [] s k = tt
small_each hs (u ∷ us) s k =
    (known_one (hull_at hs u.0) (and_first (is_known (hull_at hs u.0)) (all_known hs us) k) (s u.0), small_each hs us s (and_second (is_known (hull_at hs u.0)) (all_known hs us) k))

-- the intervals of variables whose hulls are known are small
pub known_small : (hs : List (Option Ends)) (vars : List VarId) → AreSmallHulls hs → all_known hs vars ≡ true → AreSmall vars (spans hs)
known_small hs vars s k = record { parts = small_each hs vars s k }

-- ---- what a definition reads

-- what holds of each variable that a definition reads holds of its inputs
pub read_inputs : (P : VarId → Type 0) (k : AnyKind) → Each P (reads_of k) → Each P (any_inputs k)
read_inputs P k h =
    let step : (b : Bool) → Each P (if b then any_inputs k else any_vars k) → Each P (any_inputs k) =
    λ b. elim b as (λ b. Each P (if b then any_inputs k else any_vars k) → Each P (any_inputs k))
    [ true ↦ λ e. e | false ↦ λ e. each_among P (any_inputs k) (any_vars k) (any-among k) e ] in
    step (any_functional k) h

-- likewise of the variables of its sum or product
read_measured : (P : VarId → Type 0) (k : AnyKind) → Each P (reads_of k) → Each P (any_measured k)
read_measured P k h =
    let step : (b : Bool) → any_functional k ≡ b → Each P (if b then any_inputs k else any_vars k) → Each P (any_measured k) =
    λ b. elim b as (λ b. any_functional k ≡ b → Each P (if b then any_inputs k else any_vars k) → Each P (any_measured k)) [
      | true ↦ λ f e. each_among P (any_measured k) (any_inputs k) (any-measured_inputs k f) e
      | false ↦ λ f e. each_among P (any_measured k) (any_vars k) (any-measured k) e
    ] in
    step (any_functional k) refl h

-- ---- hulls that agree on what is read

-- two lists have the same hulls of the variables
abbrev pub AreSame : List (Option Ends) → List (Option Ends) → List VarId → Type 0
AreSame hs gs vars = Each (λ u. hull_at hs u.0 ≡ hull_at gs u.0) vars

-- the hulls of the variables, where there are any, have an integer
abbrev pub AreOrdered : List (Option Ends) → List VarId → Type 0
AreOrdered hs vars = Each (λ u. IsOrdered (spans hs u.0)) vars

-- small hulls have an integer
pub small_ordered : (hs : List (Option Ends)) (vars : List VarId) → AreSmallHulls hs → AreOrdered hs vars
small_ordered hs vars s = each_all (λ u. IsOrdered (spans hs u.0)) vars (λ u. ordered_one (hull_at hs u.0) (s u.0))

same_known : (hs gs : List (Option Ends)) (vars : List VarId) → AreSame hs gs vars → all_known hs vars ≡ all_known gs vars
same_known hs gs [] e = refl
same_known hs gs (u ∷ us) e = ap (λ (h : Option Ends). is_known h && all_known hs us) e.0 ∙ ap (λ (b : Bool). is_known (hull_at gs u.0) && b) (same_known hs gs us e.1)

in_self : (a b : Ends) → IsOrdered a → a ≡ b → EndsIn a b
in_self a b o e = subst (λ (x : Ends). EndsIn a x) e (record { low = omega (arith, ints); order = o; high = omega (arith, ints) })

within_same : (hs gs : List (Option Ends)) (vars : List VarId) → AreOrdered hs vars → AreSame hs gs vars → AreWithin vars (spans hs) (spans gs)
within_same hs gs vars o e =
    record {
      parts = each_both (λ u. IsOrdered (spans hs u.0)) (λ u. hull_at hs u.0 ≡ hull_at gs u.0) (λ u. EndsIn (spans hs u.0) (spans gs u.0)) vars
          (λ u p h. in_self (spans hs u.0) (spans gs u.0) p (ap (λ (x : Option Ends). span_of x) h)) o e;
    }

-- the same the other way round
turned_same : (hs gs : List (Option Ends)) (vars : List VarId) → AreSame hs gs vars → AreSame gs hs vars
turned_same hs gs vars e = each_map (λ u. hull_at hs u.0 ≡ hull_at gs u.0) (λ u. hull_at gs u.0 ≡ hull_at hs u.0) vars (λ u h. sym h) e

turned_ordered : (hs gs : List (Option Ends)) (vars : List VarId) → AreOrdered hs vars → AreSame hs gs vars → AreOrdered gs vars
turned_ordered hs gs vars o e =
    each_both (λ u. IsOrdered (spans hs u.0)) (λ u. hull_at hs u.0 ≡ hull_at gs u.0) (λ u. IsOrdered (spans gs u.0)) vars
    (λ u p h. subst (λ (x : Option Ends). IsOrdered (span_of x)) h p) o e

both_in : (a b : Ends) → EndsIn a b → EndsIn b a → a ≡ b
both_in a b p q =
    let al : b.lo ≤ℤ a.lo = p.low in
    let ah : a.hi ≤ℤ b.hi = p.high in
    let bl : a.lo ≤ℤ b.lo = q.low in
    let bh : b.hi ≤ℤ a.hi = q.high in
    same_ends a b (omega (arith, ints)) (omega (arith, ints))

both_sizes : (m n : ℕ) → m ≤ n → n ≤ m → m ≡ n
both_sizes m n p q = omega (arith, p, q)

module _ (k : AnyKind) (hs gs : List (Option Ends)) (ordered : AreOrdered hs (reads_of k)) (same : AreSame hs gs (reads_of k)) where
  ordered_too : AreOrdered gs (reads_of k)
  ordered_too = turned_ordered hs gs (reads_of k) ordered same

  within_read : AreWithin (reads_of k) (spans hs) (spans gs)
  within_read = within_same hs gs (reads_of k) ordered same

  within_back : AreWithin (reads_of k) (spans gs) (spans hs)
  within_back = within_same gs hs (reads_of k) ordered_too (turned_same hs gs (reads_of k) same)

  same_size : any_size k (spans hs) ≡ any_size k (spans gs)
  same_size = both_sizes (any_size k (spans hs)) (any_size k (spans gs))
      (any-size k (spans hs) (spans gs) (record { parts = read_measured (λ u. EndsIn (spans hs u.0) (spans gs u.0)) k within_read.parts }))
      (any-size k (spans gs) (spans hs) (record { parts = read_measured (λ u. EndsIn (spans gs u.0) (spans hs u.0)) k within_back.parts }))

  same_ranged : any_ranged k (spans hs) ≡ any_ranged k (spans gs)
  same_ranged = both_in (any_ranged k (spans hs)) (any_ranged k (spans gs))
      (any-monotone k (spans hs) (spans gs) (record { parts = read_inputs (λ u. EndsIn (spans hs u.0) (spans gs u.0)) k within_read.parts }))
      (any-monotone k (spans gs) (spans hs) (record { parts = read_inputs (λ u. EndsIn (spans gs u.0) (spans hs u.0)) k within_back.parts }))

  same_inputs : all_known hs (any_inputs k) ≡ all_known gs (any_inputs k)
  same_inputs = same_known hs gs (any_inputs k) (read_inputs (λ u. hull_at hs u.0 ≡ hull_at gs u.0) k same)

  same_tests : any_defined k (spans hs) ≡ any_defined k (spans gs)
  same_tests = any-defined k (spans hs) (spans gs)
      (each_map (λ u. hull_at hs u.0 ≡ hull_at gs u.0) (λ u. spans hs u.0 ≡ spans gs u.0) (any_inputs k) (λ u h. ap (λ (x : Option Ends). span_of x) h)
      (read_inputs (λ u. hull_at hs u.0 ≡ hull_at gs u.0) k same))

  same_given : defined_hull k hs ≡ defined_hull k gs
  same_given =
      ap (λ (b : Bool). if b then (if nat_lt (2 ^ 100) (any_size k (spans hs)) then None else small_or_none (any_ranged k (spans hs))) else None) same_inputs
      ∙ ap (λ (n : ℕ). if all_known gs (any_inputs k) then (if nat_lt (2 ^ 100) n then None else small_or_none (any_ranged k (spans hs))) else None) same_size
      ∙ ap (λ (e : Ends). if all_known gs (any_inputs k) then (if nat_lt (2 ^ 100) (any_size k (spans gs)) then None else small_or_none e) else None) same_ranged

  -- a definition gives the same hull where the hulls of what it reads are the same
  pub same_hull : (declared : Option Ends) → hull_by k declared hs ≡ hull_by k declared gs
  same_hull declared =
      ap (λ (b : Bool). if b then defined_hull k hs else declared) same_tests
      ∙ ap (λ (h : Option Ends). if any_defined k (spans gs) then h else declared) same_given

-- ---- the hull has an integer

either_ordered : (b : Bool) (x y : Option Ends) → IsOrdered (span_of x) → IsOrdered (span_of y) → IsOrdered (span_of (if b then x else y))
either_ordered true x y p q = p
either_ordered false x y p q = q

within_self : (hs : List (Option Ends)) (vars : List VarId) → AreOrdered hs vars → AreWithin vars (spans hs) (spans hs)
within_self hs vars o =
    record {
      parts = each_map (λ u. IsOrdered (spans hs u.0)) (λ u. EndsIn (spans hs u.0) (spans hs u.0)) vars (λ u p. in_self (spans hs u.0) (spans hs u.0) p refl) o;
    }

-- the hull that a definition gives has an integer where the hulls of what it reads do
pub ordered_hull : (k : AnyKind) (hs : List (Option Ends)) → AreOrdered hs (reads_of k) → (declared : Option Ends) → IsOrdered (span_of declared)
    → IsOrdered (span_of (hull_by k declared hs))
ordered_hull k hs read declared o =
    let e = any_ranged k (spans hs) in
    let ranged : IsOrdered (any_ranged k (spans hs)) =
    (any-monotone k (spans hs) (spans hs) (within_self hs (any_inputs k) (read_inputs (λ u. IsOrdered (spans hs u.0)) k read))).order in
    let none : IsOrdered (span_of None) = omega (arith, ints) in
    let small : IsOrdered (span_of (small_or_none e)) = either_ordered (int_le small_ends.lo e.lo && int_le e.hi small_ends.hi) (Some e) None ranged none in
    either_ordered (any_defined k (spans hs)) (defined_hull k hs) declared
    (either_ordered (all_known hs (any_inputs k)) (if nat_lt (2 ^ 100) (any_size k (spans hs)) then None else small_or_none e) None
    (either_ordered (nat_lt (2 ^ 100) (any_size k (spans hs))) None (small_or_none e) none small) none) o
