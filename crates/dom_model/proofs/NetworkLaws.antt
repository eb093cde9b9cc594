-- What a draft without a fault makes is a network.
use Rattle.std.proofs.Common.{◌≡◌, ℕ, zero, suc, ◌+◌, ◌<◌, ◌≤◌, ◌^◌, ◌&&◌, ◌||◌, Bool, true, false, List, [], ◌∷◌, ◌++◌, length, map, take, get_or, refl, sym, ◌∙◌, ap, subst, arith, Option, Some, None, if◌then◌else◌, nat_lt, slice_get}
use Rattle.std.specs.List.{Contains}
use Rattle.std.proofs.lemmas.Bool.{ltb-false}
use Rattle.std.proofs.lemmas.List.{get_or_default, length-map}
use Rattle.std.proofs.lemmas.Option.{same_Some}
use Rattle.any_kind.specs.Any.{any_defined, any_functional, any_inputs, any_output, any_ranged, any_size, any_vars}
use Rattle.any_kind.specs.AnyLaws.{any-input_width, any-width}
use Rattle.any_kind.specs.declared.any.AnyKind.{AnyKind}
use Rattle.digraph.specs.Cycle.{Leads}
use Rattle.digraph.specs.Order.{IsOrder, OrderedIsAcyclic}
use Rattle.dom_core.specs.Ends.{Ends}
use Rattle.dom_core.proofs.TestLaws.{and_both}
use Rattle.dom_core.proofs.RisesLaws.{or_right}
use Rattle.dom_core.specs.declared.var_id.VarId.{VarId}
use Rattle.dom_definers.specs.Definers.{AreDefiners, definer_at, dependence, numbers, posted_reads, reads_at}
use Rattle.dom_definers.specs.Hulls.{AreHulls, AreSmallHulls, all_known, declared_or_none, defined_hull, hull_at, is_known, kept_by, kept_definer, own_hull, posted_hull, small_or_none, spans}
use Rattle.dom_definers.specs.Known.{kept_of}
use Rattle.dom_definers.specs.Width.{if_defined, is_lost, is_own, is_too_wide, others_known, wide_from}
use Rattle.dom_definers.specs.declared.posted.Posted.{Posted}
use Rattle.dom_definers.specs.declared.variable.Variable.{Variable}
use Rattle.dom_definers.proofs.HullLaws.{known_one, known_small}
use Rattle.dom_definers.proofs.KnownLaws.{kept_at, none_wide}
use Rattle.dom_definers.proofs.SolvingLaws.{node_row, nodes, reads_inputs}
use Rattle.dom_model.specs.Draft.{AreFitPosted, IsFitPosted}
use Rattle.dom_model.proofs.DefinerLaws.{definer_gives, kept_is_first}
use Rattle.dom_network.specs.Completion.{definition_at, inputs_at, reading_of}
use Rattle.dom_network.specs.Network.{AreFitOver, Gives, IsFitOver, IsGiven}
use Rattle.kind_law.specs.Laws.{AllBelow, AreSmall, Each, EndsIn, small_ends}
use Rattle.kind_law.proofs.EachLaws.{each_map}

-- ---- lists

-- the kinds of the posted constraints, and what stands behind them
abbrev pub kinds_and : List Posted → List AnyKind → List AnyKind
kinds_and cs rs = map (λ c. c.kind) cs ++ rs

pub kind_at : (cs : List Posted) (rs : List AnyKind) (i : ℕ) (c : Posted) → slice_get cs i ≡ Some c → slice_get (kinds_and cs rs) i ≡ Some c.kind
kind_at [] rs i c g = absurd (cc)
kind_at (d ∷ cs) rs zero c g = ap (λ (p : Posted). Some p.kind) (same_Some d c g)
kind_at (d ∷ cs) rs (suc i) c g = kind_at cs rs i c g

-- ---- hulls by definitions

some_by : (b : Bool) (e : Ends) → is_known (if b then Some e else None) ≡ true → (if b then Some e else None) ≡ Some e
some_by true e h = refl
some_by false e h = absurd (cc)

-- a hull that is known because all three tests are passed
hull_tests : (a b : Bool) (o : Option Ends) → is_known (if a then (if b then None else o) else None) ≡ true → (a ≡ true) × (b ≡ false) × (is_known o ≡ true)
hull_tests true true o h = absurd (cc)
hull_tests true false o h = (refl, refl, h)
hull_tests false b o h = absurd (cc)

hull_passed : (a b : Bool) (o : Option Ends) → a ≡ true → b ≡ false → (if a then (if b then None else o) else None) ≡ o
hull_passed true true o e f = absurd (cc)
hull_passed true false o e f = refl
hull_passed false b o e f = absurd (cc)

-- what is known of a definition that gives a hull
pub record GivesHull (k : AnyKind) (hs : List (Option Ends)) : Type 0 where
  pub inputs : all_known hs (any_inputs k) ≡ true
  pub narrow : nat_lt (2 ^ 100) (any_size k (spans hs)) ≡ false
  pub hull : defined_hull k hs ≡ Some (any_ranged k (spans hs))

gives_hull : (k : AnyKind) (hs : List (Option Ends)) → is_known (defined_hull k hs) ≡ true → GivesHull k hs
gives_hull k hs h =
    let tests = hull_tests (all_known hs (any_inputs k)) (nat_lt (2 ^ 100) (any_size k (spans hs))) (small_or_none (any_ranged k (spans hs))) h in
    record {
      inputs = tests.0;
      narrow = tests.1;
      hull = hull_passed (all_known hs (any_inputs k)) (nat_lt (2 ^ 100) (any_size k (spans hs))) (small_or_none (any_ranged k (spans hs))) tests.0 tests.1
          ∙ some_by _ (any_ranged k (spans hs)) tests.2;
    }

by_defined : (b : Bool) (i : ℕ) (a c : Option Ends) → (if b then Some i else None) ≡ Some i → (if b then a else c) ≡ a
by_defined true i a c h = refl
by_defined false i a c h = absurd (cc)

is_defined : (b : Bool) (i : ℕ) → (if b then Some i else None) ≡ Some i → b ≡ true
is_defined true i h = refl
is_defined false i h = absurd (cc)

-- ---- widths

others_are_known : (hs : List (Option Ends)) (d : Option VarId) (vars : List VarId) → Each (λ u. is_known (hull_at hs u.0) ≡ true) vars → others_known hs d vars ≡ true
others_are_known hs d [] h = refl
others_are_known hs d (u ∷ us) h = and_both (is_own d u || is_known (hull_at hs u.0)) (others_known hs d us) (or_right (is_own d u) (is_known (hull_at hs u.0)) h.0) (others_are_known hs d us h.1)

narrow_size : (a b c : Bool) → a ≡ true → (a && (b || c)) ≡ false → b ≡ false
narrow_size true true c e h = absurd (cc)
narrow_size true false c e h = refl
narrow_size false b c e h = absurd (cc)

at_most : (limit n : ℕ) → nat_lt limit n ≡ false → n ≤ limit
at_most limit n h = ltb-false limit n h

module _ (vs : List Variable) (cs : List Posted) (rs : List AnyKind) (ds : List (Option ℕ)) (order : List ℕ) (hs : List (Option Ends)) (fit : AreFitPosted (length vs) cs)
    (definers : AreDefiners cs (length vs) ds) (is_order : IsOrder (dependence cs ds) order) (law : OrderedIsAcyclic) (hulls : AreHulls vs cs ds hs) (small : AreSmallHulls hs)
    (known : (v : ℕ) → v < length vs → is_known (hull_at hs v) ≡ true) (narrow : wide_from 0 cs (kept_of cs hs ds) hs ≡ None) where
  -- ---- definers

  kept_definition : (v i : ℕ) → v < length vs → definer_at (kept_of cs hs ds) v ≡ Some i
      → (c : Posted) × (slice_get cs i ≡ Some c) × (any_functional c.kind ≡ true) × (any_output c.kind ≡ record { 0 = v }) × (any_defined c.kind (spans hs) ≡ true) × (definer_at ds v ≡ Some i)
  kept_definition v i below h =
      let first : definer_at ds v ≡ Some i = kept_is_first (length vs) cs ds order fit definers is_order law hs v i h in
      let g = definer_gives (length vs) cs ds order fit definers is_order law v i below first in
      let test : (if any_defined g.0.kind (spans hs) then Some i else None) ≡ Some i =
      sym (ap (λ (p : Option Posted). kept_by p i hs) g.1) ∙ sym (ap (λ (d : Option ℕ). kept_definer cs hs d) first) ∙ sym (kept_at cs hs ds v) ∙ h in
      (g.0, g.1, g.2, g.3, is_defined (any_defined g.0.kind (spans hs)) i test, first)

  gives_value : (v i : ℕ) → v < length vs → definer_at (kept_of cs hs ds) v ≡ Some i → (c : Posted) × (slice_get cs i ≡ Some c) × Gives hs v c.kind
  gives_value v i below h =
      let g = kept_definition v i below h in
      let own : hull_at hs v ≡ defined_hull g.0.kind hs =
      hulls.each v below ∙ ap (λ (d : Option ℕ). own_hull cs d (declared_or_none (slice_get vs v)) hs) g.5 ∙ ap (λ (p : Option Posted). posted_hull p (declared_or_none (slice_get vs v)) hs) g.1
      ∙ ap (λ (b : Bool). if b then defined_hull g.0.kind hs else declared_or_none (slice_get vs v)) g.4 in
      let hull = gives_hull g.0.kind hs (sym (ap (λ (o : Option Ends). is_known o) own) ∙ known v below) in (
        g.0,
        g.1,
        record {
          functional = g.2;
          output = g.3;
          fits = any-input_width g.0.kind g.2 (spans hs) (known_small hs (any_inputs g.0.kind) small hull.inputs) (at_most (2 ^ 100) (any_size g.0.kind (spans hs)) hull.narrow) g.4;
          hull = own ∙ hull.hull;
        },
      )

  given_by : (v : ℕ) (d : Option ℕ) → v < length vs → definer_at (kept_of cs hs ds) v ≡ d → IsGiven hs (kinds_and cs rs) v d
  given_by v None below e = tt
  given_by v (Some i) below e = (let g = gives_value v i below e in (g.0.kind, kind_at cs rs i g.0 g.1, g.2))

  -- each definer is the place of a constraint that gives the variable its value
  pub are_given : (v : ℕ) → v < length vs → IsGiven hs (kinds_and cs rs) v (definer_at (kept_of cs hs ds) v)
  are_given v below = given_by v (definer_at (kept_of cs hs ds) v) below refl

  -- ---- the order

  input_row : (v b : ℕ) (d : Option ℕ) → v < length vs → definer_at (kept_of cs hs ds) v ≡ d → Contains (inputs_at (definition_at (kinds_and cs rs) d)) b
      → Contains (numbers (reads_at cs (definer_at ds v))) b
  input_row v b None below e c = absurd (omega (arith, c.1))
  input_row v b (Some i) below e c =
      let g = kept_definition v i below e in
      let reads : reads_at cs (definer_at ds v) ≡ any_inputs g.0.kind =
      ap (λ (d : Option ℕ). reads_at cs d) g.5 ∙ ap (λ (p : Option Posted). posted_reads p) g.1 ∙ reads_inputs g.0.kind g.2 in
      subst (λ (us : List VarId). Contains (numbers us) b) (sym reads) (subst (λ (k : Option AnyKind). Contains (inputs_at k) b) (kind_at cs rs i g.0 g.1) c)

  -- ---- widths

  all_known_vars : (vars : List VarId) → AllBelow (length vs) vars → Each (λ u. is_known (hull_at hs u.0) ≡ true) vars
  all_known_vars vars h = each_map (λ u. u.0 < length vs) (λ u. is_known (hull_at hs u.0) ≡ true) vars (λ u lt. known u.0 lt) h

  are_small : (vars : List VarId) → AllBelow (length vs) vars → AreSmall vars (spans hs)
  are_small vars h = record { parts = each_map (λ u. u.0 < length vs) (λ u. EndsIn (spans hs u.0) small_ends) vars (λ u lt. known_one (hull_at hs u.0) (known u.0 lt) (small u.0)) h }

  fit_one : (i : ℕ) (c : Posted) → slice_get cs i ≡ Some c → IsFitPosted (length vs) c → IsFitOver hs c.kind
  fit_one i c got own =
      let kept = kept_of cs hs ds in
      let wide : is_too_wide c.kind (if_defined kept c.defines (0 + i)) hs ≡ false = none_wide cs 0 i kept hs c narrow got in
      let size : nat_lt (2 ^ 100) (any_size c.kind (spans hs)) ≡ false =
      narrow_size (others_known hs (if_defined kept c.defines (0 + i)) (any_vars c.kind)) (nat_lt (2 ^ 100) (any_size c.kind (spans hs))) (is_lost hs (if_defined kept c.defines (0 + i)))
      (others_are_known hs (if_defined kept c.defines (0 + i)) (any_vars c.kind) (all_known_vars (any_vars c.kind) own.below)) wide in
      record {
        below = subst (λ (n : ℕ). AllBelow n (any_vars c.kind)) (sym hulls.whole) own.below;
        fits = any-width c.kind (spans hs) (are_small (any_vars c.kind) own.below) (at_most (2 ^ 100) (any_size c.kind (spans hs)) size);
      }

  fit_posted : (i : ℕ) (rest : List Posted) → AreFitPosted (length vs) rest → ((k : ℕ) (c : Posted) → slice_get rest k ≡ Some c → slice_get cs (i + k) ≡ Some c) → AreFitOver hs rs
      → AreFitOver hs (kinds_and rest rs)
  fit_posted i [] h at r = r
  fit_posted i (c ∷ rest) h at r = (
    fit_one (i + 0) c (at 0 c refl) h.0,
    fit_posted (suc i) rest h.1 (λ k d e. subst (λ (j : ℕ). slice_get cs j ≡ Some d) (let z : i + suc k ≡ suc i + k = omega arith in z) (at (suc k) d e)) r,
  )

  -- every constraint stays far from a machine's ends over the hulls
  pub are_fit_over : AreFitOver hs rs → AreFitOver hs (kinds_and cs rs)
  are_fit_over r = fit_posted 0 cs fit (λ k c e. subst (λ (j : ℕ). slice_get cs j ≡ Some c) (let z : k ≡ 0 + k = omega arith in z) e) r

  -- ---- the order

  row_of : (ks : List AnyKind) (es : List (Option ℕ)) (v : ℕ) → v < length es → get_or (reading_of ks es) v [] ≡ inputs_at (definition_at ks (definer_at es v))
  row_of ks [] v lt = absurd (omega (arith, lt))
  row_of ks (e ∷ es) zero lt = refl
  row_of ks (e ∷ es) (suc v) lt = row_of ks es v (omega (arith, lt))

  rows : (ks : List AnyKind) (es : List (Option ℕ)) → length (reading_of ks es) ≡ length es
  rows ks [] = refl
  rows ks (e ∷ es) = ap suc (rows ks es)

  kept_whole : length (kept_of cs hs ds) ≡ length vs
  kept_whole = length-map ds (kept_definer cs hs) ∙ definers.whole

  as_many : length (reading_of (kinds_and cs rs) (kept_of cs hs ds)) ≡ length (dependence cs ds)
  as_many = rows (kinds_and cs rs) (kept_of cs hs ds) ∙ kept_whole ∙ sym (nodes cs ds ∙ definers.whole)

  leads_too : (a b : ℕ) → Leads (reading_of (kinds_and cs rs) (kept_of cs hs ds)) a b → a < length vs → Leads (dependence cs ds) a b
  leads_too a b l below =
      let row = row_of (kinds_and cs rs) (kept_of cs hs ds) a (omega (arith, kept_whole, below)) in
      let read = input_row a b (definer_at (kept_of cs hs ds) a) below refl (subst (λ (xs : List ℕ). Contains xs b) row l.1) in
      (omega (arith, l.0, as_many), subst (λ (xs : List ℕ). Contains xs b) (sym (node_row cs ds a (omega (arith, below, definers.whole)))) read)

  order_in : (i : ℕ) → i < length order → get_or order i 0 < length vs
  order_in i lt =
      let q : get_or order i 0 < length (dependence cs ds) = is_order.nodes (get_or order i 0) (i, lt, get_or_default order i (get_or order i 0) 0 lt) in
      omega (arith, q, nodes cs ds, definers.whole)

  behind_too : (i b : ℕ) → i < length order → Leads (reading_of (kinds_and cs rs) (kept_of cs hs ds)) (get_or order i 0) b → Contains (take i order) b
  behind_too i b lt l = is_order.behind i b lt (leads_too (get_or order i 0) b l (order_in i lt))

  -- the order of all definitions is one of those that stay
  pub kept_order : IsOrder (reading_of (kinds_and cs rs) (kept_of cs hs ds)) order
  kept_order = record {
    nodes = λ k c. (let q : k < length (dependence cs ds) = is_order.nodes k c in omega (arith, q, as_many));
    whole = λ k lt. is_order.whole k (omega (arith, lt, as_many));
    once = is_order.once;
    behind = behind_too;
  }
