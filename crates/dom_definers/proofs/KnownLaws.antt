-- Every hull is known where no variable and no constraint is at fault, one variable after the other.
use Rattle.std.proofs.Common.{◌≡◌, ℕ, zero, suc, ◌==◌, ◌+◌, ◌<◌, ◌^◌, Bool, true, false, not, ◌&&◌, ◌||◌, List, [], ◌∷◌, length, get_or, refl, sym, ◌∙◌, ap, subst, arith, Option, Some, None, if◌then◌else◌, nat_lt, slice_get, inl, inr}
use Rattle.std.specs.List.{Contains}
use Rattle.std.proofs.lemmas.Bool.Decides.{Decides-eqb}
use Rattle.std.proofs.lemmas.List.{get_or_default}
use Rattle.std.proofs.lemmas.Option.{get_or_from_slice_get, same_Some}
use Rattle.any_kind.specs.Any.{any_defined, any_inputs, any_size, any_vars}
use Rattle.any_kind.specs.AnyLaws.{any-parts}
use Rattle.any_kind.specs.declared.any.AnyKind.{AnyKind}
use Rattle.dom_core.specs.Ends.{Ends}
use Rattle.dom_core.proofs.TestLaws.{and_both}
use Rattle.dom_core.proofs.RisesLaws.{or_left, or_right, or_true}
use Rattle.dom_core.specs.declared.var_id.VarId.{VarId}
use Rattle.kind_law.specs.Argument.{is_listed}
use Rattle.kind_law.specs.Laws.{Each}
use Rattle.kind_law.proofs.ArgumentLaws.{listed}
use Rattle.dom_definers.specs.Definers.{definer_at, definer_from, is_var, numbers, posted_reads, reads_at}
use Rattle.dom_definers.specs.Hulls.{declared_or_none, defined_hull, hull_at, is_known, kept_by, kept_definer, own_hull, posted_hull, spans}
use Rattle.dom_definers.specs.Known.{AreDeclared, AreSolved, kept_of}
use Rattle.dom_definers.specs.Width.{AreFitFrom, GivesVar, IsFitConstraint, if_defined, is_own, is_place, is_too_wide, others_known, wide_from}
use Rattle.dom_definers.specs.declared.posted.Posted.{Posted}
use Rattle.dom_definers.specs.declared.variable.Variable.{Variable}
use Rattle.dom_definers.proofs.SolvingLaws.{each_number, nodes, order_below, read_before, reads_inputs}

-- ---- tests

kept_known : (a b c : Bool) → a ≡ true → (a && (b || not c)) ≡ false → c ≡ true
kept_known true true c e f = absurd (cc)
kept_known true false true e f = refl
kept_known true false false e f = absurd (cc)
kept_known false b c e f = absurd (cc)

-- ---- places

pub kept_at : (cs : List Posted) (hs : List (Option Ends)) (ds : List (Option ℕ)) (v : ℕ) → definer_at (kept_of cs hs ds) v ≡ kept_definer cs hs (definer_at ds v)
kept_at cs hs [] v = refl
kept_at cs hs (d ∷ ds) zero = refl
kept_at cs hs (d ∷ ds) (suc v) = kept_at cs hs ds v

-- the constraint at a definer's place defines the variable
pub definer_found : (cs : List Posted) (i v j : ℕ) → definer_from i cs v ≡ Some j → (c : Posted) × (k : ℕ) × (j ≡ i + k) × (slice_get cs k ≡ Some c) × (is_var c.defines v ≡ true)
definer_found [] i v j h = absurd (cc)
definer_found (c ∷ cs) i v j h =
    let step : (b : Bool) → is_var c.defines v ≡ b → (if b then Some i else definer_from (suc i) cs v) ≡ Some j
    → (d : Posted) × (k : ℕ) × (j ≡ i + k) × (slice_get (c ∷ cs) k ≡ Some d) × (is_var d.defines v ≡ true) =
    λ b. elim b as (λ b. is_var c.defines v ≡ b → (if b then Some i else definer_from (suc i) cs v) ≡ Some j
    → (d : Posted) × (k : ℕ) × (j ≡ i + k) × (slice_get (c ∷ cs) k ≡ Some d) × (is_var d.defines v ≡ true)) [
      | true ↦ λ e s. (c, 0, (let q : i ≡ j = cc in omega (arith, q)), refl, e)
      | false ↦ λ e s. (let r = definer_found cs (suc i) v j s in (r.0, suc r.1, omega (arith, r.2), r.3, r.4))
    ] in
    step (is_var c.defines v) refl h

same_place : (i k : ℕ) → suc i + k ≡ i + suc k
same_place i k = omega arith

-- no constraint at any place is too wide
pub none_wide : (cs : List Posted) (i k : ℕ) (ds : List (Option ℕ)) (hs : List (Option Ends)) (c : Posted) → wide_from i cs ds hs ≡ None → slice_get cs k ≡ Some c
    → is_too_wide c.kind (if_defined ds c.defines (i + k)) hs ≡ false
none_wide [] i k ds hs c h g = absurd (cc)
none_wide (d ∷ cs) i k ds hs c h g =
    let step : (b : Bool) → is_too_wide d.kind (if_defined ds d.defines i) hs ≡ b → (if b then Some i else wide_from (suc i) cs ds hs) ≡ None
    → (is_too_wide d.kind (if_defined ds d.defines i) hs ≡ false) × (wide_from (suc i) cs ds hs ≡ None) =
    λ b. elim b as (λ b. is_too_wide d.kind (if_defined ds d.defines i) hs ≡ b → (if b then Some i else wide_from (suc i) cs ds hs) ≡ None
    → (is_too_wide d.kind (if_defined ds d.defines i) hs ≡ false) × (wide_from (suc i) cs ds hs ≡ None))
    [ true ↦ λ e s. absurd (cc) | false ↦ λ e s. (e, s) ] in
    let both = step (is_too_wide d.kind (if_defined ds d.defines i) hs) refl h in
    elim k as (λ k. slice_get (d ∷ cs) k ≡ Some c → is_too_wide c.kind (if_defined ds c.defines (i + k)) hs ≡ false) [
      | zero ↦ λ g. subst (λ (p : Posted). is_too_wide p.kind (if_defined ds p.defines (i + 0)) hs ≡ false) (same_Some d c g)
          (ap (λ (j : ℕ). is_too_wide d.kind (if_defined ds d.defines j) hs) (let z : i + 0 ≡ i = omega arith in z) ∙ both.0)
      | suc k ↦ λ g. ap (λ (j : ℕ). is_too_wide c.kind (if_defined ds c.defines j) hs) (sym (same_place i k)) ∙ none_wide cs (suc i) k ds hs c both.1 g
    ] g

-- what is asked of the constraint at a place
pub fit_at : (n : ℕ) (cs : List Posted) (i k : ℕ) (ds : List (Option ℕ)) (c : Posted) → AreFitFrom n i cs ds → slice_get cs k ≡ Some c → IsFitConstraint n c.kind (if_defined ds c.defines (i + k))
fit_at n [] i k ds c h g = absurd (cc)
fit_at n (d ∷ cs) i zero ds c h g =
    subst (λ (p : Posted). IsFitConstraint n p.kind (if_defined ds p.defines (i + 0))) (same_Some d c g)
    (subst (λ (j : ℕ). IsFitConstraint n d.kind (if_defined ds d.defines j)) (let z : i ≡ i + 0 = omega arith in z) h.0)
fit_at n (d ∷ cs) i (suc k) ds c h g = subst (λ (j : ℕ). IsFitConstraint n c.kind (if_defined ds c.defines j)) (same_place i k) (fit_at n cs (suc i) k ds c h.1 g)

-- ---- one variable more

-- the variables of a definition are known where its inputs are
all_others : (hs : List (Option Ends)) (x : VarId) (inputs vars : List VarId) → Each (λ v. (v.0 == x.0 || is_listed v inputs) ≡ true) vars → Each (λ u. is_known (hull_at hs u.0) ≡ true) inputs
    → others_known hs (Some x) vars ≡ true
all_others hs x inputs [] h e = refl
all_others hs x inputs (v ∷ vs) h e =
    and_both (is_own (Some x) v || is_known (hull_at hs v.0)) (others_known hs (Some x) vs)
    (elim (or_true (v.0 == x.0) (is_listed v inputs) h.0) [
      | inl same ↦ or_left (x.0 == v.0) (is_known (hull_at hs v.0)) ((Decides-eqb x.0 v.0).1 (sym ((Decides-eqb v.0 x.0).0 same)))
      | inr input ↦ or_right (x.0 == v.0) (is_known (hull_at hs v.0)) (listed (λ u. is_known (hull_at hs u.0) ≡ true) v inputs input e)
    ])
    (all_others hs x inputs vs h.1 e)

-- a definition over known inputs that isn't too wide gives a hull
narrow_known : (hs : List (Option Ends)) (k : AnyKind) (x : VarId) → GivesVar k (Some x) → Each (λ u. is_known (hull_at hs u.0) ≡ true) (any_inputs k) → is_too_wide k (Some x) hs ≡ false
    → is_known (hull_at hs x.0) ≡ true
narrow_known hs k x g e w =
    let others : others_known hs (Some x) (any_vars k) ≡ true =
    all_others hs x (any_inputs k) (any_vars k) (subst (λ (y : VarId). Each (λ v. (v.0 == y.0 || is_listed v (any_inputs k)) ≡ true) (any_vars k)) g.1 (any-parts k g.0).all) e in
    kept_known (others_known hs (Some x) (any_vars k)) (nat_lt (2 ^ 100) (any_size k (spans hs))) (is_known (hull_at hs x.0)) others w

module _ (vs : List Variable) (cs : List Posted) (ds : List (Option ℕ)) (order : List ℕ) (hs : List (Option Ends)) (s : AreSolved vs cs ds order hs)
    (declared : AreDeclared vs (kept_of cs hs ds)) (narrow : wide_from 0 cs (kept_of cs hs ds) hs ≡ None) where
  -- what the variable's definition reads is known
  abbrev AreRead : ℕ → Type 0
  AreRead v = (b : ℕ) → Contains (numbers (reads_at cs (definer_at ds v))) b → is_known (hull_at hs b) ≡ true

  free_known : (v : ℕ) → v < length vs → hull_at hs v ≡ declared_or_none (slice_get vs v) → definer_at (kept_of cs hs ds) v ≡ None → is_known (hull_at hs v) ≡ true
  free_known v below hull none = ap (λ (h : Option Ends). is_known h) hull ∙ declared v below none

  by_variable : (v i : ℕ) (c : Posted) (x : VarId) → c.defines ≡ Some x → x.0 ≡ v → definer_at ds v ≡ Some i → slice_get cs i ≡ Some c → definer_at (kept_of cs hs ds) v ≡ Some i
      → is_too_wide c.kind (if_defined (kept_of cs hs ds) c.defines i) hs ≡ false → IsFitConstraint (length vs) c.kind (if_defined (kept_of cs hs ds) c.defines i) → AreRead v
      → is_known (hull_at hs v) ≡ true
  by_variable v i c x defines same definer got kept narrow_here fit read =
      let here : if_defined (kept_of cs hs ds) c.defines i ≡ Some x =
      ap (λ (d : Option VarId). if_defined (kept_of cs hs ds) d i) defines
      ∙ ap (λ (d : Option ℕ). if is_place d i then Some x else None) (ap (λ (u : ℕ). definer_at (kept_of cs hs ds) u) same ∙ kept)
      ∙ ap (λ (b : Bool). if b then Some x else None) ((Decides-eqb i i).1 refl) in
      let gives : GivesVar c.kind (Some x) = subst (λ (d : Option VarId). GivesVar c.kind d) here fit.gives in
      let reads : reads_at cs (definer_at ds v) ≡ any_inputs c.kind =
      ap (λ (d : Option ℕ). reads_at cs d) definer ∙ ap (λ (p : Option Posted). posted_reads p) got ∙ reads_inputs c.kind gives.0 in
      subst (λ (u : ℕ). is_known (hull_at hs u) ≡ true) same
      (narrow_known hs c.kind x gives
      (each_number (λ b. is_known (hull_at hs b) ≡ true) (any_inputs c.kind) (λ b n. read b (subst (λ (us : List VarId). Contains (numbers us) b) (sym reads) n)))
      (subst (λ (d : Option VarId). is_too_wide c.kind d hs ≡ false) here narrow_here))

  by_defines : (v i : ℕ) (c : Posted) (d : Option VarId) → c.defines ≡ d → is_var d v ≡ true → definer_at ds v ≡ Some i → slice_get cs i ≡ Some c → definer_at (kept_of cs hs ds) v ≡ Some i
      → is_too_wide c.kind (if_defined (kept_of cs hs ds) c.defines i) hs ≡ false → IsFitConstraint (length vs) c.kind (if_defined (kept_of cs hs ds) c.defines i) → AreRead v
      → is_known (hull_at hs v) ≡ true
  by_defines v i c None defines is definer got kept narrow_here fit read = absurd (cc)
  by_defines v i c (Some x) defines is definer got kept narrow_here fit read = by_variable v i c x defines ((Decides-eqb x.0 v).0 is) definer got kept narrow_here fit read

  by_constraint : (v i : ℕ) (c : Posted) → v < length vs → is_var c.defines v ≡ true → definer_at ds v ≡ Some i → slice_get cs i ≡ Some c
      → is_too_wide c.kind (if_defined (kept_of cs hs ds) c.defines i) hs ≡ false → IsFitConstraint (length vs) c.kind (if_defined (kept_of cs hs ds) c.defines i) → AreRead v
      → is_known (hull_at hs v) ≡ true
  by_constraint v i c below is definer got narrow_here fit read =
      let decl = declared_or_none (slice_get vs v) in
      let kept_here : definer_at (kept_of cs hs ds) v ≡ (if any_defined c.kind (spans hs) then Some i else None) =
      kept_at cs hs ds v ∙ ap (λ (d : Option ℕ). kept_definer cs hs d) definer ∙ ap (λ (p : Option Posted). kept_by p i hs) got in
      let hull_here : hull_at hs v ≡ (if any_defined c.kind (spans hs) then defined_hull c.kind hs else declared_or_none (slice_get vs v)) =
      s.hulls.each v below ∙ ap (λ (d : Option ℕ). own_hull cs d (declared_or_none (slice_get vs v)) hs) definer
      ∙ ap (λ (p : Option Posted). posted_hull p (declared_or_none (slice_get vs v)) hs) got in
      let step : (b : Bool) → any_defined c.kind (spans hs) ≡ b → is_known (hull_at hs v) ≡ true =
      λ b. elim b as (λ b. any_defined c.kind (spans hs) ≡ b → is_known (hull_at hs v) ≡ true) [
        | true ↦ λ e. by_defines v i c c.defines refl is definer got (kept_here ∙ ap (λ (t : Bool). if t then Some i else None) e) narrow_here fit read
        | false ↦ λ e. free_known v below (hull_here ∙ ap (λ (t : Bool). if t then defined_hull c.kind hs else declared_or_none (slice_get vs v)) e)
            (kept_here ∙ ap (λ (t : Bool). if t then Some i else None) e)
      ] in
      step (any_defined c.kind (spans hs)) refl

  by_definer : (v : ℕ) (d : Option ℕ) → v < length vs → definer_at ds v ≡ d → AreRead v → is_known (hull_at hs v) ≡ true
  by_definer v None below e read =
      free_known v below (s.hulls.each v below ∙ ap (λ (d : Option ℕ). own_hull cs d (declared_or_none (slice_get vs v)) hs) e) (kept_at cs hs ds v ∙ ap (λ (d : Option ℕ). kept_definer cs hs d) e)
  by_definer v (Some i) below e read =
      let found = definer_found cs 0 v i (sym (s.definers.at v below) ∙ e) in
      let at : 0 + found.1 ≡ i = sym found.2 in
      let there : found.1 ≡ i = omega (arith, found.2) in
      by_constraint v i found.0 below found.4 e (subst (λ (j : ℕ). slice_get cs j ≡ Some found.0) there found.3)
      (subst (λ (j : ℕ). is_too_wide found.0.kind (if_defined (kept_of cs hs ds) found.0.defines j) hs ≡ false) at (none_wide cs 0 found.1 (kept_of cs hs ds) hs found.0 narrow found.3))
      (subst (λ (j : ℕ). IsFitConstraint (length vs) found.0.kind (if_defined (kept_of cs hs ds) found.0.defines j)) at (fit_at (length vs) cs 0 found.1 (kept_of cs hs ds) found.0 s.gives found.3))
      read

  known_before : (n k : ℕ) → k < n → k < length order → is_known (hull_at hs (get_or order k 0)) ≡ true
  known_before zero k kn l = absurd (omega (arith, kn))
  known_before (suc n) k kn l =
      by_definer (get_or order k 0) (definer_at ds (get_or order k 0)) (order_below vs cs ds order k s.definers.whole s.is_order l) refl
      (λ b c. (let r = read_before vs cs ds order s.definers.whole s.fit s.is_order k b l c in
      subst (λ (x : ℕ). is_known (hull_at hs x) ≡ true) (get_or_from_slice_get order r.0 b 0 r.2) (known_before n r.0 (omega (arith, r.1, kn)) (omega (arith, r.1, l)))))

  pub all_known_hulls : (v : ℕ) → v < length vs → is_known (hull_at hs v) ≡ true
  all_known_hulls v below =
      let there = s.is_order.whole v (omega (arith, below, nodes cs ds, s.definers.whole)) in
      subst (λ (x : ℕ). is_known (hull_at hs x) ≡ true) (get_or_default order there.0 0 v there.1 ∙ there.2) (known_before (suc there.0) there.0 (omega arith) there.1)
