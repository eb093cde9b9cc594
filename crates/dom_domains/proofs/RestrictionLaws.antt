-- Restrictions are known by their variables, and say that defined variables have allowed values.
use Rattle.std.proofs.Common.{◌≡◌, ◌↔◌, true, false, List, [], ◌∷◌, ℕ, zero, suc, ◌+◌, ℤ, ◌<ℤ◌, ◌≤ℤ◌, refl, sym, ◌∙◌, ap, subst, arith, Option, Some, None, slice_get}
use Rattle.std.proofs.lemmas.Int.{ints}
use Rattle.std.proofs.lemmas.Option.{same_Some}
use Rattle.any_kind.specs.Any.{any_met}
use Rattle.any_kind.specs.declared.any.AnyKind.{AnyKind}
use Rattle.any_kind.specs.declared.any.AnyKind.TheVariants as kinds
use Rattle.dom_core.specs.Assignment.{entry_at}
use Rattle.dom_core.specs.Rises.{is_among}
use Rattle.dom_core.specs.declared.arg.Arg.{Arg}
use Rattle.dom_core.specs.declared.arg.Arg.TheVariants.{Var}
use Rattle.dom_core.specs.declared.set.Set.{Set}
use Rattle.dom_core.specs.declared.set.Set.TheVariants.{Range, Values}
use Rattle.dom_core.proofs.TestLaws.{not_both}
use Rattle.dom_definers.specs.Definers.{definer_at}
use Rattle.dom_definers.specs.declared.form.Declared.{Declared}
use Rattle.dom_definers.specs.declared.form.Declared.TheVariants as declarations
use Rattle.dom_definers.specs.declared.form.Form.{Form}
use Rattle.dom_definers.specs.declared.form.Form.TheVariants.{Bool as Truths, Int}
use Rattle.dom_definers.specs.declared.variable.Variable.{Variable}
use Rattle.dom_domains.specs.Allowed.{Allows, AllowsForm}
use Rattle.any_kind.specs.Meets.{MeetsEach}
use Rattle.dom_domains.specs.Laws.{AllowsDefined, DefinedAreAllowed}
use Rattle.dom_domains.specs.Restrictions.{AreRestrictions, AreRestrictionsFrom, IsRestrictedBy, IsRestriction, form_set, restricting_set, set_of}
use Rattle.dom_domains.proofs.AllowedLaws.{set_allowed}
use Rattle.dom_domains.proofs.RisingLaws.{rises_same}
use Rattle.kind_arith.specs.InSet.{Restriction}
use Rattle.kind_law.specs.Argument.{arg_value}
use Rattle.kind_parts.specs.Set.{IsEmptyOrGappy, IsPlain, IsPlainOf, set_has}
use Rattle.kind_parts.proofs.SetLaws.{between, from_low, to_high}

-- ---- plain sets are known by their members

-- a plain list has no value or a gap, so it isn't a range
not_row : (lo hi : ℤ) (xs : List ℤ) → lo ≤ℤ hi → IsEmptyOrGappy xs → ((x : ℤ) → set_has (Range lo hi) x ≡ is_among x xs) → ⊥
not_row lo hi [] ends gap h = absurd (let t : true ≡ false = sym (between lo lo hi (omega (arith, ints)) ends) ∙ h lo in cc)
not_row lo hi (x ∷ xs) ends gap h =
    let low : lo ≤ℤ gap.low = from_low lo gap.low hi (h gap.low ∙ gap.has_low) in
    let high : gap.high ≤ℤ hi = to_high lo gap.high hi (h gap.high ∙ gap.has_high) in
    let above : gap.low <ℤ gap.gap = gap.above in
    let below : gap.gap <ℤ gap.high = gap.below in
    not_both (is_among gap.gap (x ∷ xs)) (sym (h gap.gap) ∙ between lo gap.gap hi (omega (arith, ints)) (omega (arith, ints))) gap.missing

same_ranges : (lo hi low high : ℤ) → lo ≤ℤ hi → low ≤ℤ high → ((x : ℤ) → set_has (Range lo hi) x ≡ set_has (Range low high) x) → Range lo hi ≡ Range low high
same_ranges lo hi low high p q h =
    let a : set_has (Range low high) lo ≡ true = sym (h lo) ∙ between lo lo hi (omega (arith, ints)) p in
    let b : set_has (Range low high) hi ≡ true = sym (h hi) ∙ between lo hi hi p (omega (arith, ints)) in
    let c : set_has (Range lo hi) low ≡ true = h low ∙ between low low high (omega (arith, ints)) q in
    let d : set_has (Range lo hi) high ≡ true = h high ∙ between low high high q (omega (arith, ints)) in
    let lo_down : low ≤ℤ lo = from_low low lo high a in
    let hi_up : hi ≤ℤ high = to_high low hi high b in
    let lo_up : lo ≤ℤ low = from_low lo low hi c in
    let hi_down : high ≤ℤ hi = to_high lo high hi d in
    let first : lo ≡ low = omega (arith, ints) in
    let last : hi ≡ high = omega (arith, ints) in
    ap (λ (z : ℤ). Range z hi) first ∙ ap (λ (z : ℤ). Range low z) last

same_sets : (a b : Set) → IsPlain a → IsPlain b → ((x : ℤ) → set_has a x ≡ set_has b x) → a ≡ b
same_sets (Range lo hi) (Range low high) p q h = same_ranges lo hi low high p q h
same_sets (Range lo hi) (Values ys) p q h = absurd (not_row lo hi ys p q.1 h)
same_sets (Values xs) (Range low high) p q h = absurd (not_row low high xs q p.1 (λ x. sym (h x)))
same_sets (Values xs) (Values ys) p q h = ap Values (rises_same xs ys p.0 q.0 h)

pub plain_same : (s a b : Set) → IsPlainOf s a → IsPlainOf s b → a ≡ b
plain_same s a b p q = same_sets a b p.form q.form (λ x. p.same x ∙ sym (q.same x))

-- ---- one restriction

-- what stands in a restriction
record Restricts (n : ℕ) (s : Set) (k : AnyKind) : Type 0 where
  restriction : Restriction
  is : k ≡ kinds.InSet restriction
  arg : restriction.arg ≡ Var (record { 0 = n })
  plain : IsPlainOf s restriction.set

restriction_in : (n : ℕ) (s : Set) (k : AnyKind) → IsRestriction n s k → Restricts n s k
restriction_in n s (kinds.InSet r) h = record { restriction = r; is = refl; arg = h.0; plain = h.1 }
restriction_in n s k h = absurd h

pub same_restriction : (n : ℕ) (s : Set) (k j : AnyKind) → IsRestriction n s k → IsRestriction n s j → k ≡ j
same_restriction n s k j h g =
    let r = restriction_in n s k h in
    let q = restriction_in n s j g in
    let arg : r.restriction.arg ≡ q.restriction.arg = r.arg ∙ sym q.arg in
    let set : r.restriction.set ≡ q.restriction.set = plain_same s r.restriction.set q.restriction.set r.plain q.plain in
    r.is ∙ ap (λ (x : Arg). kinds.InSet (record { arg = x; set = r.restriction.set })) arg ∙ ap (λ (t : Set). kinds.InSet (record { arg = q.restriction.arg; set = t })) set ∙ sym q.is

restriction-met : (n : ℕ) (s : Set) (k : AnyKind) (a : List ℤ) → IsRestriction n s k → any_met k a ≡ set_has s (entry_at a n)
restriction-met n s k a h =
    let r = restriction_in n s k h in
    ap (λ (j : AnyKind). any_met j a) r.is ∙ ap (λ (x : Arg). set_has r.restriction.set (arg_value a x)) r.arg ∙ r.plain.same (entry_at a n)

-- it is met exactly where the variable has an allowed value
pub met_allowed : (v : Variable) (s : Set) (n : ℕ) (k : AnyKind) (a : List ℤ) → set_of v ≡ Some s → IsRestriction n s k → (any_met k a ≡ true) ↔ Allows v (entry_at a n)
met_allowed v s n k a e h =
    let both = set_allowed v s (entry_at a n) e in
    ((λ t. both.0 (sym (restriction-met n s k a h) ∙ t)), (λ p. restriction-met n s k a h ∙ both.1 p))

-- ---- all restrictions

-- every integer is allowed where there is no set
pub form_open : (f : Form) (d : Declared) (x : ℤ) → form_set f d ≡ None → AllowsForm f d x
form_open Truths d x e = absurd (cc)
form_open Int declarations.Any x e = tt
form_open Int (declarations.Range lo hi) x e = absurd (cc)
form_open Int (declarations.Values vs) x e = absurd (cc)

module _ (a : List ℤ) (n : ℕ) (v : Variable) (P : List AnyKind → Type 0) where
  split_by : (s : Option Set) (ks : List AnyKind) → set_of v ≡ s → IsRestrictedBy n s P ks → MeetsEach ks a → Allows v (entry_at a n) × (js : List AnyKind) × P js × MeetsEach js a
  split_by None ks e h m = (form_open v.form v.declared (entry_at a n) e, ks, h, m)
  split_by (Some s) [] e h m = absurd h
  split_by (Some s) (k ∷ ks) e h m = ((met_allowed v s n k a e h.0).0 m.0, ks, h.1, m.1)

  split : (d : Option ℕ) (ks : List AnyKind) → IsRestrictedBy n (restricting_set v d) P ks → MeetsEach ks a → AllowsDefined d v (entry_at a n) × (js : List AnyKind) × P js × MeetsEach js a
  split None ks h m = (tt, ks, h, m)
  split (Some i) ks h m = split_by (set_of v) ks refl h m

  join_by : (s : Option Set) (ks : List AnyKind) → set_of v ≡ s → IsRestrictedBy n s P ks → Allows v (entry_at a n) → ((js : List AnyKind) → P js → MeetsEach js a) → MeetsEach ks a
  join_by None ks e h p rest = rest ks h
  join_by (Some s) [] e h p rest = absurd h
  join_by (Some s) (k ∷ ks) e h p rest = ((met_allowed v s n k a e h.0).1 p, rest ks h.1)

  join : (d : Option ℕ) (ks : List AnyKind) → IsRestrictedBy n (restricting_set v d) P ks → AllowsDefined d v (entry_at a n) → ((js : List AnyKind) → P js → MeetsEach js a) → MeetsEach ks a
  join None ks h p rest = rest ks h
  join (Some i) ks h p rest = join_by (set_of v) ks refl h p rest

same_place : (n i : ℕ) → suc n + i ≡ n + suc i
same_place n i = omega arith

met_from : (vs : List Variable) (ds : List (Option ℕ)) (ks : List AnyKind) (a : List ℤ) (n : ℕ) → AreRestrictionsFrom n vs ds ks → MeetsEach ks a
    → (i : ℕ) (v : Variable) → slice_get vs i ≡ Some v → AllowsDefined (definer_at ds i) v (entry_at a (n + i))
met_from [] ds ks a n h m i v g = absurd (cc)
met_from (w ∷ vs) [] ks a n h m i v g = absurd h
met_from (w ∷ vs) (d ∷ ds) ks a n h m zero v g =
    let s = split a n w (AreRestrictionsFrom (suc n) vs ds) d ks h m in
    subst (λ (u : Variable). AllowsDefined d u (entry_at a (n + 0))) (same_Some w v g) (subst (λ (j : ℕ). AllowsDefined d w (entry_at a j)) (let z : n ≡ n + 0 = omega arith in z) s.0)
met_from (w ∷ vs) (d ∷ ds) ks a n h m (suc i) v g =
    let s = split a n w (AreRestrictionsFrom (suc n) vs ds) d ks h m in
    subst (λ (j : ℕ). AllowsDefined (definer_at ds i) v (entry_at a j)) (same_place n i) (met_from vs ds s.1 a (suc n) s.2 s.3 i v g)

allowed_from : (vs : List Variable) (ds : List (Option ℕ)) (ks : List AnyKind) (a : List ℤ) (n : ℕ) → AreRestrictionsFrom n vs ds ks
    → ((i : ℕ) (v : Variable) → slice_get vs i ≡ Some v → AllowsDefined (definer_at ds i) v (entry_at a (n + i))) → MeetsEach ks a
allowed_from [] ds ks a n h p = subst (λ (js : List AnyKind). MeetsEach js a) (sym h) tt
allowed_from (w ∷ vs) [] ks a n h p = absurd h
allowed_from (w ∷ vs) (d ∷ ds) ks a n h p =
    join a n w (AreRestrictionsFrom (suc n) vs ds) d ks h (subst (λ (j : ℕ). AllowsDefined d w (entry_at a j)) (let z : n + 0 ≡ n = omega arith in z) (p 0 w refl))
    (λ js g. allowed_from vs ds js a (suc n) g (λ i v e. subst (λ (j : ℕ). AllowsDefined (definer_at ds i) v (entry_at a j)) (sym (same_place n i)) (p (suc i) v e)))

pub met_defined : (vs : List Variable) (ds : List (Option ℕ)) (ks : List AnyKind) (a : List ℤ) → AreRestrictions vs ds ks → MeetsEach ks a ↔ DefinedAreAllowed vs ds a
met_defined vs ds ks a h = (
  (λ m i v g. subst (λ (j : ℕ). AllowsDefined (definer_at ds i) v (entry_at a j)) (let z : 0 + i ≡ i = omega arith in z) (met_from vs ds ks a 0 h m i v g)),
  (λ p. allowed_from vs ds ks a 0 h (λ i v g. subst (λ (j : ℕ). AllowsDefined (definer_at ds i) v (entry_at a j)) (let z : i ≡ 0 + i = omega arith in z) (p i v g))),
)

-- ---- there is one list of restrictions

one_by : (n : ℕ) (s : Option Set) (P : List AnyKind → Type 0) (ks js : List AnyKind) → ((xs ys : List AnyKind) → P xs → P ys → xs ≡ ys) → IsRestrictedBy n s P ks → IsRestrictedBy n s P js → ks ≡ js
one_by n None P ks js one h g = one ks js h g
one_by n (Some s) P [] js one h g = absurd h
one_by n (Some s) P (k ∷ ks) [] one h g = absurd g
one_by n (Some s) P (k ∷ ks) (j ∷ js) one h g =
    ap (λ (x : AnyKind). x ∷ ks) (same_restriction n s k j h.0 g.0) ∙ ap (λ (xs : List AnyKind). j ∷ xs) (one ks js h.1 g.1)

one_from : (vs : List Variable) (ds : List (Option ℕ)) (n : ℕ) (ks js : List AnyKind) → AreRestrictionsFrom n vs ds ks → AreRestrictionsFrom n vs ds js → ks ≡ js
one_from [] ds n ks js h g = h ∙ sym g
one_from (v ∷ vs) [] n ks js h g = absurd h
one_from (v ∷ vs) (d ∷ ds) n ks js h g = one_by n (restricting_set v d) (AreRestrictionsFrom (suc n) vs ds) ks js (one_from vs ds (suc n)) h g

pub same_restrictions : (vs : List Variable) (ds : List (Option ℕ)) (ks js : List AnyKind) → AreRestrictions vs ds ks → AreRestrictions vs ds js → ks ≡ js
same_restrictions vs ds ks js h g = one_from vs ds 0 ks js h g
