-- What the tests ask of a small network.
use Rattle.std.proofs.Common.{◌≡◌, ◌<◌, ◌+◌, get_or, inl, inr, true, Option, Some, None, List, [], ◌∷◌, ℕ, zero, suc, length, ℤ, refl, sym, ◌∙◌, ap, subst, arith}
use Rattle.std.proofs.lemmas.Bool.{cases_lt}
use Rattle.any_kind.specs.Any.{AnyInputsFit, any_defined, any_functional, any_inputs, any_measured, any_vars}
use Rattle.any_kind.specs.AnyLaws.{any-among, any-pass}
use Rattle.any_kind.specs.declared.any.AnyKind.{AnyKind}
use Rattle.dom_core.specs.Domain.{IsDomain}
use Rattle.dom_core.specs.Assignment.{entry_at}
use Rattle.dom_core.specs.Ends.{Ends, lies_in}
use Rattle.dom_core.specs.declared.var_id.VarId.{VarId}
use Rattle.digraph.specs.Order.{IsOrder}
use Rattle.dom_definers.proofs.HullLaws.{known_one}
use Rattle.dom_definers.proofs.WidthLaws.{measured_below}
use Rattle.dom_definers.specs.Definers.{definer_at, numbers}
use Rattle.dom_definers.specs.Hulls.{AreSmallHulls, hull_at, is_known, span_of, spans}
use Rattle.dom_network.specs.Network.{Gives, IsFitOver, IsGiven, IsNetwork, ends_of_values}
use Rattle.kind_law.specs.Laws.{AllBelow, AreSmall, EndsIn, small_ends}
use Rattle.kind_law.proofs.ArgumentLaws.{each_among}
use Rattle.kind_law.proofs.EachLaws.{each_map}

pub measured_small : (hs : List (Option Ends)) (k : AnyKind) → AllBelow (length hs) (any_vars k) → ((v : ℕ) → v < length hs → is_known (hull_at hs v) ≡ true) → AreSmallHulls hs
    → AreSmall (any_measured k) (spans hs)
measured_small hs k below known small = record {
  parts = each_map (λ u. u.0 < length hs) (λ u. EndsIn (spans hs u.0) small_ends) (any_measured k) (λ u l. known_one (hull_at hs u.0) (known u.0 l) (small u.0)) (measured_below (length hs) k below);
}

pub test_inputs : (hs : List (Option Ends)) (k : AnyKind) → any_functional k ≡ true → IsFitOver hs k → AllBelow (length hs) (any_inputs k)
test_inputs hs k f fit = each_among (λ u. u.0 < length hs) (any_inputs k) (any_vars k) (any-among k) fit.below

pub test_fits : (hs : List (Option Ends)) (k : AnyKind) → any_functional k ≡ true → IsFitOver hs k → any_defined k (spans hs) ≡ true → AnyInputsFit k (spans hs)
test_fits hs k f fit d = any-pass k f (spans hs) fit.fits d

pub known_two : (hs : List (Option Ends)) → length hs ≡ 2 → is_known (hull_at hs 0) ≡ true → is_known (hull_at hs 1) ≡ true → (v : ℕ) → v < length hs → is_known (hull_at hs v) ≡ true
known_two hs e a b zero lt = a
known_two hs e a b (suc zero) lt = b
known_two hs e a b (suc (suc v)) lt = absurd (omega (arith, e, lt))

two_given : (hs : List (Option Ends)) (k l : AnyKind) → Gives hs 1 k → (v : ℕ) → IsGiven hs (k ∷ l ∷ []) v (definer_at (None ∷ Some 0 ∷ []) v)
two_given hs k l g zero = tt
two_given hs k l g (suc zero) = (k, refl, g)
two_given hs k l g (suc (suc v)) = tt

-- two variables, the second of which is defined by the first of two constraints
pub two_network : (k l : AnyKind) (hs : List (Option Ends)) (d : List ℤ) (h : Ends) → length hs ≡ 2 → ((v : ℕ) → v < length hs → is_known (hull_at hs v) ≡ true) → AreSmallHulls hs → IsFitOver hs k → IsFitOver hs l
    → Gives hs 1 k → hull_at hs 0 ≡ Some h → IsDomain d → h ≡ ends_of_values d → any_inputs k ≡ record { 0 = 0 } ∷ []
    → (order : List ℕ) → IsOrder ([] ∷ (0 ∷ []) ∷ []) order → IsNetwork (record { constraints = k ∷ l ∷ []; definers = None ∷ Some 0 ∷ []; hulls = hs; domains = d ∷ [] }) order
two_network k l hs d h two known small first second g hull domain ends reads order o = record {
  few = omega (arith, two);
  whole = sym two;
  known = known;
  small = small;
  fit = (first, (second, tt));
  given = λ v lt. two_given hs k l g v;
  domains = (domain, hull ∙ ap Some ends, tt);
  is_order = subst (λ (us : List VarId). IsOrder ([] ∷ numbers us ∷ []) order) (sym reads) o;
}

pub one_var : (us : List VarId) (u : VarId) → length us ≡ 1 → u ≡ get_or us 0 u → u.0 ≡ 0 → us ≡ record { 0 = 0 } ∷ []
one_var [] u e g z = absurd (omega (arith, e))
one_var (v ∷ (w ∷ us)) u e g z = absurd (omega (arith, e))
one_var (v ∷ []) u e g z = ap (λ (n : ℕ). let w : VarId = record { 0 = n } in w ∷ []) (ap (λ (w : VarId). w.0) (sym g) ∙ z)

-- one variable more lies in its hull
pub inside_next : (hs : List (Option Ends)) (a : List ℤ) (n : ℕ) (h : Ends) → ((v : ℕ) → v < n → lies_in (entry_at a v) (spans hs v) ≡ true) → hull_at hs n ≡ Some h → lies_in (entry_at a n) h ≡ true
    → (v : ℕ) → v < n + 1 → lies_in (entry_at a v) (spans hs v) ≡ true
inside_next hs a n h done hull here v lt = elim (cases_lt v n) [
  | inl below ↦ done v below
  | inr past ↦ (let same : n ≡ v = omega (arith, past, lt) in
      subst (λ (k : ℕ). lies_in (entry_at a k) (spans hs k) ≡ true) same (subst (λ (o : Option Ends). lies_in (entry_at a n) (span_of o) ≡ true) (sym hull) here))
]
