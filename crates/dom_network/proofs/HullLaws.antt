-- Values that lie in the hulls, and what they give.
use Rattle.std.proofs.Common.{◌≡◌, ◌<◌, ◌≤ℤ◌, true, Option, Some, None, List, [], ◌∷◌, ℕ, zero, suc, length, get_or, slice_get, ℤ, refl, sym, subst, arith}
use Rattle.std.proofs.lemmas.Int.{ints}
use Rattle.std.proofs.lemmas.Option.{same_Some, slice_get_read}
use Rattle.any_kind.specs.Any.{AnyFits, AnyInputsFit, any_given, any_inputs, any_ranged, any_vars}
use Rattle.any_kind.specs.AnyLaws.{any-fits, any-inputs, any-parts, any-range}
use Rattle.any_kind.specs.declared.any.AnyKind.{AnyKind}
use Rattle.dom_core.specs.Assignment.{entry_at}
use Rattle.dom_core.specs.Ends.{Ends, lies_in, only}
use Rattle.dom_core.specs.Small.{IsSmall}
use Rattle.dom_core.specs.declared.var_id.VarId.{VarId}
use Rattle.dom_core.proofs.EndsLaws.{lies_low, lies_high}
use Rattle.dom_definers.specs.Definers.{definer_at}
use Rattle.dom_definers.specs.Hulls.{AreSmallHulls, IsSmallHull, span_of, spans}
use Rattle.dom_network.specs.Completion.{AreInHulls}
use Rattle.dom_network.specs.Network.{AreFitOver, Gives, IsFitOver, IsGiven}
use Rattle.kind_law.specs.Laws.{AllBelow, AreWithin, Each, EndsIn, points, small_ends}
use Rattle.kind_law.proofs.ArgumentLaws.{listed}
use Rattle.kind_law.proofs.EachLaws.{each_map}

-- the variables' values lie in their hulls
abbrev pub LieInHulls : List (Option Ends) → List ℤ → List VarId → Type 0
LieInHulls hs a vars = Each (λ u. lies_in (entry_at a u.0) (spans hs u.0) ≡ true) vars

-- the constraint at a place
pub fit_at : (hs : List (Option Ends)) (ks : List AnyKind) (i : ℕ) (k : AnyKind) → AreFitOver hs ks → slice_get ks i ≡ Some k → IsFitOver hs k
fit_at hs [] i k f e = absurd (cc)
fit_at hs (c ∷ ks) zero k f e = subst (λ (x : AnyKind). IsFitOver hs x) (same_Some c k e) f.0
fit_at hs (c ∷ ks) (suc i) k f e = fit_at hs ks i k f.1 e

point_in : (x : ℤ) (e : Ends) → lies_in x e ≡ true → EndsIn (only x) e
point_in x e h = record { low = lies_low x e h; order = omega (arith, ints); high = lies_high x e h }

points_within : (hs : List (Option Ends)) (a : List ℤ) (vars : List VarId) → LieInHulls hs a vars → AreWithin vars (points a) (spans hs)
points_within hs a vars h = record {
  parts = each_map (λ u. lies_in (entry_at a u.0) (spans hs u.0) ≡ true) (λ u. EndsIn (points a u.0) (spans hs u.0)) vars (λ u l. point_in (entry_at a u.0) (spans hs u.0) l) h;
}

-- a constraint fits an assignment whose values lie in the hulls
pub fits_there : (hs : List (Option Ends)) (a : List ℤ) (k : AnyKind) → IsFitOver hs k → LieInHulls hs a (any_vars k) → AnyFits k (points a)
fits_there hs a k f h = any-fits k (points a) (spans hs) (points_within hs a (any_vars k) h) f.fits

all_inside : (hs : List (Option Ends)) (a : List ℤ) (vars : List VarId) → AllBelow (length hs) vars → AreInHulls hs a → LieInHulls hs a vars
all_inside hs a vars b h = each_map (λ u. u.0 < length hs) (λ u. lies_in (entry_at a u.0) (spans hs u.0) ≡ true) vars (λ u l. h.inside u.0 l) b

pub holds_below : (hs : List (Option Ends)) (a : List ℤ) (k : AnyKind) → IsFitOver hs k → AreInHulls hs a → AllBelow (length a) (any_vars k)
holds_below hs a k f h = subst (λ (n : ℕ). AllBelow n (any_vars k)) (sym h.whole) f.below

pub holds_fits : (hs : List (Option Ends)) (a : List ℤ) (k : AnyKind) → IsFitOver hs k → AreInHulls hs a → AnyFits k (points a)
holds_fits hs a k f h = fits_there hs a k f (all_inside hs a (any_vars k) f.below h)

-- ---- what a definition reads and gives

-- a definition reads variables of the network
pub inputs_below : (hs : List (Option Ends)) (v : ℕ) (k : AnyKind) → IsFitOver hs k → Gives hs v k → AllBelow (length hs) (any_inputs k)
inputs_below hs v k f g =
    each_map (λ u. _) (λ u. u.0 < length hs) (any_inputs k) (λ u l. listed (λ w. w.0 < length hs) u (any_vars k) l f.below) (any-parts k g.functional).others

pub inputs_fit : (hs : List (Option Ends)) (a : List ℤ) (v : ℕ) (k : AnyKind) → Gives hs v k → LieInHulls hs a (any_inputs k) → AnyInputsFit k (points a)
inputs_fit hs a v k g h = any-inputs k (points a) (spans hs) (points_within hs a (any_inputs k) h) g.fits

-- the value that a definition gives lies in its variable's hull
pub given_inside : (hs : List (Option Ends)) (a : List ℤ) (v : ℕ) (k : AnyKind) → Gives hs v k → LieInHulls hs a (any_inputs k) → lies_in (any_given k a) (spans hs v) ≡ true
given_inside hs a v k g h = subst (λ (o : Option Ends). lies_in (any_given k a) (span_of o) ≡ true) (sym g.hull) (any-range k a (spans hs) h)

in_larger : (x : ℤ) (e t : Ends) → lies_in x e ≡ true → EndsIn e t → (t.lo ≤ℤ x) × (x ≤ℤ t.hi)
in_larger x e t l i =
    let low : e.lo ≤ℤ x = lies_low x e l in
    let high : x ≤ℤ e.hi = lies_high x e l in
    let under : t.lo ≤ℤ e.lo = i.low in
    let over : e.hi ≤ℤ t.hi = i.high in
    (omega (arith, ints), omega (arith, ints))

-- it lies within plus and minus 2 ^ 62
pub given_small : (hs : List (Option Ends)) (a : List ℤ) (v : ℕ) (k : AnyKind) → AreSmallHulls hs → Gives hs v k → LieInHulls hs a (any_inputs k) → IsSmall (any_given k a)
given_small hs a v k s g h =
    let own : EndsIn (any_ranged k (spans hs)) small_ends = subst IsSmallHull g.hull (s v) in
    let there = in_larger (any_given k a) (any_ranged k (spans hs)) small_ends (any-range k a (spans hs) h) own in
    record { low = there.0; high = there.1 }

-- a variable is free, or a constraint gives it its value
pub by_definer : (hs : List (Option Ends)) (ks : List AnyKind) (ds : List (Option ℕ)) (v : ℕ) (P : Type 0) (d : Option ℕ) → definer_at ds v ≡ d → IsGiven hs ks v d
    → (definer_at ds v ≡ None → P) → ((i : ℕ) (k : AnyKind) → definer_at ds v ≡ Some i → slice_get ks i ≡ Some k → Gives hs v k → P) → P
by_definer hs ks ds v P None e g free defined = free e
by_definer hs ks ds v P (Some i) e g free defined = defined i g.0 e g.1 g.2

-- the constraint that is read
pub fit_read : (hs : List (Option Ends)) (ks items : List AnyKind) (i : ℕ) (k : AnyKind) → AreFitOver hs ks → items ≡ ks → i < length items → k ≡ get_or items i k → IsFitOver hs k
fit_read hs ks items i k f same lt e = fit_at hs items i k (subst (λ (xs : List AnyKind). AreFitOver hs xs) (sym same) f) (slice_get_read items (length items) i k refl lt e)
