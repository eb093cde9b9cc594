-- What the calls that find out the parts of a model ask for.
use Rattle.std.proofs.Common.{◌≡◌, ℕ, zero, suc, ◌+◌, ◌<◌, ◌≤ℤ◌, Bool, true, false, List, [], ◌∷◌, length, refl, sym, subst, arith, Option, Some, None, if◌then◌else◌, slice_get, ℤ, int_lt}
use Rattle.std.proofs.lemmas.Int.{clamps, ints}
use Rattle.dom_core.proofs.ProductLaws.{lt_false}
use Rattle.std.proofs.lemmas.Option.{same_Some}
use Rattle.digraph.specs.Order.{IsOrder, OrderedIsAcyclic}
use Rattle.dom_core.specs.Ends.{Ends, only, hull_ends}
use Rattle.dom_core.specs.Small.{IsSmall}
use Rattle.dom_definers.specs.Definers.{AreDefiners, DefineBelow, dependence}
use Rattle.dom_definers.specs.Domains.{AreSmallEnds}
use Rattle.dom_definers.specs.Hulls.{AreFitDefiners, AreSmallDeclared, IsSmallHull, declared_or_none}
use Rattle.dom_definers.specs.Variable.{form_hull, integers_hull, widened}
use Rattle.dom_definers.specs.Width.{AreFitFrom, if_defined, is_too_wide, wide_from}
use Rattle.dom_definers.specs.declared.form.Declared.{Declared}
use Rattle.dom_definers.specs.declared.form.Declared.TheVariants.{Any, Range, Values}
use Rattle.dom_definers.specs.declared.form.Form.{Form}
use Rattle.dom_definers.specs.declared.form.Form.TheVariants.{Bool as Truths, Int}
use Rattle.dom_definers.specs.declared.posted.Posted.{Posted}
use Rattle.dom_definers.specs.declared.variable.Variable.{Variable}
use Rattle.dom_domains.specs.FreeDomains.{AreSmallVariables}
use Rattle.dom_model.specs.Draft.{AreSmallDeclarations, AreSmallIntegers, Draft, IsFitDraft, IsSmallDeclared}
use Rattle.dom_model.specs.Finished.{AreDefined, kept}
use Rattle.dom_model.proofs.DefinerLaws.{define_below, fit_constraints, fit_definers}
use Rattle.kind_law.specs.Laws.{EndsIn, small_ends}

pub fit_below : (d : Draft) → IsFitDraft d → DefineBelow (length d.variables) d.constraints
fit_below d h = define_below (length d.variables) d.constraints h.posted

-- ---- small declarations

ends_of_declared : (d : Declared) → IsSmallDeclared d → AreSmallEnds d
ends_of_declared Any h = tt
ends_of_declared (Range lo hi) h = h
ends_of_declared (Values vs) h = tt

small_each : (vs : List Variable) → AreSmallDeclarations vs → AreSmallVariables vs
small_each [] h = tt
small_each (v ∷ vs) h = (ends_of_declared v.declared h.0, small_each vs h.1)

pub small_ends_of : (d : Draft) → IsFitDraft d → AreSmallVariables d.variables
small_ends_of d h = small_each d.variables h.small

only_small : (x : ℤ) → IsSmall x → EndsIn (only x) small_ends
only_small x h = (let low = h.low in let high = h.high in record { low = low; order = omega (arith, ints); high = high })

hull_small : (e f : Ends) → EndsIn e small_ends → EndsIn f small_ends → EndsIn (hull_ends e f) small_ends
hull_small e f h g =
    let a = h.low in let b = h.order in let c = h.high in let i = g.low in let j = g.order in let k = g.high in
    record { low = omega (arith, ints, clamps); order = omega (arith, ints, clamps); high = omega (arith, ints, clamps) }

widened_small : (e : Ends) (xs : List ℤ) → EndsIn e small_ends → AreSmallIntegers xs → EndsIn (widened e xs) small_ends
widened_small e [] h s = h
widened_small e (x ∷ xs) h s = widened_small (hull_ends e (only x)) xs (hull_small e (only x) h (only_small x s.0)) s.1

range_by : (b : Bool) (lo hi : ℤ) → (b ≡ false → lo ≤ℤ hi) → IsSmall lo → IsSmall hi → IsSmallHull (if b then None else Some (record { lo = lo; hi = hi }))
range_by true lo hi o s t = tt
range_by false lo hi o s t = record { low = s.low; order = o refl; high = t.high }

not_below : (lo hi : ℤ) → int_lt hi lo ≡ false → lo ≤ℤ hi
not_below lo hi e = lt_false hi lo e

integers_small : (d : Declared) → IsSmallDeclared d → IsSmallHull (integers_hull d)
integers_small Any h = tt
integers_small (Range lo hi) h = range_by (int_lt hi lo) lo hi (not_below lo hi) h.0 h.1
integers_small (Values []) h = tt
integers_small (Values (x ∷ xs)) h = widened_small (only x) xs (only_small x h.0) h.1

form_small : (f : Form) (d : Declared) → IsSmallDeclared d → IsSmallHull (form_hull f d)
form_small Truths d h = record { low = omega (arith, ints); order = omega (arith, ints); high = omega (arith, ints) }
form_small Int d h = integers_small d h

hulls_small : (vs : List Variable) (v : ℕ) → AreSmallDeclarations vs → IsSmallHull (declared_or_none (slice_get vs v))
hulls_small [] v h = tt
hulls_small (u ∷ vs) zero h = form_small u.form u.declared h.0
hulls_small (u ∷ vs) (suc v) h = hulls_small vs v h.1

-- the hull of each declaration is small
pub small_declared : (d : Draft) → IsFitDraft d → AreSmallDeclared d.variables
small_declared d h v = hulls_small d.variables v h.small

-- ---- definers

-- definers whose definitions have an order are definitions
pub fit_definers_of : (d : Draft) (first : List (Option ℕ)) (order : List ℕ) → IsFitDraft d → AreDefiners d.constraints (length d.variables) first → IsOrder (dependence d.constraints first) order → OrderedIsAcyclic
    → AreFitDefiners (length d.variables) d.constraints first
fit_definers_of d first order h definers is_order law = fit_definers (length d.variables) d.constraints first order h.posted definers is_order law

-- those that stay are fit for their constraints
pub fit_kept : (d : Draft) (first : List (Option ℕ)) (hs : List (Option Ends)) → IsFitDraft d → AreDefined d first hs → OrderedIsAcyclic
    → AreFitFrom (length d.variables) 0 d.constraints (kept d first hs)
fit_kept d first hs h defined law =
    fit_constraints (length d.variables) d.constraints first defined.order h.posted defined.definers defined.is_order law hs 0 d.constraints h.posted
    (λ k c e. subst (λ (j : ℕ). slice_get d.constraints j ≡ Some c) (let z : k ≡ 0 + k = omega arith in z) e)

-- the same over as many hulls
pub fit_kept_over : (d : Draft) (first ds : List (Option ℕ)) (hs : List (Option Ends)) → IsFitDraft d → AreDefined d first hs → OrderedIsAcyclic → ds ≡ kept d first hs
    → AreFitFrom (length hs) 0 d.constraints ds
fit_kept_over d first ds hs h defined law same =
    subst (λ (es : List (Option ℕ)). AreFitFrom (length hs) 0 d.constraints es) (sym same)
    (subst (λ (n : ℕ). AreFitFrom n 0 d.constraints (kept d first hs)) (sym defined.hulls.whole) (fit_kept d first hs h defined law))

pub below_over : (d : Draft) (first : List (Option ℕ)) (hs : List (Option Ends)) → IsFitDraft d → AreDefined d first hs → DefineBelow (length hs) d.constraints
below_over d first hs h defined = subst (λ (n : ℕ). DefineBelow n d.constraints) (sym defined.hulls.whole) (fit_below d h)

-- the place of a constraint that is too wide is one of the list
pub wide_below : (i n : ℕ) (cs : List Posted) (ds : List (Option ℕ)) (hs : List (Option Ends)) → wide_from i cs ds hs ≡ Some n → n < i + length cs
wide_below i n [] ds hs h = absurd (cc)
wide_below i n (c ∷ cs) ds hs h =
    elim (is_too_wide c.kind (if_defined ds c.defines i) hs) as (λ b. (if b then Some i else wide_from (suc i) cs ds hs) ≡ Some n → n < i + length (c ∷ cs)) [
      | true ↦ λ e. (let same : i ≡ n = same_Some i n e in omega (arith, same))
      | false ↦ λ e. (let below = wide_below (suc i) n cs ds hs e in omega (arith, below))
    ] h
