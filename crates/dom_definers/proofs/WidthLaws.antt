-- What is measured of a constraint is known where its other variables are.
use Rattle.std.proofs.Common.{◌≡◌, ℕ, ◌==◌, ◌<◌, Bool, true, false, ◌||◌, List, [], ◌∷◌, refl, sym, ◌∙◌, ap, subst, Option, Some, None, inl, inr}
use Rattle.std.proofs.lemmas.Bool.Decides.{Decides-eqb}
use Rattle.any_kind.specs.Any.{any_inputs, any_measured, any_output, any_vars}
use Rattle.any_kind.specs.AnyLaws.{any-apart, any-measured, any-measured_inputs, any-parts}
use Rattle.any_kind.specs.declared.any.AnyKind.{AnyKind}
use Rattle.dom_core.specs.Ends.{Ends}
use Rattle.dom_core.proofs.RisesLaws.{or_true}
use Rattle.dom_core.proofs.TestLaws.{and_first, and_second}
use Rattle.dom_core.specs.declared.var_id.VarId.{VarId}
use Rattle.kind_law.specs.Argument.{is_listed}
use Rattle.kind_law.specs.Laws.{AllBelow, AreSmall, Each, EndsIn, small_ends}
use Rattle.kind_law.proofs.ArgumentLaws.{each_among, listed, same_var}
use Rattle.kind_law.proofs.EachLaws.{each_map}
use Rattle.dom_definers.specs.Hulls.{AreSmallHulls, hull_at, is_known, spans}
use Rattle.dom_definers.specs.Width.{GivesVar, is_own, others_known}
use Rattle.dom_definers.proofs.HullLaws.{known_one}

pub measured_below : (n : ℕ) (k : AnyKind) → AllBelow n (any_vars k) → AllBelow n (any_measured k)
measured_below n k h = each_among (λ u. u.0 < n) (any_measured k) (any_vars k) (any-measured k) h

not_own : (b c : Bool) → (b || c) ≡ true → b ≡ false → c ≡ true
not_own true c h e = absurd (cc)
not_own false c h e = h

-- a variable that isn't the one that is defined has a hull
pub other_known : (hs : List (Option Ends)) (d : Option VarId) (vars : List VarId) (u : VarId) → others_known hs d vars ≡ true → is_listed u vars ≡ true → is_own d u ≡ false
    → is_known (hull_at hs u.0) ≡ true
other_known hs d [] u h e own = absurd (cc)
other_known hs d (v ∷ vs) u h e own =
    elim (or_true (v.0 == u.0) (is_listed u vs) e) [
      | inl same ↦ not_own (is_own d u) (is_known (hull_at hs u.0))
          (subst (λ (w : VarId). (is_own d w || is_known (hull_at hs w.0)) ≡ true) (same_var u v ((Decides-eqb v.0 u.0).0 same)) (and_first (is_own d v || is_known (hull_at hs v.0)) (others_known hs d vs) h)) own
      | inr later ↦ other_known hs d vs u (and_second (is_own d v || is_known (hull_at hs v.0)) (others_known hs d vs) h) later own
    ]

different : (x u : ℕ) → (u ≡ x → ⊥) → (x == u) ≡ false
different x u apart =
    let step : (b : Bool) → (x == u) ≡ b → (x == u) ≡ false = λ b. elim b as (λ b. (x == u) ≡ b → (x == u) ≡ false)
    [ true ↦ λ e. absurd (apart (sym ((Decides-eqb x u).0 e))) | false ↦ λ e. e ] in
    step (x == u) refl

measured_each : (hs : List (Option Ends)) (d : Option VarId) (k : AnyKind) → GivesVar k d → AreSmallHulls hs → others_known hs d (any_vars k) ≡ true
    → Each (λ u. EndsIn (spans hs u.0) small_ends) (any_measured k)
measured_each hs None k g s h =
    each_map (λ u. is_listed u (any_vars k) ≡ true) (λ u. EndsIn (spans hs u.0) small_ends) (any_measured k)
    (λ u e. known_one (hull_at hs u.0) (other_known hs None (any_vars k) u h e refl) (s u.0)) (any-measured k)
measured_each hs (Some x) k g s h =
    each_map (λ u. is_listed u (any_inputs k) ≡ true) (λ u. EndsIn (spans hs u.0) small_ends) (any_measured k)
    (λ u e. known_one (hull_at hs u.0)
    (other_known hs (Some x) (any_vars k) u h (listed (λ w. is_listed w (any_vars k) ≡ true) u (any_inputs k) e (any-parts k g.0).others)
    (different x.0 u.0 (λ q. listed (λ w. w.0 ≡ (any_output k).0 → ⊥) u (any_inputs k) e (any-apart k g.0) (q ∙ ap (λ (w : VarId). w.0) (sym g.1))))) (s u.0))
    (any-measured_inputs k g.0)

-- what is measured has small hulls, where all variables but the one that is defined are known
pub measured_small : (hs : List (Option Ends)) (d : Option VarId) (k : AnyKind) → GivesVar k d → AreSmallHulls hs → others_known hs d (any_vars k) ≡ true → AreSmall (any_measured k) (spans hs)
measured_small hs d k g s h = record { parts = measured_each hs d k g s h }
