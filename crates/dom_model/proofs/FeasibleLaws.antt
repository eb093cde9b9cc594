-- A model's network admits exactly the feasible assignments.
use Rattle.std.proofs.Common.{◌≡◌, ◌↔◌, ℕ, suc, Bool, List, [], ◌∷◌, length, refl, sym, ◌∙◌, ap, subst, arith, Option, Some, None, slice_get, ℤ, IsTrue}
use Rattle.any_kind.specs.declared.any.AnyKind.{AnyKind}
use Rattle.dom_definers.specs.Definers.{definer_at}
use Rattle.dom_definers.specs.declared.variable.Variable.{Variable}
use Rattle.dom_domains.specs.Faults.{IsFaultBy, IsOpen}
use Rattle.dom_domains.specs.FreeDomains.{free_domains}
use Rattle.dom_domains.specs.declared.fault.DomainFault.TheVariants as faults
use Rattle.dom_domains.proofs.AllowedLaws.{allowed_length, allowed_listed}
use Rattle.dom_domains.proofs.RestrictionLaws.{form_open, met_allowed}
use Rattle.dom_model.specs.Least.{IsFeasible}
use Rattle.dom_model.specs.Problem.{Problem}
use Rattle.dom_model.specs.Sound.{FeasibleIsCompleted, IsSound}
use Rattle.dom_model.proofs.AllowedLaws.{AreClosed, all_allowed, allowed_tuple, meets_split}
use Rattle.any_kind.specs.Meets.{MeetsEach}
use Rattle.dom_network.specs.Free.{IsTuple, free_from, free_values}
use Rattle.dom_network.specs.NetworkLaws.{AdmittedIsCompleted}

-- each free variable is closed where none is at fault
pub closed_from : (n : ℕ) (vs : List Variable) (ds : List (Option ℕ)) → length ds ≡ length vs
    → ((k : ℕ) (v : Variable) → slice_get vs k ≡ Some v → definer_at ds k ≡ None → IsOpen v.form v.declared → ⊥) → AreClosed vs ds
closed_from n [] ds whole h = tt
closed_from n (v ∷ vs) [] whole h = absurd (omega (arith, whole))
closed_from n (v ∷ vs) (None ∷ ds) whole h = (h 0 v refl refl, closed_from (suc n) vs ds (omega (arith, whole)) (λ k u e. h (suc k) u e))
closed_from n (v ∷ vs) (Some i ∷ ds) whole h = closed_from (suc n) vs ds (omega (arith, whole)) (λ k u e. h (suc k) u e)

-- as many domains as free variables
pub free_lengths : (n : ℕ) (vs : List Variable) (ds : List (Option ℕ)) → length ds ≡ length vs → length (free_domains vs ds) ≡ length (free_from n ds)
free_lengths n [] [] whole = refl
free_lengths n [] (d ∷ ds) whole = absurd (omega (arith, whole))
free_lengths n (v ∷ vs) [] whole = absurd (omega (arith, whole))
free_lengths n (v ∷ vs) (None ∷ ds) whole = ap suc (free_lengths (suc n) vs ds (omega (arith, whole)))
free_lengths n (v ∷ vs) (Some i ∷ ds) whole = free_lengths (suc n) vs ds (omega (arith, whole))

module _ (p : Problem) (sound : IsSound p) (a : List ℤ) where
  closed : AreClosed p.variables p.network.definers
  closed =
      closed_from 0 p.variables p.network.definers sound.whole
      (λ k v e free any_value. sound.faultless k (faults.Unbounded (record { 0 = k })) (v, e, subst (λ (d : Option ℕ). IsFaultBy d v (record { 0 = k }) (faults.Unbounded (record { 0 = k }))) (sym free) (refl, any_value)))

  -- what the network admits is feasible
  pub admitted_feasible : length a ≡ length p.variables → IsTuple p.network.domains (free_values p.network.definers a) → MeetsEach p.network.constraints a → IsFeasible p a
  admitted_feasible size tuple meets =
      let both = meets_split sound.front sound.restrictions a (subst (λ (ks : List AnyKind). MeetsEach ks a) sound.constraints meets) in
      record {
        allowed = all_allowed (λ v x c e. (allowed_listed v x c).1 e) (λ v x c e. (allowed_listed v x c).0 e) (λ n v s k b e r m. (met_allowed v s n k b e r).0 m)
            (λ v x e. form_open v.form v.declared x e) a 0 p.variables p.network.definers sound.restrictions (omega (arith, size)) sound.whole closed sound.restricted both.1
            (subst (λ (ds : List (List ℤ)). IsTuple ds (free_values p.network.definers a)) sound.domains tuple);
        satisfied = meets;
      }

  -- free values of a feasible assignment lie in their domains
  pub feasible_tuple : IsFeasible p a → IsTuple p.network.domains (free_values p.network.definers a)
  feasible_tuple h =
      let size : length a ≡ length p.variables = allowed_length p.variables a h.allowed in
      subst (λ (ds : List (List ℤ)). IsTuple ds (free_values p.network.definers a)) (sym sound.domains)
      (allowed_tuple (λ v x c e. (allowed_listed v x c).1 e) (λ v x c e. (allowed_listed v x c).0 e) (λ n v s k b e r m. (met_allowed v s n k b e r).0 m)
      (λ v x e. form_open v.form v.declared x e) a 0 p.variables p.network.definers (omega (arith, size)) sound.whole closed h.allowed)

  pub feasible_length : IsFeasible p a → length a ≡ length p.variables
  feasible_length h = allowed_length p.variables a h.allowed

-- the network's test tells what is feasible
pub told_feasible : (p : Problem) (a : List ℤ) (r : Bool) → IsSound p → length a ≡ length p.variables
    → IsTrue r ↔ (IsTuple p.network.domains (free_values p.network.definers a) × MeetsEach p.network.constraints a) → IsTrue r ↔ IsFeasible p a
told_feasible p a r sound size told =
    ((λ t. (let both = told.0 t in admitted_feasible p sound a size both.0 both.1)), (λ h. told.1 (feasible_tuple p sound a h, h.satisfied)))

-- a feasible assignment is what completes its free values
pub feasible_completed : (p : Problem) → IsSound p → AdmittedIsCompleted p.network → FeasibleIsCompleted p
feasible_completed p sound law a h =
    let tuple = feasible_tuple p sound a h in
    (tuple, (law a (feasible_length p sound a h ∙ sym sound.whole) tuple h.satisfied).0)
