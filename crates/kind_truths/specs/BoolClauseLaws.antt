-- The laws of clauses, and what the laws of truths of clauses rest on.
use Rattle.std.proofs.Common.{◌≡◌, true, false, not, List, [], ℕ, ℤ, pos, refl, sym, ◌∙◌, ap, inl, inr}
use Rattle.std.specs.List.{list_any, list_all}
use Rattle.dom_core.specs.Assignment.{entry_at}
use Rattle.dom_core.specs.Ends.{Ends, only, lies_in}
use Rattle.dom_core.specs.View.{IsCovered, movement_at}
use Rattle.dom_core.specs.declared.view.Movement.{Movement}
use Rattle.dom_core.proofs.RisesLaws.{or_true, or_right}
use Rattle.dom_core.proofs.TestLaws.{not_true}
use Rattle.kind_law.specs.Argument.{ArgHas, arg_value, arg_ends, arg_change}
use Rattle.kind_law.specs.Laws.{Each, EndsIn, AreAmong, AreWithin, hulls, points, afters, changes, Covers, FitsLaw, WidthLaw, ShrinkLaw, FixedLaw, KeepLaw, StillLaw}
use Rattle.kind_law.proofs.BoundLaws.{smaller-within}
use Rattle.kind_law.proofs.EachLaws.{each_map}
use Rattle.kind_law.proofs.OutputLaws.{each_still}
use Rattle.kind_truths.specs.Operand.{makes_true, is_certain, operand_true, operand_certain, operand_refuted, operand_falls, operand_rises, operand_vars}
use Rattle.kind_truths.specs.OperandLaws.{certain_value, refuted_value, certain_within, certain_only, turned_value, stays_true, value_lies, of_vars, any_passes, all_pass, any_same, any_every, none_passes, none_every, all_fail, any_stays, all_stay, still_falls_not}
use Rattle.kind_truths.specs.BoolClause.{clause_met, clause_refuted, clause_kept}
use Rattle.kind_truths.specs.declared.operand.Operand.{Operand}
use Rattle.kind_law.proofs.ValueLaws.{arg_within, arg_same, arg_point, value_moves, arg_stays}

module _ (os : List Operand) where
  -- ---- values within intervals

  -- where some operand is certain, the clause is satisfied
  pub certain_met : (a : List ℤ) (s : ℕ → Ends) → Each (λ u. lies_in (entry_at a u.0) (s u.0) ≡ true) (operand_vars os) → list_any (operand_certain s) os ≡ true → clause_met os a ≡ true
  certain_met a s h =
      any_passes (operand_certain s) (operand_true a) (λ o. ArgHas (λ u. lies_in (entry_at a u.0) (s u.0) ≡ true) o.arg) os
      (λ o p c. certain_value o.negated (arg_value a o.arg) (arg_ends s o.arg) (value_lies a s o.arg p) c) (of_vars (λ u. lies_in (entry_at a u.0) (s u.0) ≡ true) os h)

  -- where all operands are refuted, it isn't
  pub refuted_unmet : (a : List ℤ) (s : ℕ → Ends) → Each (λ u. lies_in (entry_at a u.0) (s u.0) ≡ true) (operand_vars os) → list_all (operand_refuted s) os ≡ true → clause_met os a ≡ false
  refuted_unmet a s h =
      none_passes (operand_refuted s) (operand_true a) (λ o. ArgHas (λ u. lies_in (entry_at a u.0) (s u.0) ≡ true) o.arg) os
      (λ o p c. refuted_value o.negated (arg_value a o.arg) (arg_ends s o.arg) (value_lies a s o.arg p) c) (of_vars (λ u. lies_in (entry_at a u.0) (s u.0) ≡ true) os h)

  -- over smaller intervals more is certain, and more refuted
  pub certain_smaller : (small large : ℕ → Ends) → AreWithin (operand_vars os) small large → list_any (operand_certain large) os ≡ true → list_any (operand_certain small) os ≡ true
  certain_smaller small large w =
      any_passes (operand_certain large) (operand_certain small) (λ o. ArgHas (λ u. EndsIn (small u.0) (large u.0)) o.arg) os
      (λ o p c. certain_within o.negated (arg_ends small o.arg) (arg_ends large o.arg) (arg_within small large o.arg p) c) (of_vars (λ u. EndsIn (small u.0) (large u.0)) os w.parts)

  pub refuted_smaller : (small large : ℕ → Ends) → AreWithin (operand_vars os) small large → list_all (operand_refuted large) os ≡ true → list_all (operand_refuted small) os ≡ true
  refuted_smaller small large w =
      all_pass (operand_refuted large) (operand_refuted small) (λ o. ArgHas (λ u. EndsIn (small u.0) (large u.0)) o.arg) os
      (λ o p c. certain_within (not o.negated) (arg_ends small o.arg) (arg_ends large o.arg) (arg_within small large o.arg p) c) (of_vars (λ u. EndsIn (small u.0) (large u.0)) os w.parts)

  -- over one assignment what is certain is true
  pub certain_point : (a : List ℤ) → list_any (operand_certain (points a)) os ≡ clause_met os a
  certain_point a = any_every (operand_certain (points a)) (operand_true a) os
      (λ o. ap (is_certain o.negated) (arg_point a o.arg) ∙ certain_only o.negated (arg_value a o.arg))

  pub refuted_point : (a : List ℤ) → list_all (operand_refuted (points a)) os ≡ not (clause_met os a)
  refuted_point a = all_fail (operand_refuted (points a)) (operand_true a) os
      (λ o. ap (is_certain (not o.negated)) (arg_point a o.arg) ∙ certain_only (not o.negated) (arg_value a o.arg) ∙ turned_value o.negated (arg_value a o.arg))

  -- ---- changes

  -- where no operand falls, a clause that is satisfied stays so
  pub falls_none : (view : List Movement) (a b : List ℤ) → Covers view (operand_vars os) a b → list_any (operand_falls view) os ≡ false → clause_met os a ≡ true → clause_met os b ≡ true
  falls_none view a b c =
      any_stays (operand_falls view) (operand_true a) (operand_true b) (λ o. ArgHas (λ u. IsCovered view a b u.0) o.arg) os
      (λ o p none t. stays_true o.negated (arg_value a o.arg) (arg_value b o.arg) (arg_change (changes view) o.arg) (value_moves view a b o.arg p) none t) (of_vars (λ u. IsCovered view a b u.0) os c)

  -- where no operand rises, one that isn't satisfied stays so
  pub rises_none : (view : List Movement) (a b : List ℤ) → Covers view (operand_vars os) a b → list_any (operand_rises view) os ≡ false → clause_met os a ≡ false → clause_met os b ≡ false
  rises_none view a b c none unmet = not_true (clause_met os b) (sym (all_fail (λ o. not (operand_true b o)) (operand_true b) os (λ o. refl))
      ∙ all_stay (operand_rises view) (λ o. not (operand_true a o)) (λ o. not (operand_true b o)) (λ o. ArgHas (λ u. IsCovered view a b u.0) o.arg) os
      (λ o p still t. sym (turned_value o.negated (arg_value b o.arg)) ∙ stays_true (not o.negated) (arg_value a o.arg) (arg_value b o.arg) (arg_change (changes view) o.arg) (value_moves view a b o.arg p) still (turned_value o.negated (arg_value a o.arg) ∙ t))
      (of_vars (λ u. IsCovered view a b u.0) os c) none (all_fail (λ o. not (operand_true a o)) (operand_true a) os (λ o. refl) ∙ ap not unmet))

  -- where no variable moves, no operand falls
  pub still_falls : (view : List Movement) → Each (λ u. (movement_at view u.0).change ≡ only (pos 0)) (operand_vars os) → list_any (operand_falls view) os ≡ false
  still_falls view h = none_every (operand_falls view) (λ o. ArgHas (λ u. (movement_at view u.0).change ≡ only (pos 0)) o.arg) os
      (λ o p. still_falls_not o.negated (arg_change (changes view) o.arg) (arg_stays view o.arg p)) (of_vars (λ u. (movement_at view u.0).change ≡ only (pos 0)) os h)

  -- the clause reads its operands' variables alone
  pub met_same : (a b : List ℤ) → Each (λ u. entry_at a u.0 ≡ entry_at b u.0) (operand_vars os) → clause_met os a ≡ clause_met os b
  met_same a b h = any_same (operand_true a) (operand_true b) (λ o. ArgHas (λ u. entry_at a u.0 ≡ entry_at b u.0) o.arg) os
      (λ o p. ap (makes_true o.negated) (arg_same a b o.arg p)) (of_vars (λ u. entry_at a u.0 ≡ entry_at b u.0) os h)

-- ---- the laws

pub clause-fits : (os : List Operand) → FitsLaw (operand_vars os) (λ s. Unit {0})
clause-fits os small large within fits = tt

pub clause-width : (os : List Operand) → WidthLaw (operand_vars os) (λ s. 0) (λ s. Unit {0})
clause-width os s small size = tt

pub clause-measured : (os : List Operand) → AreAmong [] (operand_vars os)
clause-measured os = tt

pub clause-shrink : (os : List Operand) → ShrinkLaw (λ v. false) (operand_vars os) (clause_refuted os)
clause-shrink os small large s r = refuted_smaller os (hulls small) (hulls large) (smaller-within (λ v. false) (operand_vars os) small large s) r

pub clause-fixed : (os : List Operand) → FixedLaw (clause_refuted os) (clause_met os)
clause-fixed os a = refuted_point os a

pub clause-keep : (os : List Operand) → KeepLaw (operand_vars os) (clause_kept os) (clause_met os)
clause-keep os view a b c kept met =
    elim (or_true (list_any (operand_certain (afters view)) os) (not (list_any (operand_falls view) os)) kept) [
      | inl sure ↦ certain_met os b (afters view) (each_map (λ u. IsCovered view a b u.0) (λ u. lies_in (entry_at b u.0) (afters view u.0) ≡ true) (operand_vars os) (λ u m. m.after) c) sure
      | inr none ↦ falls_none os view a b c (not_true (list_any (operand_falls view) os) none) met
    ]

pub clause-still : (os : List Operand) → StillLaw (operand_vars os) (clause_kept os)
clause-still os view h =
    or_right (list_any (operand_certain (afters view)) os) (not (list_any (operand_falls view) os)) (ap not (still_falls os view (each_still (operand_vars os) view h)))
