-- A view that moves no variable of a sum keeps it.
use Rattle.std.proofs.Common.{◌≡◌, List, [], ◌∷◌, ℤ, pos, true, refl, ◌∙◌, ap}
use Rattle.std.proofs.Math.IntN.{*ℤ-zero}
use Rattle.dom_core.specs.Ends.{Ends, only, sum_ends, scaled_ends}
use Rattle.dom_core.specs.View.{movement_at}
use Rattle.dom_core.specs.declared.view.Movement.{Movement}
use Rattle.kind_law.specs.Laws.{Each, StillLaw, afters, changes}
use Rattle.kind_law.specs.Argument.{arg_change, arg_ends}
use Rattle.kind_law.proofs.ArgumentLaws.{each_listed}
use Rattle.kind_law.proofs.OutputLaws.{each_still}
use Rattle.kind_law.proofs.ValueLaws.{arg_stays}
use Rattle.kind_sum.specs.SumRelation.{SumRelation, sum_vars, sum_kept}
use Rattle.kind_parts.specs.Relation.{kept_by}
use Rattle.kind_sum.specs.Sum.{total, vars_of}
use Rattle.kind_sum.specs.SumLaws.{arg_has, scaled_only}
use Rattle.dom_core.specs.declared.relation.Relation.{Relation}
use Rattle.dom_core.specs.declared.relation.Relation.TheVariants.{AtMost, Equal, Differ}
use Rattle.kind_sum.specs.declared.term.Term.{Term}

no_multiple : (c : ℤ) → scaled_ends c (only (pos 0)) ≡ only (pos 0)
no_multiple c = scaled_only c (pos 0) ∙ ap only (*ℤ-zero c)

total_zero : (ts : List Term) (view : List Movement) → Each (λ u. (movement_at view u.0).change ≡ only (pos 0)) (vars_of ts) → total ts (arg_change (changes view)) ≡ only (pos 0)
total_zero [] view h = refl
total_zero (t ∷ ts) view h =
    let both = arg_has (λ u. (movement_at view u.0).change ≡ only (pos 0)) t ts h in
    ap (λ (e : Ends). sum_ends (scaled_ends t.coef e) (total ts (arg_change (changes view)))) (arg_stays view t.arg both.0)
    ∙ ap (λ (e : Ends). sum_ends e (total ts (arg_change (changes view)))) (no_multiple t.coef)
    ∙ ap (λ (e : Ends). sum_ends (only (pos 0)) e) (total_zero ts view both.1)

zero_kept : (r : Relation) (after : Ends) (c : ℤ) → kept_by r (only (pos 0)) after c ≡ true
zero_kept AtMost after c = refl
zero_kept Equal after c = refl
zero_kept Differ after c = refl

pub sum-still : (k : SumRelation) → StillLaw (sum_vars k) (sum_kept k)
sum-still k view h =
    ap (λ (e : Ends). kept_by k.relation e (total k.terms (arg_ends (afters view))) k.bound)
    (total_zero k.terms view (each_listed (λ u. (movement_at view u.0).change ≡ only (pos 0)) (vars_of k.terms) (each_still (sum_vars k) view h)))
    ∙ zero_kept k.relation (total k.terms (arg_ends (afters view))) k.bound
