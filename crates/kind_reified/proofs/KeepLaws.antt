-- Truths that are kept, as far as they need be looked at.
use Rattle.std.proofs.Common.{◌≡◌, true, ◌&&◌, ◌||◌, List, pos, sym, ◌∙◌, ap}
use Rattle.dom_core.specs.Ends.{Ends, only}
use Rattle.dom_core.specs.declared.view.Movement.{Movement}
use Rattle.dom_core.proofs.TestLaws.{and_first, and_second}
use Rattle.dom_core.proofs.RisesLaws.{or_left, or_right}
use Rattle.kind_law.specs.Argument.{arg_movement}
use Rattle.kind_law.specs.Function.{are_one, truth_kept as is_truth_kept}
use Rattle.kind_law.specs.Laws.{all_still, afters}
use Rattle.kind_law.proofs.ChangeLaws.{rest_changed}
use Rattle.kind_sum.specs.SumRelation.{sum_vars}
use Rattle.kind_reified.specs.LinearReified.{LinearReified, reified_range, reified_changed, reified_own_change, reified_kept}

-- where neither a variable of the sum nor the output moves
pub rest_keeps : (k : LinearReified) (view : List Movement) (y : Movement) → y ≡ arg_movement view k.output → (all_still (sum_vars k.sum) view && are_one (only (pos 0)) y.change) ≡ true
    → true ≡ reified_kept k view
rest_keeps k view y e h =
    let still : reified_changed k view ≡ only (pos 0) = rest_changed (sum_vars k.sum) (reified_range k) (reified_own_change k) view (and_first (all_still (sum_vars k.sum) view) (are_one (only (pos 0)) y.change) h) in
    let same : are_one (only (pos 0)) (arg_movement view k.output).change ≡ true =
    ap (λ (m : Movement). are_one (only (pos 0)) m.change) (sym e) ∙ and_second (all_still (sum_vars k.sum) view) (are_one (only (pos 0)) y.change) h in
    sym (or_left (are_one (reified_changed k view) (arg_movement view k.output).change)
    (are_one (reified_range k (afters view)) (arg_movement view k.output).after || (true && is_truth_kept (reified_changed k view) (arg_movement view k.output)))
    (ap (λ (d : Ends). are_one d (arg_movement view k.output).change) still ∙ same))

-- where truth and output have the same value afterwards
pub after_keeps : (k : LinearReified) (view : List Movement) (y : Movement) (after : Ends) → y ≡ arg_movement view k.output → after ≡ reified_range k (afters view) → are_one after y.after ≡ true
    → true ≡ reified_kept k view
after_keeps k view y after e f h =
    let same : are_one (reified_range k (afters view)) (arg_movement view k.output).after ≡ true =
    ap (λ (m : Movement). are_one (reified_range k (afters view)) m.after) (sym e) ∙ ap (λ (d : Ends). are_one d y.after) (sym f) ∙ h in
    sym (or_right (are_one (reified_changed k view) (arg_movement view k.output).change)
    (are_one (reified_range k (afters view)) (arg_movement view k.output).after || (true && is_truth_kept (reified_changed k view) (arg_movement view k.output)))
    (or_left (are_one (reified_range k (afters view)) (arg_movement view k.output).after) (true && is_truth_kept (reified_changed k view) (arg_movement view k.output)) same))
