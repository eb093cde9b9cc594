use Rattle.std.proofs.Common.{◌+◌, ◌≤◌, length, ap, sym, subst, ◌∙◌}
use Rattle.dom_model.specs.Draft.{Draft}
use Rattle.fzn_limits.specs.Sizes.{variables_in}
use Rattle.fzn_model.proofs.Whole.{count_old, count_one, count_two, few_one, goal_fit}
use Rattle.fzn_model.proofs.drafting.fill.Goals as goal

pub post_written-requires-clause-count : goal.post_written-requires-clause-count
post_written-requires-clause-count c = count_old c.args.items.now c.args.builder.now c.requires.declared ∙ ap variables_in (sym c.requires.same)

pub post_initial-requires-clause-count : goal.post_initial-requires-clause-count
post_initial-requires-clause-count c =
    count_one c.args.items.now c.args.builder.now c.requires.declared c.args.values.now c.as_slice-constraints.result.now c.post_written.new.builder c.requires.same c.as_slice-constraints.ensures
    c.in_ok-post_written.ensures
    ∙ ap variables_in (sym c.as_slice-declarations.ensures)

pub post_initial-requires-clause-few : goal.post_initial-requires-clause-few
post_initial-requires-clause-few c =
    subst (λ ds. length c.post_written.new.builder.constraints + variables_in ds ≤ 2147483648) (sym c.as_slice-declarations.ensures)
    (few_one c.args.items.now c.args.builder.now c.requires.declared c.args.values.now c.as_slice-constraints.result.now c.post_written.new.builder c.requires.same c.as_slice-constraints.ensures
    c.in_ok-post_written.ensures c.requires.few)

pub goal-requires : goal.goal-requires
goal-requires c =
    goal_fit c.args.items.now c.args.builder.now c.requires.declared c.args.values.now c.as_slice-constraints.result.now c.post_written.new.builder c.requires.same c.as_slice-constraints.ensures
    c.in_ok-post_written.ensures c.as_slice-declarations.result.now c.post_initial.new.builder c.as_slice-declarations.ensures c.in_ok-post_initial.ensures c.scope.result.now
    c.in_ok-goal_of.field-0 (c.scope.ensures ∙ c.requires.same) c.in_ok-goal_of.ensures

pub mark_all-requires-clause-count : goal.mark_all-requires-clause-count
mark_all-requires-clause-count c =
    ap (λ (b : Draft). length b.variables) c.goal.ensures
    ∙ count_two c.args.items.now c.args.builder.now c.requires.declared c.args.values.now c.as_slice-constraints.result.now c.post_written.new.builder c.requires.same c.as_slice-constraints.ensures
    c.in_ok-post_written.ensures c.as_slice-declarations.result.now c.post_initial.new.builder c.as_slice-declarations.ensures c.in_ok-post_initial.ensures
    ∙ ap variables_in (sym c.as_slice-declarations.ensures)
