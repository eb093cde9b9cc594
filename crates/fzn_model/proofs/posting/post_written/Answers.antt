use Rattle.std.proofs.Common.{◌≡◌, ◌+◌, [], ◌∷◌, ◌++◌, length, ap, refl, sym, subst, ◌∙◌, arith, length-append}
use Rattle.std.proofs.lemmas.Result.{err_from_is_err_and}
use Rattle.dom_model.specs.Draft.{Draft}
use Rattle.fzn_model.proofs.Equating.{constraints_more, flags_counted, nothing_more}
use Rattle.fzn_model.proofs.Postings.{PostsOn, posts_start, posts_more, posts_end, with_length, writes_none}
use Rattle.fzn_model.specs.Posting.{initialised}
use Rattle.fzn_model.specs.Steps.{with_constraints}
use Rattle.fzn_model.proofs.posting.post_written.Goals as goal

pub loop-constraint-init : goal.loop-constraint-init
loop-constraint-init c =
    let same = c.in_ok-defined.ensures ∙ ap initialised (c.declarations.ensures.all ∙ c.scope.ensures) in
    record {
      whole = ap length same ∙ flags_counted c.args.values.now;
      done = ([], posts_start c.args.values.now c.args.constraints.now c.in_ok-defined.defined.items same, sym (nothing_more c.args.builder.now), refl);
    }

pub returns-in_err-post_one : goal.returns-in_err-post_one
returns-in_err-post_one c =
    let p = err_from_is_err_and c.from_residual-in_err-post_one.result c.from_residual-in_err-post_one.ensures.1 in
    rw (p.1, p.2)
    (writes_none c.args.values.now c.args.constraints.now c.args.builder.now c.post_one.new.builder c.loop-constraint.builder c.post_one.new.builder c.loop-constraint.defined.items
    c.post_one.new.defined.items c.loop-constraint.constraint-index c.constraint-item.result c.in_err-post_one.field-0.0 c.loop-constraint-test.true c.constraint-item.is c.in_err-post_one.ensures)

pub loop-constraint-preserved : goal.loop-constraint-preserved
loop-constraint-preserved c =
    let so_far = c.loop-constraint.invariant.done in
    let posted = c.in_ok-post_one.ensures in
    let p = posted.0 in
    let ds = c.args.values.now in
    let cs = c.args.constraints.now in
    let i = c.loop-constraint.constraint-index in
    record {
      whole = ap length posted.2 ∙ with_length c.loop-constraint.defined.items p.defines ∙ c.loop-constraint.invariant.whole;
      done = (
        so_far.0 ++ p ∷ [],
        subst (λ b. PostsOn ds cs (i + 1) b (so_far.0 ++ p ∷ [])) (sym posted.2)
            (posts_more ds cs i c.constraint-item.result c.loop-constraint.defined.items so_far.0 p c.loop-constraint-test.true c.constraint-item.is so_far.1 posted.1),
        posted.3 ∙ ap (λ (b : Draft). with_constraints b (p ∷ [])) so_far.2 ∙ constraints_more c.args.builder.now so_far.0 (p ∷ []),
        length-append so_far.0 (p ∷ []) ∙ ap (λ n. n + 1) so_far.3,
      );
    }

pub returns : goal.returns
returns c =
    let so_far = c.loop-constraint.invariant.done in
    let ds = c.args.values.now in
    let cs = c.args.constraints.now in
    let end : c.loop-constraint.constraint-index ≡ length cs = omega (arith, c.loop-constraint-test.false, c.loop-constraint.auto.constraint-index-end) in
    (so_far.0, posts_end ds cs c.loop-constraint.defined.items so_far.0 (subst (λ k. PostsOn ds cs k c.loop-constraint.defined.items so_far.0) end so_far.1), so_far.2)
