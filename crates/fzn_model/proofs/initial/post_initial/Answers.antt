use Rattle.std.proofs.Common.{◌≡◌, ◌+◌, ◌≤◌, ◌++◌, length, take, ap, subst, ◌∙◌, arith, length-append}
use Rattle.std.proofs.lemmas.Result.{err_from_is_err_and}
use Rattle.dom_model.specs.Draft.{Draft}
use Rattle.fzn_limits.specs.Sizes.{variables_in}
use Rattle.fzn_model.proofs.Declaring.{count_within, count_more}
use Rattle.fzn_model.proofs.Equating.{constraints_more, equates_none, initial_few}
use Rattle.fzn_model.proofs.Folding.{Continues, continues_more, continues_end, number_at_place, there}
use Rattle.fzn_model.specs.Found.{count_by, listed}
use Rattle.fzn_model.specs.Posting.{IsInitial}
use Rattle.fzn_model.specs.Steps.{with_constraints}
use Rattle.fzn_model.proofs.initial.post_initial.Goals as goal

pub post_at-requires-clause-within : goal.post_at-requires-clause-within
post_at-requires-clause-within c =
    let ds = c.args.declarations.now in
    let number = number_at_place ds c.args.numbers.now c.requires.numbers c.loop-place.place c.loop-place-test.true in
    let within = count_within ds c.loop-place.place c.index-declarations-place.result c.loop-place-test.true c.index-declarations-place.is in
    let all : variables_in c.args.values.now ≡ variables_in ds = ap variables_in c.requires.same in
    omega (arith, number, within, all)

pub returns-in_err-post_at : goal.returns-in_err-post_at
returns-in_err-post_at c =
    let p = err_from_is_err_and c.from_residual.result c.from_residual.ensures.1 in
    rw (p.1, p.2)
    (equates_none c.args.declarations.now c.args.values.now c.args.numbers.now c.args.builder.now c.post_at.new.builder c.loop-place.builder c.post_at.new.builder c.loop-place.place
    c.index-declarations-place.result c.in_err-post_at.field-0.0 c.requires.same c.requires.numbers c.loop-place-test.true c.index-declarations-place.is c.in_err-post_at.ensures)

pub loop-place-preserved : goal.loop-place-preserved
loop-place-preserved c =
    let ds = c.args.declarations.now in
    let i = c.loop-place.place in
    let d = c.index-declarations-place.result in
    let so_far = c.loop-place.invariant.done in
    let posted = c.in_ok-post_at.ensures in
    let x = posted.0 in
    let found = there IsInitial ds c.args.values.now c.requires.same c.args.numbers.now c.requires.numbers i c.loop-place-test.true d x posted.1 in
    let size : length (so_far.0 ++ listed x) ≡ length so_far.0 + length (listed x) = length-append so_far.0 (listed x) in
    let few : length (listed x) ≤ count_by d = initial_few ds (variables_in (take i ds)) d x found in
    let more = count_more ds i d c.loop-place-test.true c.index-declarations-place.is in
    record {
      done = (
        so_far.0 ++ listed x,
        continues_more (IsInitial ds) ds i d x so_far.0 c.loop-place-test.true c.index-declarations-place.is so_far.1 found,
        posted.2 ∙ ap (λ (b : Draft). with_constraints b (listed x)) so_far.2 ∙ constraints_more c.args.builder.now so_far.0 (listed x),
        omega (arith, so_far.3, size, few, more),
      );
    }

pub returns : goal.returns
returns c =
    let ds = c.args.declarations.now in
    let so_far = c.loop-place.invariant.done in
    let end : c.loop-place.place ≡ length ds = omega (arith, c.loop-place-test.false, c.loop-place.auto.place-end) in
    (so_far.0, continues_end (IsInitial ds) ds so_far.0 (subst (λ k. Continues (IsInitial ds) ds k so_far.0) end so_far.1), so_far.2)
