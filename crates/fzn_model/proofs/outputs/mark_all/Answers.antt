use Rattle.std.proofs.Common.{◌≡◌, ◌++◌, length, take, ap, sym, subst, ◌∙◌, arith}
use Rattle.std.proofs.lemmas.Result.{err_from_is_err_and}
use Rattle.dom_model.specs.Draft.{Draft, IsFitOutput}
use Rattle.fzn_limits.specs.Sizes.{variables_in}
use Rattle.fzn_model.proofs.Declaring.{count_within}
use Rattle.fzn_model.proofs.Folding.{Continues, continues_more, continues_end, there}
use Rattle.fzn_model.proofs.Printing.{answer_there, marks_none, output_fit, outputs_more}
use Rattle.fzn_model.specs.Found.{listed}
use Rattle.fzn_model.specs.Outputs.{IsOutput}
use Rattle.fzn_model.specs.Steps.{with_outputs}
use Rattle.fzn_model.proofs.outputs.mark_all.Goals as goal

pub returns-in_err-output : goal.returns-in_err-output
returns-in_err-output c =
    let p = err_from_is_err_and c.from_residual.result c.from_residual.ensures.1 in
    let ds = c.args.declarations.now in
    rw (p.1, p.2)
    (marks_none ds c.args.builder.now c.loop-place.builder c.loop-place.place c.index-declarations-place.result c.in_err-output.field-0.0 c.loop-place-test.true c.index-declarations-place.is
    (answer_there ds c.args.values.now c.args.numbers.now c.loop-place.place c.index-declarations-place.result c.in_err-output.field-0.0 c.requires.same c.requires.numbers c.loop-place-test.true
    c.in_err-output.ensures))

pub mark-requires : goal.mark-requires
mark-requires c = λ o is.
    let ds = c.args.declarations.now in
    let i = c.loop-place.place in
    let d = c.index-declarations-place.result in
    let found = there IsOutput ds c.args.values.now c.requires.same c.args.numbers.now c.requires.numbers i c.loop-place-test.true d c.in_ok-output.output c.in_ok-output.ensures in
    let count : length c.loop-place.builder.variables ≡ variables_in ds = ap (λ (b : Draft). length b.variables) c.loop-place.invariant.done.2 ∙ c.requires.count in
    subst (λ n. IsFitOutput n o) (sym count)
    (output_fit ds (variables_in (take i ds)) d c.in_ok-output.output o (count_within ds i d c.loop-place-test.true c.index-declarations-place.is) found is)

pub loop-place-preserved : goal.loop-place-preserved
loop-place-preserved c =
    let ds = c.args.declarations.now in
    let i = c.loop-place.place in
    let d = c.index-declarations-place.result in
    let x = c.in_ok-output.output in
    let so_far = c.loop-place.invariant.done in
    let found = there IsOutput ds c.args.values.now c.requires.same c.args.numbers.now c.requires.numbers i c.loop-place-test.true d x c.in_ok-output.ensures in
    record {
      done = (
        so_far.0 ++ listed x,
        continues_more (IsOutput ds) ds i d x so_far.0 c.loop-place-test.true c.index-declarations-place.is so_far.1 found,
        c.in_ok-mark.ensures ∙ ap (λ (b : Draft). with_outputs b (listed x)) so_far.2 ∙ outputs_more c.args.builder.now so_far.0 (listed x),
      );
    }

pub returns : goal.returns
returns c =
    let ds = c.args.declarations.now in
    let so_far = c.loop-place.invariant.done in
    let end : c.loop-place.place ≡ length ds = omega (arith, c.loop-place-test.false, c.loop-place.auto.place-end) in
    (so_far.0, continues_end (IsOutput ds) ds so_far.0 (subst (λ k. Continues (IsOutput ds) ds k so_far.0) end so_far.1), so_far.2)
