use Rattle.std.proofs.Common.{◌∙◌, ◌++◌, ap, sym, length, take, arith}
use Rattle.dom_model.specs.Draft.{Draft}
use Rattle.fzn_model.proofs.Declaring.{built_more, draft_more, count_within, variables_counted}
use Rattle.fzn_model.specs.Variables.{variables_by}
use Rattle.fzn_model.proofs.variables.declare_all.Goals as goal

pub declare_one-requires-clause-room : goal.declare_one-requires-clause-room
declare_one-requires-clause-room c =
    let so_far = c.loop-declaration.invariant in
    let ds = c.args.declarations.now in
    let i = c.loop-declaration.declaration-index in
    let count = ap (λ (p : Draft). length p.variables) so_far.draft_is in
    let counted = variables_counted (take i ds) in
    let within = count_within ds i c.declaration-item.result c.loop-declaration-test.true c.declaration-item.is in
    omega (arith, count, counted, within, so_far.few)

pub loop-declaration-preserved : goal.loop-declaration-preserved
loop-declaration-preserved c =
    let ds = c.args.declarations.now in
    let i = c.loop-declaration.declaration-index in
    let d = c.declaration-item.result in
    let within = c.loop-declaration-test.true in
    let is = c.declaration-item.is in
    let so_far = c.loop-declaration.invariant in
    let added = c.in_ok-declare_one.ensures in
    record {
      few = so_far.few;
      built = built_more ds i d within is so_far.built added.0;
      draft_is = added.1 ∙ ap (λ (p : Draft). record p { variables = p.variables ++ variables_by d }) so_far.draft_is ∙ sym (draft_more ds i d within is);
    }
