use Rattle.std.proofs.Common.{rules, ◌∙◌, length, w64, FitsSigned, to_z, of_z}
use Rattle.std.proofs.lemmas.Int.{to_z-of_z}
use Rattle.kind_law.proofs.ReasonLaws.{fine-from}
use Rattle.kind_sum.proofs.ExplainedLaws.{refuted_asked, terms_below, sum_reason_of}
use Rattle.kind_sum.proofs.explained.write_sum_reason.Goals as goal

pub excess_of-excess-requires-clause-refuted : goal.excess_of-excess-requires-clause-refuted
excess_of-excess-requires-clause-refuted c =
    let bound_fits : FitsSigned w64 c.bound.result = search rules in
    refuted_asked c.args.linear.now c.args.cells.now.state c.args.implied c.relation.result c.asked_total-total.result (to_z w64 (of_z w64 c.bound.result)) c.relation.ensures
    c.asked_total-total.ensures.total (to_z-of_z w64 c.bound.result bound_fits ∙ c.bound.ensures) c.requires.cause

pub explain_sum-requires-clause-below : goal.explain_sum-requires-clause-below
explain_sum-requires-clause-below c = terms_below c.args.linear.now (length c.args.cells.now.state.starts) c.terms.result.now c.terms.ensures c.requires.below

pub returns : goal.returns
returns c =
    let bound_fits : FitsSigned w64 c.bound.result = search rules in
    sum_reason_of c.args.linear.now c.args.cells.now.state c.args.implied c.explain_sum.new.out c.add_implied.new.out c.asked_total-total.result c.excess_of-excess.result
    c.relation.result (to_z w64 (of_z w64 c.bound.result)) c.terms.result.now c.relation.ensures (to_z-of_z w64 c.bound.result bound_fits ∙ c.bound.ensures) c.terms.ensures
    c.width-width.ensures.sound c.requires.below c.requires.cause c.requires.var
    (fine-from c.args.cells.now.state c.args.out.now c.explain_sum.new.out c.requires.empty c.in_ok-explain_sum.ensures.fine) c.in_ok-add_implied.ensures
    c.asked_total-total.ensures.total c.excess_of-excess.ensures c.in_ok-explain_sum.ensures.pays
