use Rattle.std.proofs.Common.{length}
use Rattle.kind_law.proofs.ReasonLaws.{fine-from, adds-more}
use Rattle.kind_sum.proofs.ExplainedLaws.{terms_below}
use Rattle.kind_reified.proofs.ArguedLaws.{covers_grown, truth_reason}
use Rattle.kind_reified.proofs.argued.write_truth_reason.Goals as goal

pub explain_sum-requires-clause-below : goal.explain_sum-requires-clause-below
explain_sum-requires-clause-below c = terms_below c.args.linear.now (length c.args.cells.now.state.starts) c.terms.result.now c.terms.ensures c.requires.below

pub returns : goal.returns
returns c =
    truth_reason (record { sum = c.args.linear.now; output = c.args.output }) c.args.cells.now.state c.args.implied c.explain_sum.new.out c.add_implied.new.out c.args.verdict
    c.terms.result.now c.terms.ensures c.width-width.ensures.sound c.requires.below c.requires.output c.requires.cause c.requires.var
    (fine-from c.args.cells.now.state c.args.out.now c.explain_sum.new.out c.requires.empty
    (adds-more c.args.cells.now.state c.args.out.now c.explain_arg.new.out c.explain_sum.new.out c.in_ok-explain_arg.ensures.fine c.in_ok-explain_sum.ensures.fine))
    c.in_ok-add_implied.ensures c.requires.verdict
    (covers_grown c.args.verdict.side c.args.cells.now.state c.args.implied c.explain_arg.new.out c.explain_sum.new.out c.args.output c.in_ok-explain_sum.ensures.fine c.in_ok-explain_arg.ensures.covers)
    c.in_ok-explain_sum.ensures.pays
