use Rattle.kind_law.proofs.ReasonLaws.{adds-more, low-more, high-more}
use Rattle.dom_core.proofs.TestLaws.{not_both}
use Rattle.kind_law.proofs.reason.explain.Goals as goal

pub returns-then-not-deep-clause-fine : goal.returns-then-not-deep-clause-fine
returns-then-not-deep-clause-fine c = adds-more c.args.cells.now.state c.args.out.now c.explain_low.new.out c.explain_high.new.out c.in_ok-explain_low.ensures.fine c.in_ok-explain_high.ensures.fine

pub returns-then-not-deep-clause-covers : goal.returns-then-not-deep-clause-covers
returns-then-not-deep-clause-covers c = record {
  low = low-more c.args.cells.now.state c.args.var.0 c.explain_low.new.out c.explain_high.new.out c.in_ok-explain_high.ensures.fine c.in_ok-explain_low.ensures.covers;
  high = c.in_ok-explain_high.ensures.covers;
  inner = λ deep. absurd (not_both c.args.deep deep c.if-not-deep.true);
}

pub returns-clause-fine : goal.returns-clause-fine
returns-clause-fine c =
    adds-more c.args.cells.now.state c.args.out.now c.explain_high.new.out c.explain_holes.new.out (adds-more c.args.cells.now.state c.args.out.now c.explain_low.new.out c.explain_high.new.out c.in_ok-explain_low.ensures.fine c.in_ok-explain_high.ensures.fine) c.in_ok-explain_holes.ensures.fine

pub returns-clause-covers : goal.returns-clause-covers
returns-clause-covers c = record {
  low = low-more c.args.cells.now.state c.args.var.0 c.explain_high.new.out c.explain_holes.new.out c.in_ok-explain_holes.ensures.fine
      (low-more c.args.cells.now.state c.args.var.0 c.explain_low.new.out c.explain_high.new.out c.in_ok-explain_high.ensures.fine c.in_ok-explain_low.ensures.covers);
  high = high-more c.args.cells.now.state c.args.var.0 c.explain_high.new.out c.explain_holes.new.out c.in_ok-explain_holes.ensures.fine c.in_ok-explain_high.ensures.covers;
  inner = λ deep. c.in_ok-explain_holes.ensures.covers;
}
