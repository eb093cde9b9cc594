use Rattle.std.proofs.Common.{◌<◌, length, pos, arith}
use Rattle.dom_core.specs.declared.arg.Arg.TheVariants.{Var}
use Rattle.kind_law.proofs.ReasonLaws.{adds-none, adds-more}
use Rattle.kind_sum.specs.declared.term.Term.{Term}
use Rattle.kind_sum.proofs.ExplainedLaws.{at_term, front_first, front_more, front_last}
use Rattle.kind_sum.proofs.explained.explain_sum.Goals as goal

-- what reads beyond the terms would give
abbrev none : Term
none = record { coef = pos 0; arg = Var (record { 0 = 0 }) }

pub loop-term-init : goal.loop-term-init
loop-term-init c = record {
  fine = adds-none c.args.cells.now.state c.args.out.now;
  front = front_first c.args.excess.turned c.args.cells.now.state c.args.implied c.args.out.now c.args.terms.now c.args.excess.slack;
}

pub explain_term-requires-clause-below : goal.explain_term-requires-clause-below
explain_term-requires-clause-below c =
    at_term (λ u. u.0 < length c.args.cells.now.state.starts) c.args.terms.now c.loop-term.term-index none c.loop-term-test.true c.requires.below

pub loop-term-preserved : goal.loop-term-preserved
loop-term-preserved c = record {
  fine = adds-more c.args.cells.now.state c.args.out.now c.loop-term.out c.explain_term.new.out c.loop-term.invariant.fine c.in_ok-left.ensures.fine;
  front = front_more c.args.excess.turned c.args.cells.now.state c.args.implied c.loop-term.out c.explain_term.new.out c.args.terms.now c.loop-term.term-index none c.args.excess.slack
      c.loop-term.left c.in_ok-left.left c.loop-term-test.true c.in_ok-left.ensures.fine c.loop-term.invariant.front c.in_ok-left.ensures.pays;
}

pub returns-clause-pays : goal.returns-clause-pays
returns-clause-pays c =
    front_last c.args.excess.turned c.args.cells.now.state c.args.implied c.loop-term.out c.args.terms.now c.loop-term.term-index c.args.excess.slack c.loop-term.left
    (omega (arith, c.loop-term-test.false)) c.loop-term.invariant.front
