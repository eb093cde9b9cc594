use Rattle.std.proofs.Common.{◌<◌, ◌≤◌, ◌^◌, refl, pos, arith}
use Rattle.dom_core.specs.declared.arg.Arg.TheVariants.{Var}
use Rattle.kind_law.specs.Argument.{arg_ends}
use Rattle.kind_law.specs.Laws.{EndsIn, small_ends}
use Rattle.kind_law.proofs.ArgumentLaws.{each_listed}
use Rattle.kind_sum.specs.Sum.{vars_of}
use Rattle.kind_sum.specs.declared.term.Term.{Term}
use Rattle.kind_sum.proofs.RunLaws.{vars-step}
use Rattle.kind_sum.proofs.WidthLaws.{spent_first, spent_more}
use Rattle.kind_sum.proofs.width.is_wide.Goals as goal

-- what reads beyond the terms would give
abbrev none : Term
none = record { coef = pos 0; arg = Var (record { 0 = 0 }) }

pub loop-term-init : goal.loop-term-init
loop-term-init g c = record {
  spent = spent_first c.args.terms.now (arg_ends (g.I.Intervals.spans c.args.intervals.now)) (2 ^ 100) (2 ^ 100) refl;
  below = each_listed (λ u. u.0 < g.I.Intervals.width c.args.intervals.now) (vars_of c.args.terms.now) c.requires.below;
  ready = each_listed (λ u. g.I.Intervals.ready c.args.intervals.now u.0) (vars_of c.args.terms.now) c.requires.ready;
  small = each_listed (λ u. EndsIn (g.I.Intervals.spans c.args.intervals.now u.0) small_ends) (vars_of c.args.terms.now) c.requires.small.parts;
}

pub loop-term-preserved : goal.loop-term-preserved
loop-term-preserved g c =
    let le : c.term_size-size.result ≤ c.loop-term.left = omega (arith, c.if-left-size.false) in
    record {
      spent = spent_more c.args.terms.now c.loop-term.term-index (arg_ends (g.I.Intervals.spans c.args.intervals.now)) (2 ^ 100) c.loop-term.left c.term_size-size.result none
          c.loop-term-test.true c.loop-term.invariant.spent c.term_size-size.ensures le;
      below = vars-step (λ u. u.0 < g.I.Intervals.width c.args.intervals.now) c.args.terms.now c.loop-term.term-index none c.loop-term-test.true c.loop-term.invariant.below;
      ready = vars-step (λ u. g.I.Intervals.ready c.args.intervals.now u.0) c.args.terms.now c.loop-term.term-index none c.loop-term-test.true c.loop-term.invariant.ready;
      small = vars-step (λ u. EndsIn (g.I.Intervals.spans c.args.intervals.now u.0) small_ends) c.args.terms.now c.loop-term.term-index none c.loop-term-test.true c.loop-term.invariant.small;
    }
