use Rattle.dom_core.proofs.EndsLaws.{fits_lo, fits_hi}
use Rattle.std.proofs.Common.{rules, ◌≡◌, ◌∙◌, ap, ◌<◌, ◌+◌, ◌^◌, drop, ℤ, pos, arith, get_or, FitsSigned, w64, to_z, of_z}
use Rattle.std.proofs.lemmas.Int.{to_z-of_z}
use Rattle.dom_core.specs.Ends.{sum_ends, scaled_ends}
use Rattle.kind_law.specs.Argument.{arg_span}
use Rattle.kind_sum.specs.declared.term.Term.{Term}
use Rattle.dom_core.specs.declared.arg.Arg.TheVariants.{Var}
use Rattle.kind_sum.proofs.RunLaws.{Running, running-step, vars-step, running_size}
use Rattle.kind_sum.proofs.total.total_of.Goals as goal

-- what reads beyond the terms would give
abbrev none : Term
none = record { coef = pos 0; arg = Var (record { 0 = 0 }) }

pub add-sum-requires-clause-low : goal.add-sum-requires-clause-low
add-sum-requires-clause-low g c =
    let coef_fits : FitsSigned w64 (get_or c.args.terms.now c.loop-term.term-index none).coef = search rules in
    let coef : to_z w64 (of_z w64 (get_or c.args.terms.now c.loop-term.term-index none).coef) ≡ (get_or c.args.terms.now c.loop-term.term-index none).coef = to_z-of_z w64 (get_or c.args.terms.now c.loop-term.term-index none).coef coef_fits in
    let part : c.part_of-part.result ≡ scaled_ends (get_or c.args.terms.now c.loop-term.term-index none).coef ((arg_span c.args.reading (g.I.Intervals.spans c.args.intervals.now)) (get_or c.args.terms.now c.loop-term.term-index none).arg) =
    c.part_of-part.ensures ∙ ap (λ (k : ℤ). scaled_ends k c.span-interval.result) coef ∙ ap (scaled_ends (get_or c.args.terms.now c.loop-term.term-index none).coef) c.span-interval.ensures in
    let next : Running c.args.terms.now (drop (c.loop-term.term-index + 1) c.args.terms.now) (arg_span c.args.reading (g.I.Intervals.spans c.args.intervals.now)) (sum_ends c.loop-term.sum c.part_of-part.result) =
    running-step c.args.terms.now c.loop-term.term-index (arg_span c.args.reading (g.I.Intervals.spans c.args.intervals.now)) c.loop-term.sum c.part_of-part.result none c.loop-term-test.true c.loop-term.invariant.running part in
    fits_lo (sum_ends c.loop-term.sum c.part_of-part.result) (2 ^ 102) (running_size c.args.terms.now (drop (c.loop-term.term-index + 1) c.args.terms.now) (arg_span c.args.reading (g.I.Intervals.spans c.args.intervals.now)) (sum_ends c.loop-term.sum c.part_of-part.result) next) (omega arith)

pub add-sum-requires-clause-high : goal.add-sum-requires-clause-high
add-sum-requires-clause-high g c =
    let coef_fits : FitsSigned w64 (get_or c.args.terms.now c.loop-term.term-index none).coef = search rules in
    let coef : to_z w64 (of_z w64 (get_or c.args.terms.now c.loop-term.term-index none).coef) ≡ (get_or c.args.terms.now c.loop-term.term-index none).coef = to_z-of_z w64 (get_or c.args.terms.now c.loop-term.term-index none).coef coef_fits in
    let part : c.part_of-part.result ≡ scaled_ends (get_or c.args.terms.now c.loop-term.term-index none).coef ((arg_span c.args.reading (g.I.Intervals.spans c.args.intervals.now)) (get_or c.args.terms.now c.loop-term.term-index none).arg) =
    c.part_of-part.ensures ∙ ap (λ (k : ℤ). scaled_ends k c.span-interval.result) coef ∙ ap (scaled_ends (get_or c.args.terms.now c.loop-term.term-index none).coef) c.span-interval.ensures in
    let next : Running c.args.terms.now (drop (c.loop-term.term-index + 1) c.args.terms.now) (arg_span c.args.reading (g.I.Intervals.spans c.args.intervals.now)) (sum_ends c.loop-term.sum c.part_of-part.result) =
    running-step c.args.terms.now c.loop-term.term-index (arg_span c.args.reading (g.I.Intervals.spans c.args.intervals.now)) c.loop-term.sum c.part_of-part.result none c.loop-term-test.true c.loop-term.invariant.running part in
    fits_hi (sum_ends c.loop-term.sum c.part_of-part.result) (2 ^ 102) (running_size c.args.terms.now (drop (c.loop-term.term-index + 1) c.args.terms.now) (arg_span c.args.reading (g.I.Intervals.spans c.args.intervals.now)) (sum_ends c.loop-term.sum c.part_of-part.result) next) (omega arith)

pub loop-term-preserved : goal.loop-term-preserved
loop-term-preserved g c =
    let coef_fits : FitsSigned w64 (get_or c.args.terms.now c.loop-term.term-index none).coef = search rules in
    let coef : to_z w64 (of_z w64 (get_or c.args.terms.now c.loop-term.term-index none).coef) ≡ (get_or c.args.terms.now c.loop-term.term-index none).coef = to_z-of_z w64 (get_or c.args.terms.now c.loop-term.term-index none).coef coef_fits in
    let part : c.part_of-part.result ≡ scaled_ends (get_or c.args.terms.now c.loop-term.term-index none).coef ((arg_span c.args.reading (g.I.Intervals.spans c.args.intervals.now)) (get_or c.args.terms.now c.loop-term.term-index none).arg) =
    c.part_of-part.ensures ∙ ap (λ (k : ℤ). scaled_ends k c.span-interval.result) coef ∙ ap (scaled_ends (get_or c.args.terms.now c.loop-term.term-index none).coef) c.span-interval.ensures in
    let next : Running c.args.terms.now (drop (c.loop-term.term-index + 1) c.args.terms.now) (arg_span c.args.reading (g.I.Intervals.spans c.args.intervals.now)) (sum_ends c.loop-term.sum c.part_of-part.result) =
    running-step c.args.terms.now c.loop-term.term-index (arg_span c.args.reading (g.I.Intervals.spans c.args.intervals.now)) c.loop-term.sum c.part_of-part.result none c.loop-term-test.true c.loop-term.invariant.running part in
    record {
      running = rw c.add-sum.ensures next;
      below = vars-step (λ u. u.0 < g.I.Intervals.width c.args.intervals.now) c.args.terms.now c.loop-term.term-index none c.loop-term-test.true c.loop-term.invariant.below;
      ready = vars-step (λ u. g.I.Intervals.ready c.args.intervals.now u.0) c.args.terms.now c.loop-term.term-index none c.loop-term-test.true c.loop-term.invariant.ready;
    }
