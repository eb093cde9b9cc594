use Rattle.std.proofs.Common.{◌≡◌, ◌∙◌, ap, ◌<◌, ◌≤◌, List, arith}
use Rattle.dom_core.specs.Ends.{size_of}
use Rattle.kind_linear.specs.LinearOutput.{rest_of}
use Rattle.kind_law.specs.Argument.{arg_span}
use Rattle.kind_sum.specs.Sum.{total, magnitude, vars_of}
use Rattle.kind_law.proofs.ArgumentLaws.{each_listed}
use Rattle.kind_sum.specs.SumLaws.{total_size}
use Rattle.kind_sum.specs.declared.term.Term.{Term}
use Rattle.kind_linear.proofs.output.LinearOutput.rest_total.Goals as goal

pub total_of-requires-clause-below : goal.total_of-requires-clause-below
total_of-requires-clause-below g c =
    let e : c.as_slice.result.now ≡ rest_of c.args.self.now = c.as_slice.ensures.value ∙ c.self.invariant.others ∙ ap rest_of c.self.view_is in
    rw e (each_listed (λ u. u.0 < g.I.Intervals.width c.args.intervals.now) (vars_of (rest_of c.args.self.now)) c.requires.below)

pub total_of-requires-clause-ready : goal.total_of-requires-clause-ready
total_of-requires-clause-ready g c =
    let e : c.as_slice.result.now ≡ rest_of c.args.self.now = c.as_slice.ensures.value ∙ c.self.invariant.others ∙ ap rest_of c.self.view_is in
    rw e (each_listed (λ u. g.I.Intervals.ready c.args.intervals.now u.0) (vars_of (rest_of c.args.self.now)) c.requires.ready)

pub total_of-requires-clause-fits : goal.total_of-requires-clause-fits
total_of-requires-clause-fits g c =
    let e : c.as_slice.result.now ≡ rest_of c.args.self.now = c.as_slice.ensures.value ∙ c.self.invariant.others ∙ ap rest_of c.self.view_is in
    rw e (omega (arith, c.requires.fits))

pub returns-clause-total : goal.returns-clause-total
returns-clause-total g c =
    let e : c.as_slice.result.now ≡ rest_of c.args.self.now = c.as_slice.ensures.value ∙ c.self.invariant.others ∙ ap rest_of c.self.view_is in
    c.total_of.ensures ∙ ap (λ (ts : List Term). total ts (arg_span c.args.reading (g.I.Intervals.spans c.args.intervals.now))) e

pub returns-clause-bits : goal.returns-clause-bits
returns-clause-bits g c =
    let e : c.as_slice.result.now ≡ rest_of c.args.self.now = c.as_slice.ensures.value ∙ c.self.invariant.others ∙ ap rest_of c.self.view_is in
    let f = c.total_of.ensures ∙ ap (λ (ts : List Term). total ts (arg_span c.args.reading (g.I.Intervals.spans c.args.intervals.now))) e in
    let n : size_of (total (rest_of c.args.self.now) (arg_span c.args.reading (g.I.Intervals.spans c.args.intervals.now))) ≤ magnitude (rest_of c.args.self.now) (arg_span c.args.reading (g.I.Intervals.spans c.args.intervals.now)) =
    total_size (rest_of c.args.self.now) (arg_span c.args.reading (g.I.Intervals.spans c.args.intervals.now)) in
    rw f (omega (arith, n, c.requires.fits))
