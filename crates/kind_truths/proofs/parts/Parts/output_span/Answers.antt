use Rattle.std.proofs.Common.{ap, sym, subst, ◌<◌}
use Rattle.kind_law.specs.Argument.{ArgHas}
use Rattle.kind_law.proofs.ArgumentLaws.{each_new_arg}
use Rattle.kind_truths.specs.Connective.{Connective, connective_inputs}
use Rattle.kind_truths.proofs.parts.Parts.output_span.Goals as goal

pub span-requires-clause-below : goal.span-requires-clause-below
span-requires-clause-below g c =
    subst (ArgHas (λ u. u.0 < g.I.Intervals.width c.args.intervals.now)) (sym (ap (λ (k : Connective). k.output) c.self.view_is))
    (each_new_arg (λ u. u.0 < g.I.Intervals.width c.args.intervals.now) (connective_inputs c.args.self.now) c.args.self.now.output c.requires.below).1

pub span-requires-clause-ready : goal.span-requires-clause-ready
span-requires-clause-ready g c =
    subst (ArgHas (λ u. g.I.Intervals.ready c.args.intervals.now u.0)) (sym (ap (λ (k : Connective). k.output) c.self.view_is))
    (each_new_arg (λ u. g.I.Intervals.ready c.args.intervals.now u.0) (connective_inputs c.args.self.now) c.args.self.now.output c.requires.ready).1
