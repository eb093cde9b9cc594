use Rattle.std.proofs.Common.{◌≤◌, ◌+◌, arith}
use Rattle.dom_core.specs.Ends.{difference_ends}
use Rattle.kind_law.specs.Laws.{EndsIn, befores, afters, changes}
use Rattle.kind_linear.specs.LinearOutput.{rest_of, inputs_of}
use Rattle.kind_law.specs.Argument.{arg_span}
use Rattle.kind_sum.specs.Sum.{magnitude, vars_of}
use Rattle.kind_law.proofs.ArgumentLaws.{each_listed}
use Rattle.kind_sum.specs.SumLaws.{each_unit, magnitude_change}
use Rattle.kind_law.specs.declared.argument.Reading.TheVariants.{Values, Changes}
use Rattle.kind_linear.proofs.output.LinearOutputDefine.own_change.Goals as goal

pub rest_total-sum-requires-clause-ready : goal.rest_total-sum-requires-clause-ready
rest_total-sum-requires-clause-ready c = each_unit (inputs_of c.args.self.now)

pub rest_total-sum-requires-clause-fits : goal.rest_total-sum-requires-clause-fits
rest_total-sum-requires-clause-fits c =
    let m : magnitude (rest_of c.args.self.now) (arg_span Changes (changes c.args.view.now)) ≤ magnitude (rest_of c.args.self.now) (arg_span Values (afters c.args.view.now)) + magnitude (rest_of c.args.self.now) (arg_span Values (befores c.args.view.now)) =
    magnitude_change (rest_of c.args.self.now) (changes c.args.view.now) (afters c.args.view.now) (befores c.args.view.now)
    (each_listed (λ u. EndsIn (changes c.args.view.now u.0) (difference_ends (afters c.args.view.now u.0) (befores c.args.view.now u.0))) (vars_of (rest_of c.args.self.now)) c.requires.change) in
    omega (arith, m, c.requires.fits_before, c.requires.fits_after)
