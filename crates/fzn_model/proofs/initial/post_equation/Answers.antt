use Rattle.std.proofs.Common.{refl, Some}
use Rattle.fzn_model.proofs.Bounds.{scalar_below}
use Rattle.fzn_model.proofs.Fitting.{initial_fit}
use Rattle.fzn_model.specs.Posting.{initial}
use Rattle.fzn_model.proofs.initial.post_equation.Goals as goal

pub constraint-requires-clause-fit : goal.constraint-requires-clause-fit
constraint-requires-clause-fit c =
    let ds = c.args.values.now in
    let below = scalar_below ds _ c.in-Some.expression c.in-Some-scalar_arg.arg c.in-Some-scalar_arg.ensures in
    rw (c.in_ok-kind-in-Some-scalar_arg.ensures, c.requires.count) (initial_fit _ c.args.var c.in-Some-scalar_arg.arg c.requires.below below)

pub returns-in_ok-constraint-in-Some-scalar_arg : goal.returns-in_ok-constraint-in-Some-scalar_arg
returns-in_ok-constraint-in-Some-scalar_arg c = (
  Some (initial c.args.var c.in-Some-scalar_arg.arg),
  rw c.in-Some.is (c.in-Some-scalar_arg.arg, rw (← c.form_of.ensures) c.in-Some-scalar_arg.ensures, refl),
  rw c.in_ok-kind-in-Some-scalar_arg.ensures at c.in_ok-constraint-in-Some-scalar_arg.ensures.ok,
)
