use Rattle.std.proofs.Common.{IsTrue, false, refl}
use Rattle.fzn_arguments.proofs.Numbered.{undeclared_none, other_none, variable_number}
use Rattle.fzn_arguments.proofs.numbers.variable_named.Goals as goal

pub returns-in-None : goal.returns-in-None
returns-in-None c = undeclared_none c.args.scope.now c.args.form c.args.name.now c.in-None.ensures

pub returns-then-is_of_form : goal.returns-then-is_of_form
returns-then-is_of_form c =
    variable_number c.args.scope.now c.declarations-declarations.result.now c.args.form c.args.name.now c.in-Some.place c.index-declarations-place.result c.in-Some.ensures c.declarations-declarations.ensures.all
    c.index-declarations-place.is c.args.numbers.now c.requires (c.if-is_of_form.ensures.0 refl)

pub returns-else-is_of_form : goal.returns-else-is_of_form
returns-else-is_of_form c =
    other_none c.args.scope.now c.declarations-declarations.result.now c.args.form c.args.name.now c.in-Some.place c.index-declarations-place.result c.in-Some.ensures c.declarations-declarations.ensures.all
    c.index-declarations-place.is c.declarations-declarations.ensures.different (λ h. let t : IsTrue false = c.if-is_of_form.ensures.1 h in absurd cc)
