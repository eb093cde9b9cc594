use Rattle.std.proofs.Common.{List, subst}
use Rattle.fzn_syntax.specs.declared.declaration.Declaration.{Declaration}
use Rattle.fzn_symbols.specs.Named.{names_of, AreDifferent, IsPlaced, IsUndeclared}
use Rattle.fzn_values.proofs.Told.{no_variable, other_variable}
use Rattle.fzn_values.proofs.constants.Constants.variable_named.Goals as goal

pub returns-in-None : goal.returns-in-None
returns-in-None c = no_variable c.args.self.now c.args.name.now (subst (λ (ds : List Declaration). IsUndeclared ds c.args.name.now) c.self.view_is c.in-None.ensures)

pub returns-else-is_variable : goal.returns-else-is_variable
returns-else-is_variable c =
    let p : IsPlaced c.args.self.now c.args.name.now c.in-Some.place = subst (λ (ds : List Declaration). IsPlaced ds c.args.name.now c.in-Some.place) c.self.view_is c.in-Some.ensures in
    let different : AreDifferent (names_of c.args.self.now) = subst (λ (ds : List Declaration). AreDifferent (names_of ds)) c.self.view_is c.self.invariant.different in
    other_variable c.args.self.now c.args.name.now c.in-Some.place different p (λ v. let t = c.is_variable.ensures.1 v in let f = c.if-is_variable.false in absurd cc)
