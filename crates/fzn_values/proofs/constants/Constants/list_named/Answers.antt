use Rattle.std.proofs.Common.{List, subst}
use Rattle.fzn_syntax.specs.declared.declaration.Declaration.{Declaration}
use Rattle.fzn_symbols.specs.Named.{names_of, AreDifferent, IsPlaced, IsUndeclared}
use Rattle.fzn_values.specs.declared.literal.LiteralKind.TheVariants as literals
use Rattle.fzn_values.proofs.Told.{no_name, list_place}
use Rattle.fzn_values.proofs.constants.Constants.list_named.Goals as goal

pub returns-in-None-clause-is : goal.returns-in-None-clause-is
returns-in-None-clause-is c =
    no_name c.args.self.now literals.List c.args.name.now (subst (λ (ds : List Declaration). IsUndeclared ds c.args.name.now) c.self.view_is c.in-None.ensures)

pub returns-in-Some-clause-is : goal.returns-in-Some-clause-is
returns-in-Some-clause-is c =
    let p : IsPlaced c.args.self.now c.args.name.now c.in-Some.place = subst (λ (ds : List Declaration). IsPlaced ds c.args.name.now c.in-Some.place) c.self.view_is c.in-Some.ensures in
    let different : AreDifferent (names_of c.args.self.now) = subst (λ (ds : List Declaration). AreDifferent (names_of ds)) c.self.view_is c.self.invariant.different in
    list_place c.args.self.now c.args.name.now c.in-Some.place different p c.end_of.result c.end_of.ensures
