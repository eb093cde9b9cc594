use Rattle.std.proofs.Common.{List, subst}
use Rattle.fzn_syntax.specs.declared.declaration.Declaration.{Declaration}
use Rattle.fzn_symbols.specs.Named.{names_of, AreDifferent}
use Rattle.fzn_values.proofs.Told.{ints_are, ints_only}
use Rattle.fzn_values.proofs.constants.Constants.ints_of.Goals as goal

pub returns-in-Some-clause-are : goal.returns-in-Some-clause-are
returns-in-Some-clause-are c =
    let different : AreDifferent (names_of c.args.self.now) = subst (λ (ds : List Declaration). AreDifferent (names_of ds)) c.self.view_is c.self.invariant.different in
    ints_are (λ v. v.items) c.args.self.now c.args.expression.now c.in-Some.basics.now different c.in-Some.ensures c.ints_in.result c.ints_in.ensures

pub returns-in-Some-clause-only : goal.returns-in-Some-clause-only
returns-in-Some-clause-only c =
    let different : AreDifferent (names_of c.args.self.now) = subst (λ (ds : List Declaration). AreDifferent (names_of ds)) c.self.view_is c.self.invariant.different in
    ints_only (λ v. v.items) c.args.self.now c.args.expression.now c.in-Some.basics.now different c.in-Some.ensures c.ints_in.result c.ints_in.ensures
