use Rattle.std.proofs.Common.{List, sym, subst}
use Rattle.fzn_syntax.specs.declared.declaration.Declaration.{Declaration}
use Rattle.fzn_symbols.specs.Named.{names_of, AreDifferent}
use Rattle.fzn_values.proofs.Told.{truth_written, truth_unnamed, truth_named, truth_only}
use Rattle.fzn_values.proofs.constants.Constants.truth_of.Goals as goal

pub returns-in-None-clause-is : goal.returns-in-None-clause-is
returns-in-None-clause-is c = truth_written c.args.self.now c.args.basic.now c.truth_in.result (sym c.in-None.ensures) c.truth_in.ensures

pub returns-in-None-clause-only : goal.returns-in-None-clause-only
returns-in-None-clause-only c =
    let different : AreDifferent (names_of c.args.self.now) = subst (λ (ds : List Declaration). AreDifferent (names_of ds)) c.self.view_is c.self.invariant.different in
    truth_only c.args.self.now c.args.basic.now different c.truth_in.result (truth_written c.args.self.now c.args.basic.now c.truth_in.result (sym c.in-None.ensures) c.truth_in.ensures)

pub returns-in-None-literal_named-clause-is : goal.returns-in-None-literal_named-clause-is
returns-in-None-literal_named-clause-is c = truth_unnamed c.args.self.now c.args.basic.now c.in-Some.name.now (sym c.in-Some.ensures) c.in-None-literal_named.ensures

pub returns-in-Some-literal_named-clause-is : goal.returns-in-Some-literal_named-clause-is
returns-in-Some-literal_named-clause-is c =
    truth_named c.args.self.now c.args.basic.now c.truth_of.result c.in-Some.name.now c.in-Some-literal_named.literal.now (sym c.in-Some.ensures) c.in-Some-literal_named.ensures c.truth_of.ensures

pub returns-in-Some-literal_named-clause-only : goal.returns-in-Some-literal_named-clause-only
returns-in-Some-literal_named-clause-only c =
    let different : AreDifferent (names_of c.args.self.now) = subst (λ (ds : List Declaration). AreDifferent (names_of ds)) c.self.view_is c.self.invariant.different in
    truth_only c.args.self.now c.args.basic.now different c.truth_of.result
    (truth_named c.args.self.now c.args.basic.now c.truth_of.result c.in-Some.name.now c.in-Some-literal_named.literal.now (sym c.in-Some.ensures) c.in-Some-literal_named.ensures c.truth_of.ensures)
