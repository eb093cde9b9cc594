-- What the definition reads lies in its hulls, so the value that it gives is small.
use Rattle.std.proofs.Common.{rules, FitsSigned, w64, ◌∙◌, sym, ap, set, ℤ, Option}
use Rattle.std.proofs.lemmas.Int.{to_z-of_z}
use Rattle.any_kind.specs.declared.any.AnyKind.{AnyKind}
use Rattle.dom_network.specs.Filling.{with_given}
use Rattle.dom_network.proofs.KeptLaws.{definition_read}
use Rattle.dom_network.proofs.network.Network.define.Goals as goal

pub value-value-requires-clause-below : goal.value-value-requires-clause-below
value-value-requires-clause-below c =
    (definition_read _ c.args.self.now _ _ _ _ _ c.self.view_is c.self.invariant c.args.out.now c.args.node c.in-Some.place c.index.result.now c.index-in-Some.result.now
    c.requires.node c.requires.whole c.requires.read c.index.ensures c.in-Some.is c.index-in-Some.ensures).below

pub value-value-requires-clause-fits : goal.value-value-requires-clause-fits
value-value-requires-clause-fits c =
    (definition_read _ c.args.self.now _ _ _ _ _ c.self.view_is c.self.invariant c.args.out.now c.args.node c.in-Some.place c.index.result.now c.index-in-Some.result.now
    c.requires.node c.requires.whole c.requires.read c.index.ensures c.in-Some.is c.index-in-Some.ensures).fits

pub value-value-requires-clause-small : goal.value-value-requires-clause-small
value-value-requires-clause-small c =
    (definition_read _ c.args.self.now _ _ _ _ _ c.self.view_is c.self.invariant c.args.out.now c.args.node c.in-Some.place c.index.result.now c.index-in-Some.result.now
    c.requires.node c.requires.whole c.requires.read c.index.ensures c.in-Some.is c.index-in-Some.ensures).small

pub returns-in-Some : goal.returns-in-Some
returns-in-Some c =
    let own = (definition_read _ c.args.self.now _ _ _ _ _ c.self.view_is c.self.invariant c.args.out.now c.args.node c.in-Some.place c.index.result.now c.index-in-Some.result.now
    c.requires.node c.requires.whole c.requires.read c.index.ensures c.in-Some.is c.index-in-Some.ensures).own in
    let fits : FitsSigned w64 c.value-value.result = search rules in
    c.set.ensures ∙ ap (λ (x : ℤ). set c.args.out.now c.args.node x) (to_z-of_z w64 c.value-value.result fits ∙ c.value-value.ensures)
    ∙ ap (λ (o : Option AnyKind). with_given o c.args.node c.args.out.now) (sym own)
