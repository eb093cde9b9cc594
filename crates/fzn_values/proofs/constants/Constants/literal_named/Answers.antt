use Rattle.std.proofs.Common.{◌≡◌, List, slice_get, None, Some, sym, subst}
use Rattle.fzn_syntax.specs.declared.declaration.Declaration.{Declaration}
use Rattle.fzn_symbols.specs.Named.{names_of, AreDifferent, IsPlaced, IsUndeclared}
use Rattle.fzn_values.proofs.Named.{end_stands}
use Rattle.fzn_values.proofs.Told.{no_name, name_has_none, name_has_some}
use Rattle.fzn_values.proofs.constants.Constants.literal_named.Goals as goal

pub returns-in-None : goal.returns-in-None
returns-in-None c =
    no_name c.args.self.now c.args.literal c.args.name.now (subst (λ (ds : List Declaration). IsUndeclared ds c.args.name.now) c.self.view_is c.in-None.ensures)

pub returns-in-None-end_of : goal.returns-in-None-end_of
returns-in-None-end_of c =
    let p : IsPlaced c.args.self.now c.args.name.now c.in-Some.place = subst (λ (ds : List Declaration). IsPlaced ds c.args.name.now c.in-Some.place) c.self.view_is c.in-Some.ensures in
    let different : AreDifferent (names_of c.args.self.now) = subst (λ (ds : List Declaration). AreDifferent (names_of ds)) c.self.view_is c.self.invariant.different in
    name_has_none c.args.self.now c.args.literal c.args.name.now c.in-Some.place p.0 p.1 (c.in-Some.place, p.1, p.2) different (c.in-None-end_of.ensures p.0 p.1)

pub returns-in-None-declaration_at : goal.returns-in-None-declaration_at
returns-in-None-declaration_at c =
    let p : IsPlaced c.args.self.now c.args.name.now c.in-Some.place = subst (λ (ds : List Declaration). IsPlaced ds c.args.name.now c.in-Some.place) c.self.view_is c.in-Some.ensures in
    let h = end_stands c.args.self.now c.args.literal p.0 c.in-Some-end_of.end (c.in-Some-end_of.ensures p.0 p.1) in
    let none : None ≡ slice_get c.args.self.now c.in-Some-end_of.end = subst (λ (ds : List Declaration). None ≡ slice_get ds c.in-Some-end_of.end) c.self.view_is c.in-None-declaration_at.ensures in
    let some = h.5 in
    absurd cc

pub returns-in-Some-declaration_at : goal.returns-in-Some-declaration_at
returns-in-Some-declaration_at c =
    let p : IsPlaced c.args.self.now c.args.name.now c.in-Some.place = subst (λ (ds : List Declaration). IsPlaced ds c.args.name.now c.in-Some.place) c.self.view_is c.in-Some.ensures in
    let there : Some c.in-Some-declaration_at.declaration.now ≡ slice_get c.args.self.now c.in-Some-end_of.end =
    subst (λ (ds : List Declaration). Some c.in-Some-declaration_at.declaration.now ≡ slice_get ds c.in-Some-end_of.end) c.self.view_is c.in-Some-declaration_at.ensures in
    name_has_some c.args.self.now c.args.literal c.args.name.now c.in-Some.place p.0 p.1 (c.in-Some.place, p.1, p.2) c.in-Some-end_of.end c.in-Some-declaration_at.declaration.now c.value_for.result _
    (c.in-Some-end_of.ensures p.0 p.1) (sym there) c.value_for.ensures
