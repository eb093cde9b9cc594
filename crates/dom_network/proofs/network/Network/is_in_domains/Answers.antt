-- The value at a place, and those behind it.
use Rattle.std.proofs.Common.{rules, FitsSigned, w64, ◌∙◌, refl, sym, ap, subst, length, ◌<◌, ℤ, List, arith}
use Rattle.std.proofs.lemmas.Int.{to_z-of_z}
use Rattle.dom_core.specs.Rises.{is_among}
use Rattle.dom_core.specs.declared.var_id.VarId.{VarId}
use Rattle.dom_network.proofs.AdmissionLaws.{free_var_below, tuple_done, tuple_more}
use Rattle.dom_network.proofs.KeptLaws.{domain_below, domain_read, kept_free, kept_network}
use Rattle.dom_network.proofs.network.Network.is_in_domains.Goals as goal

pub index-requires : goal.index-requires
index-requires c =
    let free = kept_free _ c.args.self.now _ _ _ _ _ c.self.view_is c.self.invariant c.deref-var-items.result.now c.deref-var-items.ensures.value in
    omega (arith, domain_below _ c.args.self.now _ _ _ _ _ c.self.view_is c.self.invariant c.loop-place.place (subst (λ (us : List VarId). c.loop-place.place < length us) free c.loop-place-test.true))

pub value-requires : goal.value-requires
value-requires c =
    let free = kept_free _ c.args.self.now _ _ _ _ _ c.self.view_is c.self.invariant c.deref-var-items.result.now c.deref-var-items.ensures.value in
    let net = kept_network _ c.args.self.now _ _ _ _ _ c.self.view_is c.self.invariant in
    free_var_below c.args.self.now c.self.inside.order.items c.deref-var-items.result.now c.loop-place.place net free c.args.a.now (record { 0 = 0 }) c.requires.whole c.loop-place-test.true

pub loop-place-preserved : goal.loop-place-preserved
loop-place-preserved c =
    let free = kept_free _ c.args.self.now _ _ _ _ _ c.self.view_is c.self.invariant c.deref-var-items.result.now c.deref-var-items.ensures.value in
    let net = kept_network _ c.args.self.now _ _ _ _ _ c.self.view_is c.self.invariant in
    let read = domain_read _ c.args.self.now _ _ _ _ _ c.self.view_is c.self.invariant c.loop-place.place c.index.result.now c.index.ensures in
    let fits : FitsSigned w64 c.value.result = search rules in
    let value = to_z-of_z w64 c.value.result fits ∙ c.value.ensures in
    let among = ap (λ (x : ℤ). is_among x c.index.result.now) (sym value) ∙ sym c.contains.ensures ∙ c.if-not-contains.false in
    let more = tuple_more c.args.self.now c.self.inside.order.items c.deref-var-items.result.now c.loop-place.place net free c.args.a.now c.index.result.now (record { 0 = 0 })
    c.loop-place-test.true read among in
    record { left = ((λ t. more.0 (c.loop-place.invariant.left.0 t)), (λ t. c.loop-place.invariant.left.1 (more.1 t))) }

pub returns : goal.returns
returns c =
    let free = kept_free _ c.args.self.now _ _ _ _ _ c.self.view_is c.self.invariant c.deref-var-items.result.now c.deref-var-items.ensures.value in
    let net = kept_network _ c.args.self.now _ _ _ _ _ c.self.view_is c.self.invariant in
    let done = tuple_done c.args.self.now c.self.inside.order.items c.deref-var-items.result.now c.loop-place.place net free c.args.a.now c.loop-place-test.false in
    ((λ t. c.loop-place.invariant.left.1 done), (λ t. refl))
