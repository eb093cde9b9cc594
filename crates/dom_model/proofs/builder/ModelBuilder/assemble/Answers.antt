-- The parts are those of a model.
use Rattle.std.proofs.Common.{subst}
use Rattle.dom_definers.specs.Hulls.{AreSmallHulls}
use Rattle.dom_model.specs.Draft.{Draft, IsFitDraft}
use Rattle.dom_model.proofs.ModelLaws.{added_to, is_finished, is_network, is_sound, same_finished, same_sound}
use Rattle.dom_model.proofs.builder.ModelBuilder.assemble.Goals as goal

pub new-requires : goal.new-requires
new-requires c =
    let fit = subst (λ (d : Draft). IsFitDraft d) c.self.view_is c.self.invariant in
    let added =
    added_to c.args.self _ c.as_slice.result.now c.args.definers.items c.as_slice-2.result.now c.in_ok-kinds.kinds.items c.restrictions_of.new.constraints.items c.self.view_is c.as_slice.ensures.value
    c.as_slice-2.ensures.value c.in_ok-kinds.ensures c.in_ok-restrictions_of.ensures.added in
    is_network c.args.self c.args.first.now c.args.order.items c.args.hulls c.args.definers.items c.args.domains.items c.restrictions_of.new.constraints.items fit c.requires.faultless c.requires.order
    c.requires.definers c.requires.domains (subst (λ hs. AreSmallHulls hs) c.hulls.view_is c.hulls.invariant) c.ordered_is_acyclic.ensures c.every_hull_is_known.ensures added

pub invariant_of-result : goal.invariant_of-result
invariant_of-result c =
    let fit = subst (λ (d : Draft). IsFitDraft d) c.self.view_is c.self.invariant in
    let added =
    added_to c.args.self _ c.as_slice.result.now c.args.definers.items c.as_slice-2.result.now c.in_ok-kinds.kinds.items c.restrictions_of.new.constraints.items c.self.view_is c.as_slice.ensures.value
    c.as_slice-2.ensures.value c.in_ok-kinds.ensures c.in_ok-restrictions_of.ensures.added in
    same_sound c.args.self _ _ c.in_ok-network.network c.self.view_is c.in_ok-network.ensures
    (is_sound c.args.self c.args.first.now c.args.order.items c.args.hulls c.args.definers.items c.args.domains.items c.restrictions_of.new.constraints.items fit c.requires.faultless c.requires.order
    c.requires.definers c.requires.domains (subst (λ hs. AreSmallHulls hs) c.hulls.view_is c.hulls.invariant) c.ordered_is_acyclic.ensures c.every_hull_is_known.ensures added)

pub returns : goal.returns
returns c =
    let fit = subst (λ (d : Draft). IsFitDraft d) c.self.view_is c.self.invariant in
    let added =
    added_to c.args.self _ c.as_slice.result.now c.args.definers.items c.as_slice-2.result.now c.in_ok-kinds.kinds.items c.restrictions_of.new.constraints.items c.self.view_is c.as_slice.ensures.value
    c.as_slice-2.ensures.value c.in_ok-kinds.ensures c.in_ok-restrictions_of.ensures.added in
    same_finished c.args.self _ _ c.in_ok-network.network c.self.view_is c.in_ok-network.ensures
    (is_finished c.args.self c.args.first.now c.args.order.items c.args.hulls c.args.definers.items c.args.domains.items c.restrictions_of.new.constraints.items fit c.requires.faultless c.requires.order
    c.requires.definers c.requires.domains (subst (λ hs. AreSmallHulls hs) c.hulls.view_is c.hulls.invariant) c.ordered_is_acyclic.ensures c.every_hull_is_known.ensures added)
