-- One place more.
use Rattle.std.proofs.Common.{◌<◌, arith, rules, length, FitsSigned}
use Rattle.std.specs.Int.{w64}
use Rattle.std.proofs.lemmas.Int.{to_z-of_z}
use Rattle.std.proofs.lemmas.List.{length-set}
use Rattle.dom_search.proofs.Places.{next_positive, value_within, one_written}
use Rattle.dom_search.proofs.tuple.set_tuple.Goals as goal

pub nonzero_div-rest : goal.nonzero_div-rest
nonzero_div-rest c =
    rw c.size.ensures.size
    (next_positive c.args.model.now.network.domains c.loop-place.place c.loop-place.block c.loop-place.rest c.domain_at-domain.result.now c.domain_at-domain.ensures.domain
    c.domain_at-domain.ensures.sound.some c.loop-place.invariant.written.block_is c.loop-place.invariant.written.below)

pub value_at-requires : goal.value_at-requires
value_at-requires c =
    rw c.size.ensures.size
    (value_within c.args.model.now.network.domains c.loop-place.place c.loop-place.block c.loop-place.rest c.domain_at-domain.result.now c.domain_at-domain.ensures.domain
    c.domain_at-domain.ensures.sound.some c.loop-place.invariant.written.block_is c.loop-place.invariant.written.below)

pub nonzero_rem-rest : goal.nonzero_rem-rest
nonzero_rem-rest c =
    rw c.size.ensures.size
    (next_positive c.args.model.now.network.domains c.loop-place.place c.loop-place.block c.loop-place.rest c.domain_at-domain.result.now c.domain_at-domain.ensures.domain
    c.domain_at-domain.ensures.sound.some c.loop-place.invariant.written.block_is c.loop-place.invariant.written.below)

pub loop-place-preserved : goal.loop-place-preserved
loop-place-preserved c =
    let small : FitsSigned w64 c.value_at.result = search rules in
    let within : c.loop-place.place < length c.loop-place.values =
    omega (arith, c.loop-place-test.true, c.free-place-end.ensures.domains, c.loop-place.auto.place-end, c.loop-place.invariant.whole) in
    record {
      written =
          rw (to_z-of_z w64 _ small, c.size.ensures.size)
          (one_written c.args.model.now.network.domains c.args.number c.loop-place.values c.loop-place.place c.loop-place.block c.loop-place.rest c.domain_at-domain.result.now
          c.value_at.result c.loop-place.invariant.written c.domain_at-domain.ensures.domain within c.domain_at-domain.ensures.sound.some
          (rw c.size.ensures.size at c.value_at.ensures));
      whole = rw length-set c.loop-place.invariant.whole;
    }
