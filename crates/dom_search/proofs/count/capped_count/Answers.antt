-- One domain more.
use Rattle.std.proofs.Common.{◌∙◌}
use Rattle.dom_search.proofs.Counts.{capped_more}
use Rattle.dom_search.proofs.count.capped_count.Goals as goal

pub loop-place-preserved : goal.loop-place-preserved
loop-place-preserved c = record {
  so_far =
      c.min-count.ensures ∙
      capped_more c.args.model.now.network.domains c.loop-place.place c.loop-place.count c.size-size.result 1000001 c.domain_at.result.now
      c.domain_at.ensures.domain c.size-size.ensures.size c.loop-place.invariant.so_far;
}
