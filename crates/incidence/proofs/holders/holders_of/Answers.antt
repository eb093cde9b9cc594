-- One row more.
use Rattle.std.proofs.Common.{◌≡◌, ℕ}
use Rattle.incidence.proofs.SelectionLaws.{held_next}
use Rattle.incidence.proofs.holders.holders_of.Goals as goal

pub loop-place-preserved : goal.loop-place-preserved
loop-place-preserved c = record {
  listed = held_next c.args.rows.now c.args.count c.loop-place.place c.successors.result.now c.new-met.result c.meet_all.new.met c.loop-place.lists c.meet_all.new.self
      c.loop-place.invariant.listed c.successors.ensures c.new-met.ensures c.in_ok-meet_all.ensures;
}
