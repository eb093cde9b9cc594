use Rattle.std.proofs.Common.{◌-◌, length, arith}
use Rattle.dom_edge.proofs.Pieces.{gains_piece}
use Rattle.dom_edge.proofs.writing.write_whole.Goals as goal

pub loop-done-preserved : goal.loop-done-preserved
loop-done-preserved g c =
    let text = c.args.text.now in
    let sink = g.S.Sink.bytes in
    record {
      within = omega (arith, c.in_ok-done.ensures.within);
      room = omega (arith, c.in_ok-done.ensures.room);
      gained = gains_piece (sink c.args.sink.now) (sink c.loop-done.sink) (sink c.write.new.self) text c.loop-done.done c.in_ok-done.field-0 (length text - c.loop-done.done) (omega (arith, c.in_ok-done.ensures.within)) c.loop-done.invariant.gained c.in_ok-done.ensures.gains;
      kept = omega (arith, c.write.ensures.cause.kept);
      empty = λ none. absurd (omega arith);
    }
