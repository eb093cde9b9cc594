use Rattle.std.proofs.Common.{length, take, ◌-◌, ◌≡◌, ◌+◌, ◌≤◌}
use Rattle.dom_edge.specs.Text.{Gains}
use Rattle.dom_edge.proofs.writing.write_whole.Given as goal

abbrev pub invariant-loop-done : goal.invariant-loop-done
invariant-loop-done g l = record {
  within : l.done ≤ length l.text;
  room : g.S.Sink.spare l.sink + l.done ≡ g.S.Sink.spare l.fn.sink;
  gained : Gains (g.S.Sink.bytes l.fn.sink) (g.S.Sink.bytes l.sink) (take l.done l.text);
  kept : g.S.Sink.faults l.fn.sink ≤ g.S.Sink.faults l.sink;
  empty : length l.text ≡ 0 → l.sink ≡ l.fn.sink;
}

abbrev pub decreases-loop-done : goal.decreases-loop-done
decreases-loop-done g l = length l.text - l.done
