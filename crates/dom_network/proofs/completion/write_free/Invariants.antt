-- Writing those that are left gives what is asked.
use Rattle.std.proofs.Common.{◌≡◌, drop, length}
use Rattle.dom_network.specs.Filling.{written}
use Rattle.dom_network.proofs.completion.write_free.Given as goal

abbrev pub invariant-loop-place : goal.invariant-loop-place
invariant-loop-place l = record {
  size : length l.out ≡ length l.fn.out;
  left : written (drop l.place l.free) (drop l.place l.values) l.out ≡ written l.free l.values l.fn.out;
}
