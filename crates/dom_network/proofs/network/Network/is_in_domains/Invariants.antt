-- Those that are left decide.
use Rattle.std.proofs.Common.{◌↔◌, drop, map}
use Rattle.dom_core.specs.Assignment.{value_at}
use Rattle.dom_network.specs.Free.{IsTuple, free_of, free_values}
use Rattle.dom_network.proofs.network.Network.is_in_domains.Given as goal

abbrev pub invariant-loop-place : goal.invariant-loop-place
invariant-loop-place l = record {
  left : IsTuple l.self.domains (free_values l.self.definers l.a) ↔ IsTuple (drop l.place l.self.domains) (map (value_at l.a) (drop l.place (free_of l.self.definers)));
}
