-- Those that are left decide.
use Rattle.std.proofs.Common.{◌↔◌, drop}
use Rattle.any_kind.specs.Meets.{MeetsEach}
use Rattle.dom_network.proofs.network.Network.meets_each.Given as goal

abbrev pub invariant-loop-kind : goal.invariant-loop-kind
invariant-loop-kind l = record { left : MeetsEach l.self.constraints l.a ↔ MeetsEach (drop l.kind-index l.self.constraints) l.a }
