-- The variables so far.
use Rattle.dom_network.proofs.CompletionLaws.{IsFilled}
use Rattle.dom_network.proofs.network.Network.complete.Given as goal

abbrev pub invariant-loop-node : goal.invariant-loop-node
invariant-loop-node l = record { filled : IsFilled l.self l.node-items l.values l.out l.node-index }
