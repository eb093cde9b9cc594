-- A graph that has gained a node or a successor has a node.
use Rattle.std.proofs.Common.{ℕ, ◌<◌, List, [], ◌∷◌, ◌++◌, length, ap, ◌∙◌, arith}
use Rattle.std.proofs.lemmas.List.{length_push}
use Rattle.digraph.specs.Grown.{GainsNode, GainsEdge}

pub node_some : (old new : List (List ℕ)) → GainsNode old new → 0 < length new
node_some old new gains = omega (arith, ap length gains ∙ length_push old [])

pub edge_some : (old new : List (List ℕ)) (to : ℕ) → GainsEdge old to new → 0 < length new
edge_some old new to gains = omega (arith, ap length gains.3 ∙ length_push gains.0 (gains.1 ++ to ∷ []))
