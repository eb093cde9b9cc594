-- Ranks: what they say of paths.
use Rattle.std.proofs.Common.{ℕ, ◌≤◌, List, [], ◌∷◌, get_or, arith}
use Rattle.digraph.specs.Cycle.{IsPath, IsOnCycle}
use Rattle.digraph.specs.Ranked.{IsRanking, IsCleared}

-- ---- paths

along : (graph : List (List ℕ)) (ranks : List ℕ) → IsRanking graph ranks → (a : ℕ) (xs : List ℕ) (b : ℕ) → IsPath graph a xs b → get_or ranks a 0 ≤ get_or ranks b 0
along graph ranks ranking a [] b path = ranking.rises a b path
along graph ranks ranking a (x ∷ xs) b path = omega (arith, ranking.rises a x path.0, along graph ranks ranking x xs b path.1)

cleared_path : (graph : List (List ℕ)) (ranks : List ℕ) (k : ℕ) → IsRanking graph ranks → IsCleared graph ranks k → (xs : List ℕ) → IsPath graph k xs k → ⊥
cleared_path graph ranks k ranking cleared [] path = absurd (omega (arith, cleared k path))
cleared_path graph ranks k ranking cleared (x ∷ xs) path = absurd (omega (arith, cleared x path.0, along graph ranks ranking x xs k path.1))

-- a cleared node lies on no cycle
pub cleared_off_cycle : (graph : List (List ℕ)) (ranks : List ℕ) (k : ℕ) → IsRanking graph ranks → IsCleared graph ranks k → IsOnCycle graph k → ⊥
cleared_off_cycle graph ranks k ranking cleared cycle = cleared_path graph ranks k ranking cleared cycle.0 cycle.1
