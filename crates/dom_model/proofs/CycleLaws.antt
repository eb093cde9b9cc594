-- A graph with a cycle has a node on it.
use Rattle.std.proofs.Common.{◌≡◌, ℕ, zero, suc, ◌<◌, Bool, true, List, [], ◌∷◌, length, replicate, refl, sym, subst, arith, slice_get, Some}
use Rattle.digraph.specs.Cycle.{HasCycle, HasNoneOnCycle, IsPath}

path_end : (graph : List (List ℕ)) (a b : ℕ) (through : List ℕ) → IsPath graph a through b → b < length graph
path_end graph a b [] h = h.0
path_end graph a b (x ∷ xs) h = path_end graph x b xs h.1

all_asked : (n k : ℕ) → k < n → slice_get (replicate n true) k ≡ Some true
all_asked zero k lt = absurd (omega (arith, lt))
all_asked (suc n) zero lt = refl
all_asked (suc n) (suc k) lt = all_asked n k (omega (arith, lt))

-- where all nodes are asked for, one on a cycle is found
pub one_on_cycle : (graph : List (List ℕ)) (n : ℕ) (among : List Bool) → HasCycle graph → n ≡ length graph → among ≡ replicate n true → HasNoneOnCycle graph among → ⊥
one_on_cycle graph n among cycle size asked none =
    let below : cycle.0 < length graph = path_end graph cycle.0 cycle.0 cycle.1.0 cycle.1.1 in
    none cycle.0 (subst (λ (l : List Bool). slice_get l cycle.0 ≡ Some true) (sym asked) (all_asked n cycle.0 (omega (arith, below, size))), cycle.1)
