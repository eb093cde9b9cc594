-- The graph of what definitions read, node by node.
use Rattle.std.proofs.Common.{◌≡◌, ℕ, zero, suc, ◌+◌, ◌<◌, List, [], ◌∷◌, ◌++◌, length, take, get_or, refl, ap, arith, Option, ◌∙◌, add-one}
use Rattle.dom_definers.specs.Definers.{dependence, numbers, reads_at}
use Rattle.dom_definers.specs.declared.posted.Posted.{Posted}

node_next : (cs : List Posted) (ds : List (Option ℕ)) (i : ℕ) (d : Option ℕ) → i < length ds
    → dependence cs (take (suc i) ds) ≡ dependence cs (take i ds) ++ numbers (reads_at cs (get_or ds i d)) ∷ []
node_next cs [] i d lt = absurd (omega (arith, lt))
node_next cs (x ∷ xs) zero d lt = refl
node_next cs (x ∷ xs) (suc i) d lt = ap (λ (rows : List (List ℕ)). numbers (reads_at cs x) ∷ rows) (node_next cs xs i d (omega (arith, lt)))

-- the next node leads to what its definition reads
pub next_node : (cs : List Posted) (ds : List (Option ℕ)) (i : ℕ) (d : Option ℕ) → i < length ds
    → dependence cs (take (i + 1) ds) ≡ dependence cs (take i ds) ++ numbers (reads_at cs (get_or ds i d)) ∷ []
next_node cs ds i d lt = ap (λ (n : ℕ). dependence cs (take n ds)) (add-one i) ∙ node_next cs ds i d lt
