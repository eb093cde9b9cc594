-- What a search finds.
use Rattle.std.specs.Prelude.{◌≡◌, ℕ, ◌≤◌, List, ℤ}
use Rattle.dom_model.specs.Least.{IsFeasible, IsLeast, width_of}
use Rattle.dom_model.specs.Problem.{Problem}
use Rattle.dom_network.specs.Free.{tuple_count_of}
use Rattle.dom_search.specs.declared.outcome.Outcome.{Outcome}
use Rattle.dom_search.specs.declared.outcome.Outcome.TheVariants.{Best, «None»}

-- one node for each tuple of values of the free variables, which is no more than the width of the model
pub record AreNodes (p : Problem) (nodes : ℕ) : Type 0 where
  pub counted : nodes ≡ tuple_count_of p.network.domains
  pub within : nodes ≤ width_of p

-- the least assignment, or that there is no feasible one; and the nodes
abbrev pub IsOutcome : Problem → Outcome → Type 0
IsOutcome p (Best best nodes) = IsLeast p best × AreNodes p nodes
IsOutcome p («None» nodes) = ((a : List ℤ) → IsFeasible p a → ⊥) × AreNodes p nodes
