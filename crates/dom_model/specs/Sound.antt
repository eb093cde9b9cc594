-- What holds of every model.
use Rattle.std.specs.Prelude.{◌≡◌, ◌≤◌, List, ◌++◌, length, ℤ}
use Rattle.any_kind.specs.declared.any.AnyKind.{AnyKind}
use Rattle.dom_domains.specs.Faults.{AreFaultless}
use Rattle.dom_domains.specs.FreeDomains.{free_domains}
use Rattle.dom_domains.specs.Restrictions.{AreRestrictions}
use Rattle.dom_model.specs.Draft.{AreFitOutputs, IsFitGoal}
use Rattle.dom_model.specs.Least.{IsFeasible}
use Rattle.dom_model.specs.Problem.{Problem}
use Rattle.dom_network.specs.Completion.{IsCompletion}
use Rattle.dom_network.specs.Free.{IsTuple, free_of, free_values}

-- no variable is at fault, the domains are those of the free variables, and restrictions of the defined ones stand behind the other constraints
pub record IsSound (p : Problem) : Type 0 where
  pub whole : length p.network.definers ≡ length p.variables
  pub faultless : AreFaultless p.variables p.network.definers
  pub domains : p.network.domains ≡ free_domains p.variables p.network.definers
  pub few : length (free_of p.network.definers) ≤ 4096
  pub front : List AnyKind
  pub restrictions : List AnyKind
  pub restricted : AreRestrictions p.variables p.network.definers restrictions
  pub constraints : p.network.constraints ≡ front ++ restrictions
  pub goal : IsFitGoal (length p.variables) p.goal
  pub outputs : AreFitOutputs (length p.variables) p.outputs

-- a feasible assignment is what completes its free values, and these lie in their domains
abbrev pub FeasibleIsCompleted : Problem → Type 0
FeasibleIsCompleted p = (a : List ℤ) → IsFeasible p a
    → IsTuple p.network.domains (free_values p.network.definers a) × IsCompletion p.network.constraints p.network.definers (free_values p.network.definers a) a
