-- What holds of every network.
use Rattle.std.specs.Prelude.{◌≡◌, List, ℕ, length, ℤ}
use Rattle.any_kind.specs.Meets.{MeetsEach}
use Rattle.dom_network.specs.Completion.{IsCompletion, AreInHulls}
use Rattle.dom_network.specs.Free.{IsTuple, free_values}
use Rattle.dom_network.specs.Network.{IsNetwork, Network}

-- the variables have an order in which each comes behind what its definition reads, and all that is asked of a network holds
abbrev pub HasOrder : Network → Type 0
HasOrder m = (order : List ℕ) × IsNetwork m order

-- the values of the free variables determine the others
abbrev pub HasOneCompletion : Network → Type 0
HasOneCompletion m = (values a b : List ℤ) → IsCompletion m.constraints m.definers values a → IsCompletion m.constraints m.definers values b → a ≡ b

-- an assignment that satisfies every constraint, with free values from the domains, is the completion of these, and each value lies in its hull
abbrev pub AdmittedIsCompleted : Network → Type 0
AdmittedIsCompleted m = (a : List ℤ) → length a ≡ length m.definers → IsTuple m.domains (free_values m.definers a) → MeetsEach m.constraints a
    → IsCompletion m.constraints m.definers (free_values m.definers a) a × AreInHulls m.hulls a
