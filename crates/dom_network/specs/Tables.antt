-- What is kept beside a network: which constraints read a variable, and which variables depend on a free one.
use Rattle.std.specs.Prelude.{◌≡◌, Bool, Option, List, ℕ, length, map, is_none}
use Rattle.any_kind.specs.Any.{any_vars}
use Rattle.any_kind.specs.declared.any.AnyKind.{AnyKind}
use Rattle.digraph.specs.Order.{IsOrder}
use Rattle.dom_core.specs.declared.var_id.VarId.{VarId}
use Rattle.dom_definers.specs.Definers.{numbers}
use Rattle.dom_network.specs.Completion.{reading_of}
use Rattle.dom_network.specs.Free.{free_of}
use Rattle.dom_network.specs.Network.{IsNetwork, Network}
use Rattle.dom_network.specs.Place.{places_of}
use Rattle.incidence.specs.Dependents.{AreDependents, IsDependents}
use Rattle.incidence.specs.Holders.{AreHolders, IsHolders}

-- for each constraint the numbers of the variables that it reads
abbrev pub reads_of : List AnyKind → List (List ℕ)
reads_of ks = map (λ k. numbers (any_vars k)) ks

-- these are the places of the constraints that read the variable, and they rise
abbrev pub AreReadersIn : List AnyKind → ℕ → List ℕ → Type 0
AreReadersIn ks v places = IsHolders (reads_of ks) v places

-- these are the variables that depend on this one, along some order in which each comes behind what its definition reads
abbrev pub AreDependentsIn : Network → ℕ → List ℕ → Type 0
AreDependentsIn m v list =
    (order : List ℕ) × IsOrder (reading_of m.constraints m.definers) order × IsDependents (reading_of m.constraints m.definers) order v list

-- for each variable whether it is free
abbrev pub free_marks : List (Option ℕ) → List Bool
free_marks ds = map is_none ds

-- what is kept beside a network: an order of its variables, the free ones, their places, and for each variable what reads it and depends on it
pub record IsKept (m : Network) (order : List ℕ) (free : List VarId) (places : List (Option ℕ)) (readers dependents : List (List ℕ)) : Type 0 where
  pub network : IsNetwork m order
  pub is_free : free ≡ free_of m.definers
  pub is_placed : places ≡ places_of m.definers
  pub is_read : AreHolders (reads_of m.constraints) (length m.definers) readers
  pub is_followed : AreDependents (reading_of m.constraints m.definers) order (free_marks m.definers) dependents
