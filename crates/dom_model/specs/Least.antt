-- Which assignments are feasible, and which of them is the least.
use Rattle.std.specs.Prelude.{◌≡◌, ℕ, ◌+◌, ◌*◌, ℤ, pos, neg_ℤ, List, ◌∷◌, length}
use Rattle.std.specs.Cmp.Lexicographic.{slice_cmp}
use Rattle.std.specs.Ordering.{int_cmp}
use Rattle.std.specs.declared.cmp.Ordering.TheVariants.{Less}
use Rattle.dom_core.specs.Assignment.{value_at}
use Rattle.dom_domains.specs.Allowed.{EachAllowed}
use Rattle.dom_model.specs.declared.goal.Goal.{Goal}
use Rattle.dom_model.specs.declared.goal.Goal.TheVariants.{Satisfy, Minimize, Maximize}
use Rattle.dom_model.specs.Problem.{Problem}
use Rattle.any_kind.specs.Meets.{MeetsEach}
use Rattle.dom_network.specs.Free.{free_of, free_values, tuple_count_of}

-- every value is one that the declaration allows, and every constraint is satisfied
pub record IsFeasible (p : Problem) (a : List ℤ) : Type 0 where
  pub allowed : EachAllowed p.variables a
  pub satisfied : MeetsEach p.network.constraints a

-- what is to be small
abbrev pub objective_of : Goal → List ℤ → ℤ
objective_of Satisfy a = pos 0
objective_of (Minimize x) a = value_at a x
objective_of (Maximize x) a = neg_ℤ (value_at a x)

-- the objective, and then the values of the free variables in order of declaration
abbrev pub key_of : Problem → List ℤ → List ℤ
key_of p a = objective_of p.goal a ∷ free_values p.network.definers a

-- the first assignment has the smaller key, compared place by place
abbrev pub IsBetter : Problem → List ℤ → List ℤ → Type 0
IsBetter p a b = slice_cmp int_cmp (key_of p a) (key_of p b) ≡ Less

-- the assignment is feasible, and no feasible one is better
pub record IsLeast (p : Problem) (a : List ℤ) : Type 0 where
  pub feasible : IsFeasible p a
  pub least : (b : List ℤ) → IsFeasible p b → IsBetter p b a → ⊥

-- one more than the number of free variables, times the number of their tuples of values
abbrev pub width_of : Problem → ℕ
width_of p = (length (free_of p.network.definers) + 1) * tuple_count_of p.network.domains
