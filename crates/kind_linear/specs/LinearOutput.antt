-- Linear equations that give one of their variables its value.
use Rattle.std.specs.Prelude.{◌≡◌, ◌≤◌, ◌^◌, Bool, true, false, not, List, ◌∷◌, ◌++◌, length, ℕ, ℤ, pos, negsuc, ◌-ℤ◌}
use Rattle.dom_core.specs.Ends.{Ends, only, difference_ends, size_of}
use Rattle.dom_core.specs.declared.arg.Arg.TheVariants.{Var}
use Rattle.dom_core.specs.declared.var_id.VarId.{VarId}
use Rattle.dom_core.specs.declared.view.Movement.{Movement}
use Rattle.kind_law.specs.Laws.{changes}
use Rattle.kind_sum.specs.SumRelation.{SumRelation}
use Rattle.kind_law.specs.Argument.{arg_ends, arg_change, is_listed, distinct}
use Rattle.kind_sum.specs.Sum.{total, sum_at, magnitude, vars_of}
use Rattle.dom_core.specs.declared.relation.Relation.TheVariants.{Equal}
use Rattle.kind_sum.specs.declared.term.Term.{Term}

-- the sum of the output, or of its negative where it is turned, and of the terms before and after it is a number
pub record LinearOutput : Type 0 where
  pub front : List Term
  pub turned : Bool
  pub output : VarId
  pub back : List Term
  pub bound : ℤ

-- the coefficient of the output
abbrev pub sign_of : Bool → ℤ
sign_of true = negsuc 0
sign_of false = pos 1

-- the output's term
abbrev pub own_term : LinearOutput → Term
own_term d = record { coef = sign_of d.turned; arg = Var d.output }

-- the other terms
abbrev pub rest_of : LinearOutput → List Term
rest_of d = d.front ++ d.back

-- the variables of the other terms, each once
abbrev pub inputs_of : LinearOutput → List VarId
inputs_of d = distinct (vars_of (rest_of d))

-- the linear relation that the equation is
abbrev pub relation_of : LinearOutput → SumRelation
relation_of d = record { terms = d.front ++ own_term d ∷ d.back; relation = Equal; bound = d.bound }

-- the output is none of the other terms' variables
abbrev pub is_functional : LinearOutput → Bool
is_functional d = not (is_listed d.output (inputs_of d))

-- the integer, or its negative where it is turned
abbrev pub turned_value : Bool → ℤ → ℤ
turned_value true x = pos 0 -ℤ x
turned_value false x = x

-- the interval, or that of the negatives where it is turned
abbrev pub turned_ends : Bool → Ends → Ends
turned_ends true e = difference_ends (only (pos 0)) e
turned_ends false e = e

-- the value of the output where the other terms have this sum
abbrev pub solved_value : Bool → ℤ → ℤ → ℤ
solved_value turned c t = turned_value turned (c -ℤ t)

-- the values of the output where the other terms' sum lies in the interval
abbrev pub solved_ends : Bool → ℤ → Ends → Ends
solved_ends turned c t = turned_ends turned (difference_ends (only c) t)

-- how large the other terms can be over these intervals
abbrev pub output_size : LinearOutput → (ℕ → Ends) → ℕ
output_size d s = magnitude (rest_of d) (arg_ends s)

-- the other terms stay small over these intervals, and so does the output
abbrev pub OutputFits : LinearOutput → (ℕ → Ends) → Type 0
OutputFits d s = (output_size d s ≤ 2 ^ 100) × (size_of (s d.output.0) ≤ 2 ^ 100)

-- the other terms stay small over these intervals
abbrev pub InputsFit : LinearOutput → (ℕ → Ends) → Type 0
InputsFit d s = (output_size d s ≤ 2 ^ 100)

-- the value that the other terms give the output
abbrev pub output_given : LinearOutput → List ℤ → ℤ
output_given d a = solved_value d.turned d.bound (sum_at (rest_of d) a)

-- the interval that the other terms' intervals give the output
abbrev pub output_range : LinearOutput → (ℕ → Ends) → Ends
output_range d s = solved_ends d.turned d.bound (total (rest_of d) (arg_ends s))

-- the own change: that of the other terms, with the other sign
abbrev pub output_own_change : LinearOutput → List Movement → Ends
output_own_change d view = turned_ends (not d.turned) (total (rest_of d) (arg_change (changes view)))

-- the equation's parts as they are kept: the relation, the other terms and their variables, among which the output isn't
pub record IsSolvedParts (k : SumRelation) (terms : List Term) (variables : List VarId) (d : LinearOutput) : Type 0 where
  pub sum : relation_of d ≡ k
  pub others : terms ≡ rest_of d
  pub inputs : variables ≡ inputs_of d
  pub functional : is_functional d ≡ true

-- the equation is the relation, solved for the variable at this place
pub record IsSolved (k : SumRelation) (at : ℕ) (d : LinearOutput) : Type 0 where
  pub sum : relation_of d ≡ k
  pub place : length d.front ≡ at
  pub functional : is_functional d ≡ true
