-- Sums of which the interval is known, and one of whose terms changes.
use Rattle.std.specs.Prelude.{◌≡◌, List, ◌∷◌, ◌++◌, ℕ, ℤ, Bool, true, false, length, unsigned_abs}
use Rattle.dom_core.specs.Ends.{Ends}
use Rattle.dom_core.specs.declared.arg.Arg.TheVariants.{Var}
use Rattle.dom_cells.specs.Box.{Box, cell_of}
use Rattle.dom_cells.specs.declared.start.Start.{Start}
use Rattle.dom_core.specs.declared.var_id.VarId.{VarId}
use Rattle.kind_law.specs.Laws.{AllBelow, Each, hulls}
use Rattle.kind_law.specs.Next.{size_of}
use Rattle.kind_sum.specs.SumRelation.{SumRelation, sum_vars, sum_refuted, SumFits}
use Rattle.kind_law.specs.Argument.{arg_ends}
use Rattle.kind_parts.specs.Vars.{are_distinct}
use Rattle.kind_sum.specs.Sum.{total, vars_of}
use Rattle.kind_sum.specs.declared.reach.Pull.{Pull}
use Rattle.kind_sum.specs.declared.term.Term.{Term}

-- what an end of the cell does to a sum, by a term with this coefficient
abbrev pub pull_of : Bool → ℤ → Start → Pull
pull_of rises c cell = record { rises = rises; size = unsigned_abs c; steps = size_of cell }

-- one term alone has the variable, with this coefficient, and the sum over the box is known
pub record IsSlack (k : SumRelation) (c : ℤ) (known : Ends) (b : ℕ → Start) (u : VarId) : Type 0 where
  pub front : List Term
  pub back : List Term
  pub split : k.terms ≡ front ++ record { coef = c; arg = Var u } ∷ back
  pub apart : Each (λ w. w.0 ≡ u.0 → ⊥) (vars_of (front ++ back))
  pub sum : known ≡ total k.terms (arg_ends (hulls b))
  pub fits : SumFits k (hulls b)

-- the sum has no variable twice
abbrev pub HasSingles : SumRelation → Type 0
HasSingles k = (are_distinct (vars_of k.terms) ≡ true)

-- the relation's parts as they are kept: its variables, and whether none comes twice
pub record IsKept (variables : List VarId) (single : Bool) (k : SumRelation) : Type 0 where
  pub vars : variables ≡ sum_vars k
  pub singles : single ≡ true → HasSingles k

-- the sum over a box that it doesn't give up is known, and none of its variables comes twice
pub record IsStanding (k : SumRelation) (known : Ends) (m : Box) : Type 0 where
  pub single : HasSingles k
  pub below : AllBelow (length m.starts) (sum_vars k)
  pub sum : known ≡ total k.terms (arg_ends (hulls (cell_of m)))
  pub fits : SumFits k (hulls (cell_of m))
  pub quiet : sum_refuted k (cell_of m) ≡ false
