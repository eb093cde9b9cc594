-- Truths of sums of which the intervals are known: what the ends of their variables rest on.
use Rattle.std.specs.Prelude.{◌≡◌, ◌&&◌, ◌||◌, Bool, true, false, List, length, ℕ, ℤ, pos, int_le}
use Rattle.std.specs.Ordering.{int_eq}
use Rattle.dom_core.specs.Ends.{Ends}
use Rattle.dom_core.specs.declared.arg.Arg.TheVariants.{Var}
use Rattle.dom_cells.specs.Box.{Box, cell_of}
use Rattle.dom_cells.specs.declared.start.Start.{Start}
use Rattle.dom_core.specs.declared.var_id.VarId.{VarId}
use Rattle.kind_law.specs.Laws.{AllBelow, hulls}
use Rattle.kind_parts.specs.Relation.{truth_over}
use Rattle.kind_sum.specs.SumRelation.{SumRelation, sum_vars, SumFits}
use Rattle.kind_reified.specs.LinearReified.{LinearReified, reified_range, reified_refuted, reified_vars}
use Rattle.kind_sum.specs.Slack.{HasSingles, IsSlack}
use Rattle.kind_law.specs.Argument.{ArgHas, arg_ends, is_new}
use Rattle.kind_sum.specs.Sum.{total}

-- the sum has no variable twice, and the output is none of its variables
pub record AreSingle (k : LinearReified) : Type 0 where
  pub sum : HasSingles k.sum
  pub output : is_new (sum_vars k.sum) k.output ≡ true

-- the truth's parts as they are kept: its variables, and whether none comes twice
pub record IsTruthKept (variables : List VarId) (single : Bool) (k : LinearReified) : Type 0 where
  pub vars : variables ≡ reified_vars k
  pub singles : single ≡ true → AreSingle k

-- the intervals of the sum and of the output over the box
pub record AreSpans (k : LinearReified) (known span : Ends) (b : ℕ → Start) : Type 0 where
  pub sum : known ≡ total k.sum.terms (arg_ends (hulls b))
  pub output : span ≡ arg_ends (hulls b) k.output
  pub fits : SumFits k.sum (hulls b)

-- one term alone has the variable, with this coefficient, the output is another, and their intervals over the box are known
pub record IsTruthSlack (k : LinearReified) (c : ℤ) (known span : Ends) (b : ℕ → Start) (u : VarId) : Type 0 where
  pub slack : IsSlack k.sum c known b u
  pub output : span ≡ arg_ends (hulls b) k.output
  pub other : ArgHas (λ w. w.0 ≡ u.0 → ⊥) k.output

-- the output may still be 0 and may still be 1, as far as its ends tell
abbrev pub is_open : Ends → Bool
is_open e = int_le e.lo (pos 0) && int_le (pos 1) e.hi

-- the truth is one integer alone
abbrev pub is_known : Ends → Bool
is_known e = int_eq e.lo e.hi

-- no bound on a variable of the sum refutes the truth: the output is open, or the truth is known
abbrev pub is_idle : SumRelation → Ends → Ends → Bool
is_idle k known span = is_open span || is_known (truth_over k.relation known k.bound)

-- the intervals over a box that the truth doesn't give up are known, and no variable comes twice
pub record IsTruthStanding (k : LinearReified) (known span : Ends) (m : Box) : Type 0 where
  pub single : AreSingle k
  pub below : AllBelow (length m.starts) (reified_vars k)
  pub spans : AreSpans k known span (cell_of m)
  pub quiet : reified_refuted k (cell_of m) ≡ false

-- the truths over the box are known, and the variable is the output, which is none of the sum's
pub record IsTruthOf (k : LinearReified) (truth : Ends) (b : ℕ → Start) (u : VarId) : Type 0 where
  pub range : truth ≡ reified_range k (hulls b)
  pub output : k.output ≡ Var u
  pub other : is_new (sum_vars k.sum) k.output ≡ true
