-- Linear relations.
use Rattle.std.specs.Prelude.{◌≤◌, ◌^◌, Bool, true, false, List, ℕ, ℤ, pos, int_le}
use Rattle.dom_core.specs.Ends.{Ends}
use Rattle.dom_cells.specs.declared.start.Start.{Start}
use Rattle.dom_core.specs.declared.var_id.VarId.{VarId}
use Rattle.dom_core.specs.declared.view.Movement.{Movement}
use Rattle.kind_law.specs.Laws.{hulls, changes, afters}
use Rattle.kind_parts.specs.Relation.{is_only_value, is_related, refuted_by, kept_by}
use Rattle.kind_law.specs.Argument.{arg_ends, arg_change, distinct}
use Rattle.kind_sum.specs.Sum.{total, sum_at, magnitude, vars_of}
use Rattle.dom_core.specs.declared.relation.Relation.{Relation}
use Rattle.dom_core.specs.declared.relation.Relation.TheVariants.{AtMost, Equal, Differ}
use Rattle.kind_sum.specs.declared.term.Term.{Term}

-- a sum of terms that is compared with a number
pub record SumRelation : Type 0 where
  pub terms : List Term
  pub relation : Relation
  pub bound : ℤ

-- its variables, each once
abbrev pub sum_vars : SumRelation → List VarId
sum_vars k = distinct (vars_of k.terms)

-- how large its terms can be over these intervals
abbrev pub sum_size : SumRelation → (ℕ → Ends) → ℕ
sum_size k s = magnitude k.terms (arg_ends s)

-- its terms stay small over these intervals
abbrev pub SumFits : SumRelation → (ℕ → Ends) → Type 0
SumFits k s = (sum_size k s ≤ 2 ^ 101)

-- the sum stands in the relation to the bound
abbrev pub sum_met : SumRelation → List ℤ → Bool
sum_met k a = is_related k.relation (sum_at k.terms a) k.bound

-- no sum over the box stands in the relation
abbrev pub sum_refuted : SumRelation → (ℕ → Start) → Bool
sum_refuted k b = refuted_by k.relation (total k.terms (arg_ends (hulls b))) k.bound

-- the relation stays wherever the sum lies, where it changes so
abbrev pub stays_by : Relation → Ends → Bool
stays_by AtMost change = int_le change.hi (pos 0)
stays_by Equal change = is_only_value change (pos 0)
stays_by Differ change = is_only_value change (pos 0)

-- the relation stays under the view
abbrev pub sum_kept : SumRelation → List Movement → Bool
sum_kept k view = kept_by k.relation (total k.terms (arg_change (changes view))) (total k.terms (arg_ends (afters view))) k.bound

-- more ends may follow once those of such a relation are applied
abbrev pub may_follow : Relation → Bool
may_follow AtMost = false
may_follow Equal = true
may_follow Differ = true
