-- Linear relations whose truth is the value of an argument.
use Rattle.std.specs.Prelude.{Bool, true, List, ℕ, ℤ}
use Rattle.std.specs.Ordering.{int_eq}
use Rattle.dom_core.specs.Ends.{Ends}
use Rattle.dom_core.specs.declared.arg.Arg.{Arg}
use Rattle.dom_cells.specs.declared.start.Start.{Start}
use Rattle.dom_core.specs.declared.var_id.VarId.{VarId}
use Rattle.dom_core.specs.declared.view.Movement.{Movement}
use Rattle.kind_law.specs.Laws.{hulls, befores, afters, changes}
use Rattle.kind_law.specs.DefineLaws.{changed_of}
use Rattle.kind_law.specs.Output.{is_apart}
use Rattle.kind_law.specs.Argument.{arg_movement}
use Rattle.kind_law.specs.Function.{have_none, function_kept}
use Rattle.kind_sum.specs.SumRelation.{SumRelation, sum_vars, sum_met}
use Rattle.kind_parts.specs.Relation.{number_of, truth_over, truth_row}
use Rattle.kind_law.specs.Argument.{arg_ends, arg_change, arg_value, with_new_arg}
use Rattle.kind_sum.specs.Sum.{total}

-- a linear relation, and the argument that is 1 exactly where it holds and else 0
pub record LinearReified : Type 0 where
  pub sum : SumRelation
  pub output : Arg

-- the truth of the relation, as the value of the argument
abbrev pub truth_of : SumRelation → Arg → LinearReified
truth_of sum output = record { sum = sum; output = output }

-- its variables, each once, the output last
abbrev pub reified_vars : LinearReified → List VarId
reified_vars k = with_new_arg (sum_vars k.sum) k.output

-- the truth's value
abbrev pub reified_given : LinearReified → List ℤ → ℤ
reified_given k a = number_of (sum_met k.sum a)

-- the truths under intervals
abbrev pub reified_range : LinearReified → (ℕ → Ends) → Ends
reified_range k s = truth_over k.sum.relation (total k.sum.terms (arg_ends s)) k.sum.bound

-- the truth's own change under a view
abbrev pub reified_own_change : LinearReified → List Movement → Ends
reified_own_change k view =
    truth_row k.sum.relation (total k.sum.terms (arg_change (changes view))) (reified_range k (befores view)) (reified_range k (afters view))

-- the change of the truth under a view
abbrev pub reified_changed : LinearReified → List Movement → Ends
reified_changed k = changed_of (sum_vars k.sum) (reified_range k) (reified_own_change k)

-- the movement of the truth under a view
abbrev pub reified_movement : LinearReified → List Movement → Movement
reified_movement k view = record { before = reified_range k (befores view); after = reified_range k (afters view); change = reified_changed k view }

-- the output has the truth's value
abbrev pub reified_met : LinearReified → List ℤ → Bool
reified_met k a = int_eq (arg_value a k.output) (reified_given k a)

-- the truths over the box have no integer in common with the output's interval
abbrev pub reified_refuted : LinearReified → (ℕ → Start) → Bool
reified_refuted k b = have_none (reified_range k (hulls b)) (arg_ends (hulls b) k.output)

-- the output keeps the truth's value
abbrev pub reified_kept : LinearReified → List Movement → Bool
reified_kept k view = function_kept true (reified_movement k view) (arg_movement view k.output)

-- it gives its output the truth's value
abbrev pub is_giver : LinearReified → Bool
is_giver k = is_apart k.output (sum_vars k.sum)
