-- Whether two arguments differ, as the value of an argument.
use Rattle.std.specs.Prelude.{◌≡◌, Option, Some, None, Bool, true, false, not, ◌&&◌, ◌||◌, if◌then◌else◌, List, [], ◌∷◌, ℕ, ℤ}
use Rattle.dom_core.specs.Ends.{Ends, difference_ends}
use Rattle.dom_core.specs.declared.arg.Arg.{Arg}
use Rattle.dom_core.specs.declared.var_id.VarId.{VarId}
use Rattle.dom_core.specs.declared.view.Movement.{Movement}
use Rattle.dom_cells.specs.declared.start.Start.{Start}
use Rattle.kind_law.specs.Argument.{arg_value, arg_ends, distinct, with_new_arg}
use Rattle.kind_law.specs.DefineLaws.{changed_of}
use Rattle.kind_law.specs.Laws.{befores, afters}
use Rattle.kind_law.specs.Output.{output_met, output_refuted, output_kept, is_apart}
use Rattle.kind_parts.specs.Relation.{number_of, truth_ends}
use Rattle.kind_parts.specs.Vars.{variables_of}
use Rattle.kind_truths.specs.Operand.{makes_true, is_certain}

-- two arguments, and the one that is 1 exactly where one of them is true and the other isn't
pub record Xor : Type 0 where
  pub first : Arg
  pub second : Arg
  pub output : Arg

-- one of the truths holds and the other doesn't
abbrev pub differ : Bool → Bool → Bool
differ p q = if p then not q else q

-- the argument is true at the assignment
abbrev pub is_true : List ℤ → Arg → Bool
is_true a x = makes_true false (arg_value a x)

-- the argument is true all over the intervals
abbrev pub surely : (ℕ → Ends) → Arg → Bool
surely s x = is_certain false (arg_ends s x)

-- the argument is false all over the intervals
abbrev pub never : (ℕ → Ends) → Arg → Bool
never s x = is_certain true (arg_ends s x)

-- both arguments are decided, and differ
abbrev pub differ_surely : (ℕ → Ends) → Xor → Bool
differ_surely s k = (surely s k.first && never s k.second) || (never s k.first && surely s k.second)

-- both arguments are decided, and are equal
abbrev pub agree_surely : (ℕ → Ends) → Xor → Bool
agree_surely s k = (surely s k.first && surely s k.second) || (never s k.first && never s k.second)

-- what is known of the truth at the values of an interval
abbrev pub IsDecided : Ends → Option Bool → Type 0
IsDecided e None = (is_certain false e ≡ false) × (is_certain true e ≡ false)
IsDecided e (Some true) = (is_certain false e ≡ true) × (is_certain true e ≡ false)
IsDecided e (Some false) = (is_certain false e ≡ false) × (is_certain true e ≡ true)

-- the truths of what is sure of two arguments
abbrev pub truths_by : Bool → Bool → Bool → Bool → Ends
truths_by c r d e = truth_ends ((c && e) || (r && d)) ((c && d) || (r && e))

-- the truths of two arguments that lie in these intervals
abbrev pub truths_between : Ends → Ends → Ends
truths_between e f = truths_by (is_certain false e) (is_certain true e) (is_certain false f) (is_certain true f)

-- the variables of the two arguments
abbrev pub xor_inputs : Xor → List VarId
xor_inputs k = distinct (variables_of (k.first ∷ k.second ∷ []))

-- its variables, each once, the output last
abbrev pub xor_vars : Xor → List VarId
xor_vars k = with_new_arg (xor_inputs k) k.output

-- the truth's value
abbrev pub xor_given : Xor → List ℤ → ℤ
xor_given k a = number_of (differ (is_true a k.first) (is_true a k.second))

-- the truths under intervals: one where both arguments are decided, else both
abbrev pub xor_range : Xor → (ℕ → Ends) → Ends
xor_range k s = truth_ends (differ_surely s k) (agree_surely s k)

-- the truth's own change under a view
abbrev pub xor_own_change : Xor → List Movement → Ends
xor_own_change k view = difference_ends (xor_range k (afters view)) (xor_range k (befores view))

-- the change of the truth under a view
abbrev pub xor_changed : Xor → List Movement → Ends
xor_changed k = changed_of (xor_inputs k) (xor_range k) (xor_own_change k)

-- the output has the truth's value
abbrev pub xor_met : Xor → List ℤ → Bool
xor_met k = output_met (xor_given k) k.output

-- the truths over the box have no integer in common with the output's interval
abbrev pub xor_refuted : Xor → (ℕ → Start) → Bool
xor_refuted k = output_refuted (xor_range k) k.output

-- the output keeps the truth's value
abbrev pub xor_kept : Xor → List Movement → Bool
xor_kept k = output_kept true (xor_range k) (xor_changed k) k.output

-- it gives its output the truth's value
abbrev pub gives_output : Xor → Bool
gives_output k = is_apart k.output (xor_inputs k)
