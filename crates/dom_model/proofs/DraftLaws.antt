-- What is asked of the parts of a draft stays so while it grows.
use Rattle.std.proofs.Common.{◌≡◌, ◌<◌, ◌+◌, ℕ, List, [], ◌∷◌, ◌++◌, length, Option, Some, None, sym, subst, arith}
use Rattle.std.proofs.lemmas.List.{length-append}
use Rattle.any_kind.specs.Any.{any_vars}
use Rattle.any_kind.specs.declared.any.AnyKind.{AnyKind}
use Rattle.dom_core.specs.declared.arg.Arg.{Arg}
use Rattle.dom_core.specs.declared.arg.Arg.TheVariants.{Var, Const}
use Rattle.dom_core.specs.declared.var_id.VarId.{VarId}
use Rattle.dom_definers.specs.declared.posted.Posted.{Posted}
use Rattle.dom_definers.specs.declared.variable.Variable.{Variable}
use Rattle.dom_model.specs.Draft.{AreFitArgs, AreFitOutputs, AreFitPosted, AreSmallDeclarations, Draft, IsFitArg, IsFitDefined, IsFitDraft, IsFitGoal, IsFitOutput, IsFitPosted, IsSmallDeclared}
use Rattle.dom_model.specs.declared.goal.Goal.{Goal}
use Rattle.dom_model.specs.declared.goal.Goal.TheVariants.{Satisfy, Minimize, Maximize}
use Rattle.dom_model.specs.declared.output.Output.{Output}
use Rattle.dom_model.specs.declared.output.Output.TheVariants.{Scalar, Array}
use Rattle.kind_law.proofs.EachLaws.{each_map}

-- ---- one variable more

defined_more : (n : ℕ) (k : AnyKind) (d : Option VarId) → IsFitDefined n k d → IsFitDefined (n + 1) k d
defined_more n k None h = tt
defined_more n k (Some x) h = ((let below : x.0 < n = h.0 in omega (arith, below)), h.1)

posted_more_one : (n : ℕ) (c : Posted) → IsFitPosted n c → IsFitPosted (n + 1) c
posted_more_one n c h = record {
  below = each_map (λ u. u.0 < n) (λ u. u.0 < n + 1) (any_vars c.kind) (λ u lt. omega (arith, lt)) h.below;
  defined = defined_more n c.kind c.defines h.defined;
}

posted_more : (n : ℕ) (cs : List Posted) → AreFitPosted n cs → AreFitPosted (n + 1) cs
posted_more n [] h = tt
posted_more n (c ∷ cs) h = (posted_more_one n c h.0, posted_more n cs h.1)

goal_more : (n : ℕ) (g : Goal) → IsFitGoal n g → IsFitGoal (n + 1) g
goal_more n Satisfy h = tt
goal_more n (Minimize x) h = omega (arith, h)
goal_more n (Maximize x) h = omega (arith, h)

arg_more : (n : ℕ) (x : Arg) → IsFitArg n x → IsFitArg (n + 1) x
arg_more n (Var x) h = omega (arith, h)
arg_more n (Const c) h = tt

args_more : (n : ℕ) (xs : List Arg) → AreFitArgs n xs → AreFitArgs (n + 1) xs
args_more n [] h = tt
args_more n (x ∷ xs) h = (arg_more n x h.0, args_more n xs h.1)

output_more : (n : ℕ) (o : Output) → IsFitOutput n o → IsFitOutput (n + 1) o
output_more n (Scalar x) h = omega (arith, h)
output_more n (Array name form sets entries) h = args_more n entries h

outputs_more : (n : ℕ) (os : List Output) → AreFitOutputs n os → AreFitOutputs (n + 1) os
outputs_more n [] h = tt
outputs_more n (o ∷ os) h = (output_more n o h.0, outputs_more n os h.1)

-- ---- one more part

small_push : (vs : List Variable) (v : Variable) → AreSmallDeclarations vs → IsSmallDeclared v.declared → AreSmallDeclarations (vs ++ v ∷ [])
small_push [] v h s = (s, tt)
small_push (w ∷ vs) v h s = (h.0, small_push vs v h.1 s)

posted_push : (n : ℕ) (cs : List Posted) (c : Posted) → AreFitPosted n cs → IsFitPosted n c → AreFitPosted n (cs ++ c ∷ [])
posted_push n [] c h f = (f, tt)
posted_push n (d ∷ cs) c h f = (h.0, posted_push n cs c h.1 f)

outputs_push : (n : ℕ) (os : List Output) (o : Output) → AreFitOutputs n os → IsFitOutput n o → AreFitOutputs n (os ++ o ∷ [])
outputs_push n [] o h f = (f, tt)
outputs_push n (p ∷ os) o h f = (h.0, outputs_push n os o h.1 f)

-- a draft stays fit with one variable more
pub with_variable : (d : Draft) (v : Variable) → IsFitDraft d → length d.variables < 100000 → IsSmallDeclared v.declared
    → IsFitDraft (record { variables = d.variables ++ v ∷ []; constraints = d.constraints; goal = d.goal; outputs = d.outputs })
with_variable d v h few small =
    let longer : length (d.variables ++ v ∷ []) ≡ length d.variables + 1 = length-append d.variables (v ∷ []) in
    record {
      few_variables = omega (arith, longer, few);
      few_constraints = h.few_constraints;
      small = small_push d.variables v h.small small;
      posted = subst (λ n. AreFitPosted n d.constraints) (sym longer) (posted_more (length d.variables) d.constraints h.posted);
      goal = subst (λ n. IsFitGoal n d.goal) (sym longer) (goal_more (length d.variables) d.goal h.goal);
      outputs = subst (λ n. AreFitOutputs n d.outputs) (sym longer) (outputs_more (length d.variables) d.outputs h.outputs);
    }

-- with one constraint more
pub with_constraint : (d : Draft) (c : Posted) → IsFitDraft d → length d.constraints < 2147483648 → IsFitPosted (length d.variables) c
    → IsFitDraft (record { variables = d.variables; constraints = d.constraints ++ c ∷ []; goal = d.goal; outputs = d.outputs })
with_constraint d c h few fit =
    let longer : length (d.constraints ++ c ∷ []) ≡ length d.constraints + 1 = length-append d.constraints (c ∷ []) in
    record {
      few_variables = h.few_variables;
      few_constraints = omega (arith, longer, few);
      small = h.small;
      posted = posted_push (length d.variables) d.constraints c h.posted fit;
      goal = h.goal;
      outputs = h.outputs;
    }

-- with one mark more
pub with_output : (d : Draft) (o : Output) → IsFitDraft d → IsFitOutput (length d.variables) o
    → IsFitDraft (record { variables = d.variables; constraints = d.constraints; goal = d.goal; outputs = d.outputs ++ o ∷ [] })
with_output d o h fit = record {
  few_variables = h.few_variables;
  few_constraints = h.few_constraints;
  small = h.small;
  posted = h.posted;
  goal = h.goal;
  outputs = outputs_push (length d.variables) d.outputs o h.outputs fit;
}
