-- Linear equations that are solved for the variable which they are to define.
use Rattle.std.specs.Prelude.{◌==◌, ◌+◌, Bool, false, if◌then◌else◌, Option, Some, None, List, [], ◌∷◌, ℕ, pos, suc, take, drop, slice_index_or, int_lt}
use Rattle.any_kind.specs.declared.any.AnyKind.{AnyKind}
use Rattle.any_kind.specs.declared.any.AnyKind.TheVariants as kinds
use Rattle.dom_core.specs.declared.arg.Arg.{Arg}
use Rattle.dom_core.specs.declared.arg.Arg.TheVariants.{Var, Const}
use Rattle.dom_core.specs.declared.var_id.VarId.{VarId}
use Rattle.kind_law.specs.Argument.{var_of}
use Rattle.kind_linear.specs.LinearOutput as output
use Rattle.kind_sum.specs.Place.{can_define}
use Rattle.kind_sum.specs.SumRelation.{SumRelation}
use Rattle.kind_sum.specs.declared.term.Term.{Term}

-- the argument is this variable
abbrev pub is_arg_of : VarId → Arg → Bool
is_arg_of x (Var y) = x.0 == y.0
is_arg_of x (Const c) = false

-- the place of the first term of the variable, where the first of the list has this place
abbrev pub place_from : ℕ → VarId → List Term → Option ℕ
place_from i x [] = None
place_from i x (t ∷ ts) = if is_arg_of x t.arg then Some i else place_from (suc i) x ts

-- a term that stands for none
abbrev pub no_term : Term
no_term = record { coef = pos 0; arg = Const (pos 0) }

-- the equation, solved for the variable at this place
abbrev pub solution : SumRelation → ℕ → output.LinearOutput
solution k i = record {
  front = take i k.terms;
  turned = int_lt (slice_index_or k.terms i no_term).coef (pos 0);
  output = var_of (slice_index_or k.terms i no_term).arg;
  back = drop (i + 1) k.terms;
  bound = k.bound;
}

-- the relation, solved for the variable at this place where that occurs once, with the coefficient 1 or -1
abbrev pub solved_at : SumRelation → Option ℕ → AnyKind
solved_at k None = kinds.Linear k
solved_at k (Some i) = if can_define k i then kinds.LinearOutput (solution k i) else kinds.Linear k

-- the kind, solved for the variable that it is to define where it is a linear equation that can be
abbrev pub solved : AnyKind → Option VarId → AnyKind
solved (kinds.Linear k) (Some x) = solved_at k (place_from 0 x k.terms)
solved k d = k
