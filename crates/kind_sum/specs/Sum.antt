-- Sums of terms.
use Rattle.std.specs.Prelude.{◌+◌, List, [], ◌∷◌, ℕ, ℤ, pos, ◌+ℤ◌, ◌*ℤ◌, map}
use Rattle.dom_core.specs.Ends.{Ends, only, sum_ends, scaled_ends, size_of}
use Rattle.dom_core.specs.declared.arg.Arg.{Arg}
use Rattle.dom_core.specs.declared.var_id.VarId.{VarId}
use Rattle.kind_law.specs.Argument.{arg_value}
use Rattle.kind_parts.specs.Vars.{variables_of}
use Rattle.kind_sum.specs.declared.term.Term.{Term}

-- the sum of the terms under intervals of their arguments
abbrev pub total : List Term → (Arg → Ends) → Ends
total [] f = only (pos 0)
total (t ∷ ts) f = sum_ends (scaled_ends t.coef (f t.arg)) (total ts f)

-- the sum of the terms
abbrev pub sum_at : List Term → List ℤ → ℤ
sum_at [] a = pos 0
sum_at (t ∷ ts) a = (t.coef *ℤ arg_value a t.arg) +ℤ sum_at ts a

-- how large the terms can be, added up
abbrev pub magnitude : List Term → (Arg → Ends) → ℕ
magnitude [] f = 0
magnitude (t ∷ ts) f = size_of (scaled_ends t.coef (f t.arg)) + magnitude ts f

-- coefficients and arguments, pair by pair
abbrev pub terms_of : List ℤ → List Arg → List Term
terms_of [] args = []
terms_of (c ∷ cs) [] = []
terms_of (c ∷ cs) (x ∷ xs) = record { coef = c; arg = x } ∷ terms_of cs xs

-- the arguments of the terms
abbrev pub args_of : List Term → List Arg
args_of ts = map (λ t. t.arg) ts

-- the variables of the terms
abbrev pub vars_of : List Term → List VarId
vars_of ts = variables_of (args_of ts)
