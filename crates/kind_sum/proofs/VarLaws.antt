-- Variables of terms, one term at a time.
use Rattle.std.proofs.Common.{◌≡◌, ℕ, ◌+◌, ◌<◌, Bool, true, false, ◌||◌, List, [], ◌∷◌, ◌++◌, length, drop, get_or, refl, ◌∙◌, ap}
use Rattle.std.proofs.lemmas.List.{drop_more}
use Rattle.dom_core.specs.declared.arg.Arg.{Arg}
use Rattle.dom_core.specs.declared.arg.Arg.TheVariants.{Var, Const}
use Rattle.dom_core.specs.declared.var_id.VarId.{VarId}
use Rattle.kind_law.specs.Argument.{with_arg, is_listed}
use Rattle.kind_sum.specs.Sum.{vars_of}
use Rattle.kind_parts.specs.Vars.{is_read_by}
use Rattle.kind_sum.specs.declared.term.Term.{Term}

listed_arg : (u : VarId) (x : Arg) (vs : List VarId) → is_listed u (with_arg x vs) ≡ (is_read_by x u || is_listed u vs)
listed_arg u (Var w) vs = refl
listed_arg u (Const c) vs = refl

listed_back : (u : VarId) (x : Arg) (vs : List VarId) → (is_read_by x u || is_listed u vs) ≡ is_listed u (with_arg x vs)
listed_back u (Var w) vs = refl
listed_back u (Const c) vs = refl

-- the variables from this term on
from_here : (u : VarId) (ts : List Term) (i : ℕ) (d : Term) → i < length ts
    → is_listed u (vars_of (drop i ts)) ≡ (is_read_by (get_or ts i d).arg u || is_listed u (vars_of (drop (i + 1) ts)))
from_here u ts i d lt =
    ap (λ (us : List Term). is_listed u (vars_of us)) (drop_more ts i d lt) ∙ listed_arg u (get_or ts i d).arg (vars_of (drop (i + 1) ts))

pub read_here : (u : VarId) (ts : List Term) (i : ℕ) (d : Term) → i < length ts → is_read_by (get_or ts i d).arg u ≡ true
    → is_listed u (vars_of (drop i ts)) ≡ true
read_here u ts i d lt h = from_here u ts i d lt ∙ ap (λ (b : Bool). b || is_listed u (vars_of (drop (i + 1) ts))) h

pub read_later : (u : VarId) (ts : List Term) (i : ℕ) (d : Term) → i < length ts → is_read_by (get_or ts i d).arg u ≡ false
    → is_listed u (vars_of (drop i ts)) ≡ is_listed u (vars_of (drop (i + 1) ts))
read_later u ts i d lt h = from_here u ts i d lt ∙ ap (λ (b : Bool). b || is_listed u (vars_of (drop (i + 1) ts))) h

grouped : (a b c : Bool) → (a || (b || c)) ≡ ((a || b) || c)
grouped true b c = refl
grouped false b c = refl

pub listed-append : (u : VarId) (xs ys : List Term) → is_listed u (vars_of (xs ++ ys)) ≡ (is_listed u (vars_of xs) || is_listed u (vars_of ys))
listed-append u [] ys = refl
listed-append u (x ∷ xs) ys =
    listed_arg u x.arg (vars_of (xs ++ ys)) ∙ ap (λ (b : Bool). is_read_by x.arg u || b) (listed-append u xs ys)
    ∙ grouped (is_read_by x.arg u) (is_listed u (vars_of xs)) (is_listed u (vars_of ys))
    ∙ ap (λ (b : Bool). b || is_listed u (vars_of ys)) (listed_back u x.arg (vars_of xs))
