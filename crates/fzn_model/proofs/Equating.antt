-- The equations of initialisers.
use Rattle.std.proofs.Common.{◌≡◌, ℕ, ◌+◌, ◌<◌, ◌≤◌, List, [], ◌∷◌, ◌++◌, length, get_or, slice_index_or, Option, Some, None, Err, refl, sym, ◌∙◌, ap, arith}
use Rattle.std.proofs.lemmas.List.{append_assoc, append-nil, length-append}
use Rattle.std.proofs.lemmas.List.Sums.{sum_by-cons}
use Rattle.dom_definers.specs.declared.form.Form.{Form}
use Rattle.dom_definers.specs.declared.posted.Posted.{Posted}
use Rattle.dom_model.specs.Draft.{Draft}
use Rattle.fzn_arguments.specs.Numbers.{AreNumbers}
use Rattle.fzn_limits.specs.Sizes.{variables_in}
use Rattle.fzn_model.proofs.Folding.{back, found_nowhere}
use Rattle.fzn_model.specs.Found.{count_by, listed}
use Rattle.fzn_model.specs.Posting.{initialised, initialised_by, IsInitial, IsInitialised}
use Rattle.fzn_model.specs.Steps.{AreEquated, IsInitialNext, with_constraints}
use Rattle.fzn_model.specs.declared.error.ResolveError.{ResolveError}
use Rattle.fzn_model.specs.declared.error.ResolveError.TheVariants.{NotBuilt, Memory}
use Rattle.fzn_syntax.specs.declared.declaration.Declaration.{Declaration}
use Rattle.fzn_syntax.specs.declared.declaration.Declaration.TheVariants.{Parameter, Variable, ParameterArray, VariableArray}
use Rattle.fzn_syntax.specs.declared.expression.Expression.{Expression}

-- ---- which variables have an initialiser

flags_one : (d : Declaration) → length (initialised_by d) ≡ count_by d
flags_one (Parameter p) = refl
flags_one (Variable v) = refl
flags_one (ParameterArray a) = refl
flags_one (VariableArray a) = refl

pub flags_counted : (ds : List Declaration) → length (initialised ds) ≡ variables_in ds
flags_counted [] = refl
flags_counted (d ∷ ds) =
    length-append (initialised_by d) (initialised ds) ∙ ap (λ n. n + length (initialised ds)) (flags_one d) ∙ ap (λ n. count_by d + n) (flags_counted ds) ∙ sym (sum_by-cons count_by d ds)

-- ---- one declaration after the other

pub constraints_more : (d : Draft) (ps qs : List Posted) → with_constraints (with_constraints d ps) qs ≡ with_constraints d (ps ++ qs)
constraints_more d ps qs = ap (λ (rs : List Posted). record d { constraints = rs }) (append_assoc d.constraints ps qs)

pub nothing_more : (d : Draft) → with_constraints d [] ≡ d
nothing_more d = ap (λ (rs : List Posted). record d { constraints = rs }) (append-nil d.constraints)

value_few : (ds : List Declaration) (form : Form) (i : ℕ) (v : Option Expression) (r : Option Posted) → IsInitialised ds form i v r → length (listed r) ≤ 1
value_few ds form i v None h = omega arith
value_few ds form i v (Some p) h = omega arith

few_listed : (r : Option Posted) → r ≡ None → length (listed r) ≤ 0
few_listed r e = rw e (omega arith)

pub initial_few : (ds : List Declaration) (i : ℕ) (d : Declaration) (r : Option Posted) → IsInitial ds i d r → length (listed r) ≤ count_by d
initial_few ds i (Parameter p) r h = few_listed r h
initial_few ds i (Variable v) r h = value_few ds _ i v.value r h
initial_few ds i (ParameterArray a) r h = few_listed r h
initial_few ds i (VariableArray a) r h = few_listed r h

pub equates_none : (ds vs : List Declaration) (ns : List ℕ) (old new before after : Draft) (i : ℕ) (d : Declaration) (e : ResolveError) → vs ≡ ds → AreNumbers ds ns → i < length ds → d ≡ get_or ds i d
    → IsInitialNext vs (slice_index_or ns i 0) d before after (Err e) → AreEquated ds old new (Err e)
equates_none ds vs ns old new before after i d NotBuilt same numbers within is none =
    found_nowhere (IsInitial ds) ds i d within is (λ x h. none x (back IsInitial ds vs same ns numbers i within d x h))
equates_none ds vs ns old new before after i d Memory same numbers within is none = tt
