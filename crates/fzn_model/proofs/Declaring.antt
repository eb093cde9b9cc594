-- Declarations, one more at a time.
use Rattle.std.proofs.Common.{◌≡◌, ℕ, ◌+◌, ◌<◌, ◌≤◌, true, cond, ℤ, List, [], ◌∷◌, ◌++◌, length, take, get_or, Some, slice_get, refl, sym, ◌∙◌, ap, subst, arith, add-one, length-append, All}
use Rattle.std.proofs.Math.Seq.{take-suc}
use Rattle.std.proofs.lemmas.Grind.{flat_map-append}
use Rattle.std.proofs.lemmas.List.{append-nil}
use Rattle.std.proofs.lemmas.List.Sums.{sum_by-cons, sum_by_more, sum_by_more_le}
use Rattle.std.proofs.lemmas.Option.{get_or_from_slice_get, slice_get_within}
use Rattle.std.proofs.lemmas.List.Elements.{All-nil, All-cons, All-head, All-tail, All-push}
use Rattle.dom_core.specs.Small.{IsSmall}
use Rattle.dom_definers.specs.declared.variable.Variable as model
use Rattle.dom_model.specs.Draft.{AreSmallIntegers}
use Rattle.fzn_limits.specs.Sizes.{is_variable, variables_in}
use Rattle.fzn_model.specs.Found as found
use Rattle.fzn_model.specs.Variables.{declared_draft, IsBuilt, variables_by, variables_of}
use Rattle.fzn_syntax.specs.declared.declaration.Declaration.{Declaration}
use Rattle.fzn_syntax.specs.declared.declaration.Declaration.TheVariants.{Parameter, Variable, ParameterArray, VariableArray}

-- ---- small integers

pub small_all : (zs : List ℤ) → All IsSmall zs → AreSmallIntegers zs
small_all [] h = tt
small_all (z ∷ zs) h = (All-head IsSmall z zs h, small_all zs (All-tail IsSmall z zs h))

pub all_small : (zs : List ℤ) → AreSmallIntegers zs → All IsSmall zs
all_small [] h = All-nil IsSmall
all_small (z ∷ zs) h = All-cons IsSmall z zs h.0 (all_small zs h.1)

-- ---- how many variables there are

count_one : (d : Declaration) → length (variables_by d) ≡ found.count_by d
count_one (Parameter p) = refl
count_one (Variable v) = refl
count_one (ParameterArray a) = refl
count_one (VariableArray a) = refl

pub variables_counted : (ds : List Declaration) → length (variables_of ds) ≡ variables_in ds
variables_counted [] = refl
variables_counted (d ∷ ds) =
    length-append (variables_by d) (variables_of ds) ∙ ap (λ n. n + length (variables_of ds)) (count_one d) ∙ ap (λ n. found.count_by d + n) (variables_counted ds)
    ∙ sym (sum_by-cons found.count_by d ds)

variables_push : (ds : List Declaration) (d : Declaration) → variables_of (ds ++ d ∷ []) ≡ variables_of ds ++ variables_by d
variables_push ds d = flat_map-append variables_by ds (d ∷ []) ∙ ap (λ vs. variables_of ds ++ vs) (append-nil (variables_by d))

-- a variable's number is below the count of variables
pub number_below : (ds : List Declaration) (k : ℕ) (d : Declaration) → slice_get ds k ≡ Some d → is_variable d ≡ true → variables_in (take k ds) < variables_in ds
number_below ds k d at is =
    let lt = slice_get_within ds k d at in
    let more = sum_by_more_le found.count_by ds k d lt in
    let one : found.count_by (get_or ds k d) ≡ 1 = ap found.count_by (get_or_from_slice_get ds k d d at) ∙ ap (λ b. cond b 1 0) is in
    omega (arith, more, one)

-- ---- the first declarations, and one more of them

module _ (ds : List Declaration) (i : ℕ) (d : Declaration) (within : i < length ds) (is : d ≡ get_or ds i d) where
  pub next : take (i + 1) ds ≡ take i ds ++ d ∷ []
  next = rw add-one (take-suc ds i d within ∙ ap (λ c. take i ds ++ c ∷ []) (sym is))

  pub draft_more : declared_draft (take (i + 1) ds) ≡ record (declared_draft (take i ds)) { variables = (declared_draft (take i ds)).variables ++ variables_by d }
  draft_more = ap (λ (vs : List model.Variable). record (declared_draft ds) { variables = vs }) (ap variables_of next ∙ variables_push (take i ds) d)

  pub built_more : All IsBuilt (take i ds) → IsBuilt d → All IsBuilt (take (i + 1) ds)
  built_more h b = subst (All IsBuilt) (sym next) (All-push IsBuilt (take i ds) d h b)

  pub count_more : variables_in (take (i + 1) ds) ≡ variables_in (take i ds) + found.count_by d
  count_more = sum_by_more found.count_by ds i d within ∙ ap (λ e. variables_in (take i ds) + found.count_by e) (sym is)

  pub count_within : variables_in (take i ds) + found.count_by d ≤ variables_in ds
  count_within = subst (λ e. variables_in (take i ds) + found.count_by e ≤ variables_in ds) (sym is) (sum_by_more_le found.count_by ds i d within)
