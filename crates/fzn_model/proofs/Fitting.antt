-- What constraints are posted as is fit for a draft.
use Rattle.std.proofs.Common.{◌≡◌, ℕ, suc, ◌+◌, ◌<◌, ◌==◌, ◌&&◌, Bool, true, false, if◌then◌else◌, pos, negsuc, List, [], ◌∷◌, slice_index_or, Option, Some, None, inl, inr, refl, sym, ◌∙◌, ap, subst, arith}
use Rattle.std.proofs.lemmas.Bool.Decides.{Decides-eqb}
use Rattle.std.proofs.lemmas.Option.{same_Some}
use Rattle.any_kind.specs.Any.{any_functional, any_output, any_vars}
use Rattle.any_kind.specs.declared.any.AnyKind.{AnyKind}
use Rattle.any_kind.specs.declared.any.AnyKind.TheVariants as kinds
use Rattle.dom_core.proofs.TestLaws.{and_first, and_second, true_or_false}
use Rattle.dom_core.specs.declared.arg.Arg.{Arg}
use Rattle.dom_core.specs.declared.arg.Arg.TheVariants.{Var, Const}
use Rattle.dom_core.specs.declared.relation.Relation.TheVariants.{Equal}
use Rattle.dom_core.specs.declared.var_id.VarId.{VarId}
use Rattle.dom_model.specs.Draft.{IsFitPosted}
use Rattle.dom_model.specs.Solved.{is_arg_of, no_term, place_from, solution, solved, solved_at}
use Rattle.fzn_model.proofs.Bounds.{each_sum}
use Rattle.fzn_model.specs.Defining.{has_shape, is_solvable}
use Rattle.fzn_model.specs.Posting.{initial, posted_as}
use Rattle.kind_law.proofs.ArgumentLaws.{all_listed, each_listed, same_var}
use Rattle.kind_law.specs.Argument.{ArgHas, is_listed, var_of}
use Rattle.kind_law.specs.Laws.{AllBelow}
use Rattle.kind_linear.proofs.SolvedLaws.{solved_apart, solved_relation}
use Rattle.kind_sum.specs.Place.{can_define}
use Rattle.kind_sum.specs.Sum.{terms_of, vars_of}
use Rattle.kind_sum.specs.SumRelation.{SumRelation, sum_vars}
use Rattle.kind_sum.specs.declared.term.Term.{Term}

-- ---- places of variables

arg_is : (x : VarId) (a : Arg) → is_arg_of x a ≡ true → var_of a ≡ x
arg_is x (Var y) h = sym (same_var y x ((Decides-eqb x.0 y.0).0 h))
arg_is x (Const c) h = absurd (cc)

place_is : (i : ℕ) (x : VarId) (ts : List Term) (j : ℕ) → place_from i x ts ≡ Some j → (m : ℕ) × (j ≡ i + m) × (var_of (slice_index_or ts m no_term).arg ≡ x)
place_is i x [] j h = absurd (cc)
place_is i x (t ∷ ts) j h =
    elim (true_or_false (is_arg_of x t.arg)) [
      | inl e ↦
          let here : Some i ≡ Some j = subst (λ b. (if b then Some i else place_from (suc i) x ts) ≡ Some j) e h in
          let same : i ≡ j = same_Some i j here in
          (0, omega (arith, same), arg_is x t.arg e)
      | inr e ↦
          let later : place_from (suc i) x ts ≡ Some j = subst (λ b. (if b then Some i else place_from (suc i) x ts) ≡ Some j) e h in
          let there = place_is (suc i) x ts j later in
          (suc there.0, omega (arith, there.1), there.2)
    ]

output_is : (l : SumRelation) (x : VarId) (i : ℕ) → place_from 0 x l.terms ≡ Some i → var_of (slice_index_or l.terms i no_term).arg ≡ x
output_is l x i h =
    let there = place_is 0 x l.terms i h in
    let same : i ≡ there.0 = omega (arith, there.1) in
    ap (λ j. var_of (slice_index_or l.terms j no_term).arg) same ∙ there.2

-- ---- equations

solution_fit : (n : ℕ) (l : SumRelation) (x : VarId) (i : ℕ) → AllBelow n (sum_vars l) → x.0 < n → place_from 0 x l.terms ≡ Some i → can_define l i ≡ true
    → IsFitPosted n (record { kind = kinds.LinearOutput (solution l i); defines = Some x })
solution_fit n l x i below lt at can = record {
  below = subst (λ s. AllBelow n (sum_vars s)) (sym (solved_relation l i no_term can)) below;
  defined = (lt, inl (solved_apart l i no_term can, output_is l x i at));
}

solved_there : (l : SumRelation) (i : ℕ) → can_define l i ≡ true → solved_at l (Some i) ≡ kinds.LinearOutput (solution l i)
solved_there l i can = ap (λ (b : Bool). if b then kinds.LinearOutput (solution l i) else kinds.Linear l) can

solved_nowhere : (l : SumRelation) (i : ℕ) → can_define l i ≡ false → solved_at l (Some i) ≡ kinds.Linear l
solved_nowhere l i cannot = ap (λ (b : Bool). if b then kinds.LinearOutput (solution l i) else kinds.Linear l) cannot

equation_fit : (n : ℕ) (l : SumRelation) (x : VarId) (r : Option ℕ) → place_from 0 x l.terms ≡ r → AllBelow n (sum_vars l) → x.0 < n → is_solvable l r ≡ true
    → IsFitPosted n (posted_as (kinds.Linear l) (Some x))
equation_fit n l x None at below lt can = absurd (cc)
equation_fit n l x (Some i) at below lt can =
    subst (λ (k : AnyKind). IsFitPosted n (record { kind = k; defines = Some x })) (sym (ap (solved_at l) at ∙ solved_there l i can)) (solution_fit n l x i below lt at can)

-- ---- written constraints

giver_fit : (n : ℕ) (k : AnyKind) (x : VarId) → AllBelow n (any_vars k) → x.0 < n → (any_functional k && ((any_output k).0 == x.0)) ≡ true
    → IsFitPosted n (record { kind = k; defines = Some x })
giver_fit n k x below lt shape =
    let same : (any_output k).0 ≡ x.0 = (Decides-eqb (any_output k).0 x.0).0 (and_second (any_functional k) ((any_output k).0 == x.0) shape) in
    record { below = below; defined = (lt, inl (and_first (any_functional k) ((any_output k).0 == x.0) shape, same_var x (any_output k) same)) }

shaped_fit : (n : ℕ) (k : AnyKind) (x : VarId) → AllBelow n (any_vars k) → x.0 < n → has_shape k x ≡ true → IsFitPosted n (posted_as k (Some x))
shaped_fit n (kinds.Linear l) x below lt shape = equation_fit n l x (place_from 0 x l.terms) refl below lt shape
shaped_fit n (kinds.LinearOutput l) x below lt shape = giver_fit n (kinds.LinearOutput l) x below lt shape
shaped_fit n (kinds.LinearReified l) x below lt shape = giver_fit n (kinds.LinearReified l) x below lt shape
shaped_fit n (kinds.InSet l) x below lt shape = giver_fit n (kinds.InSet l) x below lt shape
shaped_fit n (kinds.BoolClause l) x below lt shape = giver_fit n (kinds.BoolClause l) x below lt shape
shaped_fit n (kinds.BoolClauseReified l) x below lt shape = giver_fit n (kinds.BoolClauseReified l) x below lt shape
shaped_fit n (kinds.And l) x below lt shape = giver_fit n (kinds.And l) x below lt shape
shaped_fit n (kinds.Or l) x below lt shape = giver_fit n (kinds.Or l) x below lt shape
shaped_fit n (kinds.Xor l) x below lt shape = giver_fit n (kinds.Xor l) x below lt shape

solved_none : (k : AnyKind) → solved k None ≡ k
solved_none (kinds.Linear l) = refl
solved_none (kinds.LinearOutput l) = refl
solved_none (kinds.LinearReified l) = refl
solved_none (kinds.InSet l) = refl
solved_none (kinds.BoolClause l) = refl
solved_none (kinds.BoolClauseReified l) = refl
solved_none (kinds.And l) = refl
solved_none (kinds.Or l) = refl
solved_none (kinds.Xor l) = refl

-- a kind is fit with a variable for which it has a functional shape, and with none
pub posted_fit : (n : ℕ) (k : AnyKind) (r : Option VarId) → AllBelow n (any_vars k) → ((x : VarId) → r ≡ Some x → (x.0 < n) × (has_shape k x ≡ true)) → IsFitPosted n (posted_as k r)
posted_fit n k None below h = subst (λ (j : AnyKind). IsFitPosted n (record { kind = j; defines = None })) (sym (solved_none k)) (record { below = below; defined = tt })
posted_fit n k (Some x) below h = let can = h x refl in shaped_fit n k x below can.0 can.1

-- ---- initialisers

abbrev difference : VarId → Arg → SumRelation
difference x e = record { terms = terms_of (pos 1 ∷ negsuc 0 ∷ []) (Var x ∷ e ∷ []); relation = Equal; bound = pos 0 }

first_place : (x : VarId) (e : Arg) → place_from 0 x (difference x e).terms ≡ Some 0
first_place x e = ap (λ b. if b then Some 0 else place_from 1 x (record { coef = negsuc 0; arg = e } ∷ [])) ((Decides-eqb x.0 x.0).1 refl)

first_listed : (x : VarId) (e : Arg) → is_listed x (sum_vars (difference x e)) ≡ true
first_listed x e =
    (each_listed (λ u. is_listed u (sum_vars (difference x e)) ≡ true) (vars_of (difference x e).terms) (all_listed (sum_vars (difference x e)))).0

difference_fit : (n : ℕ) (x : VarId) (e : Arg) → AllBelow n (sum_vars (difference x e)) → x.0 < n → (b : Bool) → can_define (difference x e) 0 ≡ b → IsFitPosted n (initial x e)
difference_fit n x e below lt true can =
    subst (λ (k : AnyKind). IsFitPosted n (record { kind = k; defines = Some x })) (sym (ap (solved_at (difference x e)) (first_place x e) ∙ solved_there (difference x e) 0 can))
    (solution_fit n (difference x e) x 0 below lt (first_place x e) can)
difference_fit n x e below lt false cannot =
    subst (λ (k : AnyKind). IsFitPosted n (record { kind = k; defines = Some x })) (sym (ap (solved_at (difference x e)) (first_place x e) ∙ solved_nowhere (difference x e) 0 cannot))
    (record { below = below; defined = (lt, inr (refl, first_listed x e)) })

-- the equation of a variable and its initialiser is fit, also where the variable is its own initialiser
pub initial_fit : (n : ℕ) (x : VarId) (e : Arg) → x.0 < n → ArgHas (λ u. u.0 < n) e → IsFitPosted n (initial x e)
initial_fit n x e lt have =
    difference_fit n x e (each_sum (λ u. u.0 < n) (pos 1 ∷ negsuc 0 ∷ []) (Var x ∷ e ∷ []) (lt, (have, tt))) lt (can_define (difference x e) 0) refl
