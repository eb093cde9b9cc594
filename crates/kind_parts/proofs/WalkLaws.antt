-- The ends of arguments that are taken in turn.
use Rattle.std.proofs.Common.{◌≡◌, ℕ, zero, suc, ◌+◌, ◌<◌, ◌≤◌, Bool, true, false, List, [], ◌∷◌, ◌++◌, length, take, drop, get_or, Option, Some, None, is_some, slice_get, refl, sym, ◌∙◌, ap, subst, arith, add-one}
use Rattle.std.proofs.lemmas.List.{take-append-drop, drop_more}
use Rattle.std.specs.Option.{option_to_list}
use Rattle.dom_cells.specs.Cell.{IsSane}
use Rattle.dom_cells.specs.declared.start.Start.{Start}
use Rattle.dom_core.specs.declared.arg.Arg.{Arg}
use Rattle.dom_core.specs.declared.arg.Arg.TheVariants.{Var, Const}
use Rattle.dom_core.specs.declared.literal.Literal.{Literal}
use Rattle.dom_core.specs.declared.var_id.VarId.{VarId}
use Rattle.kind_law.specs.Argument.{ArgHas, with_arg, distinct}
use Rattle.kind_law.specs.Laws.{Each}
use Rattle.kind_law.specs.Next.{HasNoEnd, IsNext}
use Rattle.kind_law.specs.Visit.{AreEnds}
use Rattle.kind_law.proofs.ArgumentLaws.{split_arg}
use Rattle.kind_law.proofs.NextLaws.{next_found, not_some}
use Rattle.kind_law.proofs.VisitLaws.{ends_push, ends_same, append_nothing}
use Rattle.kind_parts.specs.Vars.{variables_of, are_distinct}
use Rattle.kind_parts.specs.Walk.{IsArgEnd}
use Rattle.kind_parts.proofs.VarsLaws.{append_none, each_append, distinct_all}

-- ---- the variables before, at and after a place

with_append : (x : Arg) (xs ys : List VarId) → with_arg x xs ++ ys ≡ with_arg x (xs ++ ys)
with_append (Var u) xs ys = refl
with_append (Const c) xs ys = refl

pub variables-append : (xs ys : List Arg) → variables_of (xs ++ ys) ≡ variables_of xs ++ variables_of ys
variables-append [] ys = refl
variables-append (x ∷ xs) ys = ap (with_arg x) (variables-append xs ys) ∙ sym (with_append x (variables_of xs) (variables_of ys))

split_here : (xs : List Arg) (i : ℕ) (d : Arg) → i < length xs → xs ≡ take i xs ++ get_or xs i d ∷ drop (i + 1) xs
split_here xs i d lt = sym (take-append-drop i xs) ∙ ap (λ (ys : List Arg). take i xs ++ ys) (drop_more xs i d lt)

pub variables_here : (xs : List Arg) (i : ℕ) (d : Arg) (u : VarId) → i < length xs → get_or xs i d ≡ Var u
    → variables_of xs ≡ variables_of (take i xs) ++ u ∷ variables_of (drop (i + 1) xs)
variables_here xs i d u lt e =
    ap variables_of (split_here xs i d lt) ∙ variables-append (take i xs) (get_or xs i d ∷ drop (i + 1) xs)
    ∙ ap (λ (x : Arg). variables_of (take i xs) ++ with_arg x (variables_of (drop (i + 1) xs))) e

pub read_after : (vs : List VarId) (u : VarId) (ws : List VarId) → slice_get (vs ++ u ∷ ws) (length vs) ≡ Some u
read_after [] u ws = refl
read_after (v ∷ vs) u ws = read_after vs u ws

pub within_after : (vs : List VarId) (u : VarId) (ws : List VarId) → length vs < length (vs ++ u ∷ ws)
within_after [] u ws = omega arith
within_after (v ∷ vs) u ws = let h : length vs < length (vs ++ u ∷ ws) = within_after vs u ws in omega arith

pub taken_before : (vs ws : List VarId) → take (length vs) (vs ++ ws) ≡ vs
taken_before [] ws = refl
taken_before (v ∷ vs) ws = ap (λ (us : List VarId). v ∷ us) (taken_before vs ws)

taken_next : (xs : List Arg) (i : ℕ) (d : Arg) → i < length xs → take (suc i) xs ≡ take i xs ++ get_or xs i d ∷ []
taken_next [] i d lt = absurd (omega arith)
taken_next (x ∷ xs) zero d lt = refl
taken_next (x ∷ xs) (suc i) d lt = ap (λ (ys : List Arg). x ∷ ys) (taken_next xs i d (omega arith))

-- the variables up to the next place
pub variables_next : (xs : List Arg) (i : ℕ) (d : Arg) → i < length xs → variables_of (take (i + 1) xs) ≡ variables_of (take i xs) ++ with_arg (get_or xs i d) []
variables_next xs i d lt = rw (add-one) (ap variables_of (taken_next xs i d lt) ∙ variables-append (take i xs) (get_or xs i d ∷ []))

take_all_of : (xs : List Arg) (i : ℕ) → length xs ≤ i → take i xs ≡ xs
take_all_of [] zero h = refl
take_all_of [] (suc i) h = refl
take_all_of (x ∷ xs) zero h = absurd (omega arith)
take_all_of (x ∷ xs) (suc i) h = ap (λ (ys : List Arg). x ∷ ys) (take_all_of xs i (omega arith))

pub all_taken : (xs : List Arg) (i : ℕ) → length xs ≤ i → are_distinct (variables_of xs) ≡ true → variables_of (take i xs) ≡ distinct (variables_of xs)
all_taken xs i h single = ap variables_of (take_all_of xs i h) ∙ sym (distinct_all (variables_of xs) single)

-- the ends with that of one argument more
pub arg_more : (refuted : (ℕ → Start) → Bool) (vs : List VarId) (b : ℕ → Start) (n : ℕ) (x : Arg) (ls : List Literal) (r : Option Literal) → AreEnds refuted vs b n ls
    → ArgHas (λ u. u.0 < n) x → ArgHas (λ u. IsSane (b u.0)) x → IsArgEnd refuted b x r → AreEnds refuted (vs ++ with_arg x []) b n (ls ++ option_to_list r)
arg_more refuted vs b n (Var u) ls r h lt s e = ends_push refuted vs b n u ls r h lt s e
arg_more refuted vs b n (Const c) ls r h lt s e =
    subst (λ (q : Option Literal). AreEnds refuted (vs ++ []) b n (ls ++ option_to_list q)) (sym e)
    (subst (λ (ks : List Literal). AreEnds refuted (vs ++ []) b n ks) (sym (append_nothing ls)) (ends_same refuted (vs ++ []) vs b n ls (sym (append_none vs)) h))

module _ (refuted : (ℕ → Start) → Bool) (xs : List Arg) (b : ℕ → Start) (i : ℕ) where
  -- ---- the first end

  found_at : (d x : Arg) (r : Option Literal) → i < length xs → get_or xs i d ≡ x → are_distinct (variables_of xs) ≡ true → is_some r ≡ true
      → Each (HasNoEnd refuted b) (variables_of (take i xs)) → IsArgEnd refuted b x r → IsNext refuted (distinct (variables_of xs)) b r
  found_at d (Var u) r lt e single some none end =
      let vars : distinct (variables_of xs) ≡ variables_of (take i xs) ++ u ∷ variables_of (drop (i + 1) xs) =
      distinct_all (variables_of xs) single ∙ variables_here xs i d u lt e in
      next_found refuted (distinct (variables_of xs)) b (length (variables_of (take i xs))) u r some
      (ap (λ (vs : List VarId). slice_get vs (length (variables_of (take i xs)))) vars ∙ read_after (variables_of (take i xs)) u (variables_of (drop (i + 1) xs)))
      (subst (λ (vs : List VarId). length (variables_of (take i xs)) < length vs) (sym vars) (within_after (variables_of (take i xs)) u (variables_of (drop (i + 1) xs))))
      (subst (λ (vs : List VarId). Each (HasNoEnd refuted b) (take (length (variables_of (take i xs))) vs)) (sym vars)
      (subst (Each (HasNoEnd refuted b)) (sym (taken_before (variables_of (take i xs)) (u ∷ variables_of (drop (i + 1) xs)))) none)) end
  found_at d (Const v) None lt e single some none end = absurd (cc)
  found_at d (Const v) (Some l) lt e single some none end = absurd (cc)

  pub found_here : (d : Arg) (r : Option Literal) → i < length xs → are_distinct (variables_of xs) ≡ true → is_some r ≡ true
      → Each (HasNoEnd refuted b) (variables_of (take i xs)) → IsArgEnd refuted b (get_or xs i d) r → IsNext refuted (distinct (variables_of xs)) b r
  found_here d r lt single some none end = found_at d (get_or xs i d) r lt refl single some none end

  none_at : (x : Arg) → IsArgEnd refuted b x None → Each (HasNoEnd refuted b) (variables_of (take i xs))
      → Each (HasNoEnd refuted b) (variables_of (take i xs) ++ with_arg x [])
  none_at (Var u) end none = each_append (HasNoEnd refuted b) (variables_of (take i xs)) (u ∷ []) none (end, tt)
  none_at (Const c) end none = subst (Each (HasNoEnd refuted b)) (sym (append_none (variables_of (take i xs)))) none

  pub none_here : (d : Arg) (r : Option Literal) → i < length xs → is_some r ≡ false → Each (HasNoEnd refuted b) (variables_of (take i xs))
      → IsArgEnd refuted b (get_or xs i d) r → Each (HasNoEnd refuted b) (variables_of (take (i + 1) xs))
  none_here d r lt none before end =
      subst (Each (HasNoEnd refuted b)) (sym (variables_next xs i d lt))
      (none_at (get_or xs i d) (subst (IsArgEnd refuted b (get_or xs i d)) (not_some r none) end) before)

  pub none_at_all : length xs ≤ i → are_distinct (variables_of xs) ≡ true → Each (HasNoEnd refuted b) (variables_of (take i xs))
      → IsNext refuted (distinct (variables_of xs)) b None
  none_at_all h single none = subst (Each (HasNoEnd refuted b)) (all_taken xs i h single) none

  -- ---- all ends

  pub ends_here : (n : ℕ) (d : Arg) (ls : List Literal) (r : Option Literal) → i < length xs → AreEnds refuted (variables_of (take i xs)) b n ls
      → ArgHas (λ u. u.0 < n) (get_or xs i d) → ArgHas (λ u. IsSane (b u.0)) (get_or xs i d) → IsArgEnd refuted b (get_or xs i d) r
      → AreEnds refuted (variables_of (take (i + 1) xs)) b n (ls ++ option_to_list r)
  ends_here n d ls r lt h below sane e =
      ends_same refuted (variables_of (take (i + 1) xs)) (variables_of (take i xs) ++ with_arg (get_or xs i d) []) b n (ls ++ option_to_list r)
      (sym (variables_next xs i d lt)) (arg_more refuted (variables_of (take i xs)) b n (get_or xs i d) ls r h below sane e)

  pub ends_done : (n : ℕ) (ls : List Literal) → length xs ≤ i → are_distinct (variables_of xs) ≡ true → AreEnds refuted (variables_of (take i xs)) b n ls
      → AreEnds refuted (distinct (variables_of xs)) b n ls
  ends_done n ls h single e = ends_same refuted (distinct (variables_of xs)) (variables_of (take i xs)) b n ls (all_taken xs i h single) e

-- ---- what holds of all variables holds of each argument

pub at_place : (P : VarId → Type 0) (xs : List Arg) (i : ℕ) (d : Arg) → i < length xs → Each P (variables_of xs) → ArgHas P (get_or xs i d)
at_place P [] i d lt h = absurd (omega arith)
at_place P (x ∷ xs) zero d lt h = (split_arg P x (variables_of xs) h).0
at_place P (x ∷ xs) (suc i) d lt h = at_place P xs i d (omega arith) (split_arg P x (variables_of xs) h).1
