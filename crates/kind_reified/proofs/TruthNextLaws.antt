-- Where the ends that a truth implies stand among its variables.
use Rattle.std.proofs.Common.{◌≡◌, ℕ, zero, suc, ◌<◌, Bool, true, false, List, [], ◌∷◌, ◌++◌, length, take, get_or, if◌then◌else◌, refl, sym, ◌∙◌, ap, subst, arith, Some, None, Option, is_some, slice_get}
use Rattle.dom_core.specs.Ends.{Ends}
use Rattle.dom_core.specs.declared.arg.Arg.{Arg}
use Rattle.dom_core.specs.declared.arg.Arg.TheVariants.{Var, Const}
use Rattle.dom_core.specs.declared.literal.Literal.{Literal}
use Rattle.dom_core.specs.declared.var_id.VarId.{VarId}
use Rattle.dom_core.proofs.TestLaws.{not_true}
use Rattle.dom_cells.specs.declared.start.Start.{Start}
use Rattle.dom_cells.specs.Box.{Box, cell_of}
use Rattle.kind_law.specs.Laws.{Each, AllBelow, hulls}
use Rattle.kind_law.specs.Next.{HasNoEnd, IsNext, IsReadable}
use Rattle.kind_law.proofs.EachLaws.{each_at}
use Rattle.kind_law.proofs.NextLaws.{next_found, not_some}
use Rattle.kind_sum.specs.SumRelation.{sum_vars, SumFits}
use Rattle.kind_reified.specs.LinearReified.{LinearReified, reified_range, reified_vars, reified_refuted}
use Rattle.kind_parts.specs.Walk.{IsArgEnd}
use Rattle.kind_law.specs.Function.{have_none}
use Rattle.kind_parts.specs.Relation.{truth_over}
use Rattle.kind_law.specs.Argument.{ArgHas, arg_ends, is_listed, is_new, with_arg, with_new_arg}
use Rattle.kind_sum.specs.Sum.{total, vars_of}
use Rattle.kind_reified.specs.TruthNext.{AreSingle, AreSpans, IsTruthSlack, IsTruthStanding}
use Rattle.kind_sum.specs.declared.term.Term.{Term}
use Rattle.kind_sum.proofs.SlackLaws.{place_here, slack_here}
use Rattle.kind_parts.proofs.WalkLaws.{read_after, taken_before, within_after}
use Rattle.kind_parts.proofs.VarsLaws.{append_none, each_append, seen_apart}

-- ---- lists with more variables at their end

read_before : (xs ys : List VarId) (i : ℕ) (u : VarId) → slice_get xs i ≡ Some u → slice_get (xs ++ ys) i ≡ Some u
read_before [] ys i u e = absurd (cc)
read_before (x ∷ xs) ys zero u e = e
read_before (x ∷ xs) ys (suc i) u e = read_before xs ys i u e

taken_within : (xs ys : List VarId) (i : ℕ) → i < length xs → take i (xs ++ ys) ≡ take i xs
taken_within [] ys i lt = absurd (omega arith)
taken_within (x ∷ xs) ys zero lt = refl
taken_within (x ∷ xs) ys (suc i) lt = ap (λ (zs : List VarId). x ∷ zs) (taken_within xs ys i (omega arith))

longer : (xs ys : List VarId) (i : ℕ) → i < length xs → i < length (xs ++ ys)
longer [] ys i lt = absurd (omega arith)
longer (x ∷ xs) ys zero lt = omega arith
longer (x ∷ xs) ys (suc i) lt = let h : i < length (xs ++ ys) = longer xs ys i (omega arith) in omega arith

-- an end that is the first one stays so
next_before : (refuted : (ℕ → Start) → Bool) (vs ys : List VarId) (b : ℕ → Start) (r : Option Literal) → is_some r ≡ true → IsNext refuted vs b r
    → IsNext refuted (vs ++ ys) b r
next_before refuted vs ys b None some h = absurd (cc)
next_before refuted vs ys b (Some l) some h =
    (h.0, longer vs ys h.0 h.1, read_before vs ys h.0 l.var h.2, subst (Each (HasNoEnd refuted b)) (sym (taken_within vs ys h.0 h.1)) h.3, h.4)

-- where there is none, that of the argument is the first one
next_after : (refuted : (ℕ → Start) → Bool) (vs : List VarId) (x : Arg) (b : ℕ → Start) (end : Option Literal) → Each (HasNoEnd refuted b) vs
    → IsArgEnd refuted b x end → IsNext refuted (vs ++ with_arg x []) b end
next_after refuted vs (Const c) b end none is =
    subst (IsNext refuted (vs ++ []) b) (sym is) (subst (Each (HasNoEnd refuted b)) (sym (append_none vs)) none)
next_after refuted vs (Var u) b None none is = each_append (HasNoEnd refuted b) vs (u ∷ []) none (is, tt)
next_after refuted vs (Var u) b (Some l) none is =
    next_found refuted (vs ++ u ∷ []) b (length vs) u (Some l) refl (read_after vs u []) (within_after vs u [])
    (subst (Each (HasNoEnd refuted b)) (sym (taken_before vs (u ∷ []))) none) is

-- ---- the output after the sum's variables

new_last : (vs : List VarId) (x : Arg) → is_new vs x ≡ true → with_new_arg vs x ≡ vs ++ with_arg x []
new_last vs (Var u) h = ap (λ (b : Bool). if b then vs else vs ++ u ∷ []) (not_true (is_listed u vs) h)
new_last vs (Const c) h = sym (append_none vs)

pub vars_are : (k : LinearReified) → AreSingle k → reified_vars k ≡ sum_vars k.sum ++ with_arg k.output []
vars_are k s = new_last (sum_vars k.sum) k.output s.output

pub term_end_first : (k : LinearReified) (b : ℕ → Start) (r : Option Literal) → AreSingle k → is_some r ≡ true → IsNext (reified_refuted k) (sum_vars k.sum) b r
    → IsNext (reified_refuted k) (reified_vars k) b r
term_end_first k b r s some h =
    subst (λ (vs : List VarId). IsNext (reified_refuted k) vs b r) (sym (vars_are k s)) (next_before (reified_refuted k) (sum_vars k.sum) (with_arg k.output []) b r some h)

pub output_end_last : (k : LinearReified) (b : ℕ → Start) (r end : Option Literal) → AreSingle k → is_some r ≡ false → IsNext (reified_refuted k) (sum_vars k.sum) b r
    → IsArgEnd (reified_refuted k) b k.output end → IsNext (reified_refuted k) (reified_vars k) b end
output_end_last k b r end s none h is =
    subst (λ (vs : List VarId). IsNext (reified_refuted k) vs b end) (sym (vars_are k s))
    (next_after (reified_refuted k) (sum_vars k.sum) k.output b end (subst (IsNext (reified_refuted k) (sum_vars k.sum) b) (not_some r none) h) is)

-- ---- a term's variable

pub term_read : (k : LinearReified) (n i : ℕ) (d : Term) (u : VarId) → AreSingle k → i < length k.sum.terms → (get_or k.sum.terms i d).arg ≡ Var u
    → AllBelow n (reified_vars k) → IsReadable (reified_vars k) n u
term_read k n i d u s lt e h = record {
  below = h;
  place = length (vars_of (take i k.sum.terms));
  reads = ap (λ (vs : List VarId). slice_get vs (length (vars_of (take i k.sum.terms)))) (vars_are k s)
      ∙ read_before (sum_vars k.sum) (with_arg k.output []) (length (vars_of (take i k.sum.terms))) u (place_here k.sum i d u lt e s.sum);
}

new_other : (vs : List VarId) (x : Arg) (i : ℕ) (u : VarId) → is_new vs x ≡ true → slice_get vs i ≡ Some u → ArgHas (λ w. w.0 ≡ u.0 → ⊥) x
new_other vs (Var w) i u h at = λ same. each_at (λ v. v.0 ≡ w.0 → ⊥) vs i u (seen_apart w vs (not_true (is_listed w vs) h)) at (sym same)
new_other vs (Const c) i u h at = tt

-- one of the sum's terms is the only one with its variable, which isn't the output
pub truth_slack_here : (k : LinearReified) (i : ℕ) (d : Term) (u : VarId) (known span : Ends) (b : ℕ → Start) → AreSingle k → i < length k.sum.terms
    → (get_or k.sum.terms i d).arg ≡ Var u → AreSpans k known span b → IsTruthSlack k (get_or k.sum.terms i d).coef known span b u
truth_slack_here k i d u known span b s lt e spans = record {
  slack = slack_here k.sum i d u known b lt e s.sum spans.sum spans.fits;
  output = spans.output;
  other = new_other (sum_vars k.sum) k.output (length (vars_of (take i k.sum.terms))) u s.output (place_here k.sum i d u lt e s.sum);
}

-- ---- what is known of the intervals

-- the truths and the output have nothing in common exactly where the box is refuted
pub spans_answer : (k : LinearReified) (known span truth : Ends) (b : ℕ → Start) → AreSpans k known span b → truth ≡ truth_over k.sum.relation known k.sum.bound
    → have_none truth span ≡ reified_refuted k b
spans_answer k known span truth b s e =
    ap (λ (t : Ends). have_none t span) (e ∙ ap (λ (t : Ends). truth_over k.sum.relation t k.sum.bound) s.sum)
    ∙ ap (have_none (reified_range k (hulls b))) s.output

-- the same truth in other words stands
pub stands_as : (k j : LinearReified) (known span : Ends) (m : Box) → k ≡ j → AreSingle k → AllBelow (length m.starts) (reified_vars j) → AreSpans k known span (cell_of m)
    → reified_refuted k (cell_of m) ≡ false → IsTruthStanding k known span m
stands_as k j known span m e single below spans quiet =
    record { single = single; below = subst (λ (i : LinearReified). AllBelow (length m.starts) (reified_vars i)) (sym e) below; spans = spans; quiet = quiet }

pub spans_of : (k j : LinearReified) (known span : Ends) (m : Box) → k ≡ j → SumFits j.sum (hulls (cell_of m)) → known ≡ total k.sum.terms (arg_ends (hulls (cell_of m)))
    → span ≡ arg_ends (hulls (cell_of m)) k.output → AreSpans k known span (cell_of m)
spans_of k j known span m e fits sum output =
    record { sum = sum; output = output; fits = subst (λ (i : LinearReified). SumFits i.sum (hulls (cell_of m))) (sym e) fits }
