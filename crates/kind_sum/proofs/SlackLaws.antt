-- What changing one term's variable makes of a sum.
use Rattle.std.proofs.Common.{◌≡◌, ℕ, zero, suc, ◌+◌, ◌<◌, ◌≤◌, ◌^◌, Bool, true, false, List, [], ◌∷◌, ◌++◌, length, take, drop, get_or, ℤ, ◌+ℤ◌, ◌-ℤ◌, ◌≤ℤ◌, refl, sym, ◌∙◌, ap, subst, arith, Some, None, Option, is_some, slice_get, add-one}
use Rattle.std.proofs.lemmas.Int.{ints}
use Rattle.std.proofs.lemmas.List.{take-append-drop, drop_more, map-append, get_or-map, length-map}
use Rattle.dom_cells.specs.Box.{kept}
use Rattle.dom_cells.specs.Cell.{IsSane, ends_of}
use Rattle.dom_core.specs.Ends.{Ends, sum_ends, scaled_ends, size_of, replaced_ends}
use Rattle.dom_core.specs.declared.arg.Arg.{Arg}
use Rattle.dom_core.specs.declared.arg.Arg.TheVariants.{Var, Const}
use Rattle.dom_core.specs.declared.literal.Literal.{Literal}
use Rattle.dom_cells.specs.declared.start.Start.{Start}
use Rattle.dom_core.specs.declared.var_id.VarId.{VarId}
use Rattle.dom_cells.proofs.BoxLaws.{cut_at-other, sane-ends}
use Rattle.dom_core.proofs.EndsLaws.{replaced_sum}
use Rattle.kind_law.specs.Laws.{Each, EndsIn, hulls}
use Rattle.kind_law.proofs.EachLaws.{each_map}
use Rattle.kind_sum.specs.InsertLaws.{total-insert, total_same, each-insert}
use Rattle.kind_parts.specs.Vars.{are_distinct, variables_of}
use Rattle.kind_parts.proofs.VarsLaws.{each_append, distinct_all, apart_from_others}
use Rattle.kind_parts.proofs.WalkLaws.{variables-append, read_after}
use Rattle.kind_sum.specs.SumRelation.{SumRelation, sum_vars, SumFits}
use Rattle.kind_law.proofs.ArgumentLaws.{each_listed}
use Rattle.kind_sum.specs.SumLaws.{total_size, total_within}
use Rattle.kind_law.specs.declared.argument.Reading.TheVariants.{Values}
use Rattle.kind_sum.specs.Slack.{HasSingles, IsSlack}
use Rattle.kind_law.specs.Argument.{arg_ends, with_arg}
use Rattle.kind_sum.specs.Sum.{total, magnitude, args_of, vars_of}
use Rattle.kind_sum.specs.declared.term.Term.{Term}

-- ---- a sum with one part replaced

-- the sum over the box with one bound more on the variable
pub kept_total : (k : SumRelation) (c : ℤ) (known : Ends) (b : ℕ → Start) (u : VarId) (l : Literal) → IsSlack k c known b u → l.var ≡ u
    → total k.terms (arg_ends (hulls (kept b l))) ≡ replaced_ends known (scaled_ends c (ends_of (b u.0))) (scaled_ends c (ends_of (kept b l u.0)))
kept_total k c known b u l s e =
    let own : Term = record { coef = c; arg = Var u } in
    let same : total (s.front ++ s.back) (arg_ends (hulls (kept b l))) ≡ total (s.front ++ s.back) (arg_ends (hulls b)) =
    total_same (s.front ++ s.back) (hulls (kept b l)) (hulls b)
    (each_map (λ w. w.0 ≡ u.0 → ⊥) (λ w. hulls (kept b l) w.0 ≡ hulls b w.0) (vars_of (s.front ++ s.back))
    (λ w apart. ap ends_of (cut_at-other w.0 (b w.0) l (λ h. apart (h ∙ ap (λ (v : VarId). v.0) e)))) s.apart) in
    ap (λ (ts : List Term). total ts (arg_ends (hulls (kept b l)))) s.split
    ∙ total-insert s.front s.back own (arg_ends (hulls (kept b l)))
    ∙ ap (sum_ends (scaled_ends c (ends_of (kept b l u.0)))) same
    ∙ replaced_sum (scaled_ends c (ends_of (b u.0))) (scaled_ends c (ends_of (kept b l u.0))) (total (s.front ++ s.back) (arg_ends (hulls b)))
    ∙ ap (λ (t : Ends). replaced_ends t (scaled_ends c (ends_of (b u.0))) (scaled_ends c (ends_of (kept b l u.0))))
    (sym (total-insert s.front s.back own (arg_ends (hulls b))) ∙ sym (ap (λ (ts : List Term). total ts (arg_ends (hulls b))) s.split) ∙ sym s.sum)

pub rest_is : (k : SumRelation) (c : ℤ) (known : Ends) (b : ℕ → Start) (u : VarId) → (s : IsSlack k c known b u)
    → known ≡ sum_ends (scaled_ends c (ends_of (b u.0))) (total (s.front ++ s.back) (arg_ends (hulls b)))
rest_is k c known b u s =
    let own : Term = record { coef = c; arg = Var u } in
    s.sum ∙ ap (λ (ts : List Term). total ts (arg_ends (hulls b))) s.split ∙ total-insert s.front s.back own (arg_ends (hulls b))

-- ---- sums without repeated variables

pub vars_of-append : (xs ys : List Term) → vars_of (xs ++ ys) ≡ vars_of xs ++ vars_of ys
vars_of-append xs ys = ap variables_of (map-append (λ (t : Term). t.arg) xs ys) ∙ variables-append (args_of xs) (args_of ys)

-- the argument at a place is that of the term there
pub arg_here : (ts : List Term) (i : ℕ) (d : Term) (e : Arg) → i < length ts → get_or (args_of ts) i e ≡ (get_or ts i d).arg
arg_here ts i d e lt = get_or-map (λ (t : Term). t.arg) ts i d e lt

pub args_count : (ts : List Term) → length (args_of ts) ≡ length ts
args_count ts = length-map ts (λ (t : Term). t.arg)

pub single_vars : (k : SumRelation) → HasSingles k → sum_vars k ≡ vars_of k.terms
single_vars k h = distinct_all (vars_of k.terms) h

split_here : (k : SumRelation) (i : ℕ) (d : Term) → i < length k.terms → k.terms ≡ take i k.terms ++ get_or k.terms i d ∷ drop (i + 1) k.terms
split_here k i d lt = sym (take-append-drop i k.terms) ∙ ap (λ (ts : List Term). take i k.terms ++ ts) (drop_more k.terms i d lt)

same_arg : (t : Term) (x : Arg) → t.arg ≡ x → t ≡ record { coef = t.coef; arg = x }
same_arg t x e = ap (λ (y : Arg). let u : Term = record { coef = t.coef; arg = y } in u) e

pub vars_here : (k : SumRelation) (i : ℕ) (d : Term) (u : VarId) → i < length k.terms → (get_or k.terms i d).arg ≡ Var u
    → vars_of k.terms ≡ vars_of (take i k.terms) ++ u ∷ vars_of (drop (i + 1) k.terms)
vars_here k i d u lt e =
    ap vars_of (split_here k i d lt) ∙ vars_of-append (take i k.terms) (get_or k.terms i d ∷ drop (i + 1) k.terms)
    ∙ ap (λ (x : Arg). vars_of (take i k.terms) ++ with_arg x (vars_of (drop (i + 1) k.terms))) e

-- one of its terms is the only one with its variable
pub slack_here : (k : SumRelation) (i : ℕ) (d : Term) (u : VarId) (known : Ends) (b : ℕ → Start) → i < length k.terms → (get_or k.terms i d).arg ≡ Var u → HasSingles k
    → known ≡ total k.terms (arg_ends (hulls b)) → SumFits k (hulls b) → IsSlack k (get_or k.terms i d).coef known b u
slack_here k i d u known b lt e single sum fits =
    let apart = apart_from_others (vars_of (take i k.terms)) (vars_of (drop (i + 1) k.terms)) u (subst (λ (vs : List VarId). are_distinct vs ≡ true) (vars_here k i d u lt e) single) in
    record {
      front = take i k.terms;
      back = drop (i + 1) k.terms;
      split = split_here k i d lt ∙ ap (λ (t : Term). take i k.terms ++ t ∷ drop (i + 1) k.terms) (same_arg (get_or k.terms i d) (Var u) e);
      apart = subst (Each (λ w. w.0 ≡ u.0 → ⊥)) (sym (vars_of-append (take i k.terms) (drop (i + 1) k.terms)))
          (each_append (λ w. w.0 ≡ u.0 → ⊥) (vars_of (take i k.terms)) (vars_of (drop (i + 1) k.terms)) apart.0 apart.1);
      sum = sum;
      fits = fits;
    }

-- ---- the variable of a term

pub place_here : (k : SumRelation) (i : ℕ) (d : Term) (u : VarId) → i < length k.terms → (get_or k.terms i d).arg ≡ Var u → HasSingles k
    → slice_get (sum_vars k) (length (vars_of (take i k.terms))) ≡ Some u
place_here k i d u lt e single =
    ap (λ (vs : List VarId). slice_get vs (length (vars_of (take i k.terms)))) (single_vars k single ∙ vars_here k i d u lt e)
    ∙ read_after (vars_of (take i k.terms)) u (vars_of (drop (i + 1) k.terms))

-- ---- the term and the others

-- the one term's variable is one of the relation's
pub own_has : (P : VarId → Type 0) (k : SumRelation) (c : ℤ) (known : Ends) (b : ℕ → Start) (u : VarId) → IsSlack k c known b u → Each P (sum_vars k) → P u
own_has P k c known b u s h =
    (each-insert P s.front s.back (record { coef = c; arg = Var u }) (subst (λ (ts : List Term). Each P (vars_of ts)) s.split (each_listed P (vars_of k.terms) h))).0

others_have : (P : VarId → Type 0) (k : SumRelation) (c : ℤ) (known : Ends) (b : ℕ → Start) (u : VarId) → (s : IsSlack k c known b u) → Each P (sum_vars k)
    → Each P (vars_of (s.front ++ s.back))
others_have P k c known b u s h =
    (each-insert P s.front s.back (record { coef = c; arg = Var u }) (subst (λ (ts : List Term). Each P (vars_of ts)) s.split (each_listed P (vars_of k.terms) h))).1

pub known_size : (k : SumRelation) (c : ℤ) (known : Ends) (b : ℕ → Start) (u : VarId) → IsSlack k c known b u → size_of known ≤ 2 ^ 101
known_size k c known b u s =
    let e : size_of known ≡ size_of (total k.terms (arg_ends (hulls b))) = ap size_of s.sum in
    let h : size_of (total k.terms (arg_ends (hulls b))) ≤ magnitude k.terms (arg_ends (hulls b)) = total_size k.terms (arg_ends (hulls b)) in
    let f : magnitude k.terms (arg_ends (hulls b)) ≤ 2 ^ 101 = s.fits in
    omega arith

less_part : (known own rest : Ends) → known ≡ sum_ends own rest → rest.lo ≤ℤ rest.hi → (known.lo -ℤ own.lo) ≤ℤ (known.hi -ℤ own.hi)
less_part known own rest e h =
    let lo : known.lo ≡ (own.lo +ℤ rest.lo) = ap (λ (x : Ends). x.lo) e in
    let hi : known.hi ≡ (own.hi +ℤ rest.hi) = ap (λ (x : Ends). x.hi) e in
    omega (arith, ints)

pub rest_ordered : (k : SumRelation) (c : ℤ) (known : Ends) (b : ℕ → Start) (u : VarId) → IsSlack k c known b u → Each (λ w. IsSane (b w.0)) (sum_vars k)
    → (known.lo -ℤ (scaled_ends c (ends_of (b u.0))).lo) ≤ℤ (known.hi -ℤ (scaled_ends c (ends_of (b u.0))).hi)
rest_ordered k c known b u s sane =
    less_part known (scaled_ends c (ends_of (b u.0))) (total (s.front ++ s.back) (arg_ends (hulls b))) (rest_is k c known b u s)
    (total_within (s.front ++ s.back) Values (hulls b) (hulls b)
    (each_map (λ w. IsSane (b w.0)) (λ w. EndsIn (hulls b w.0) (hulls b w.0)) (vars_of (s.front ++ s.back))
    (λ w h. record { low = omega (arith, ints); order = sane-ends (b w.0) h; high = omega (arith, ints) })
    (others_have (λ w. IsSane (b w.0)) k c known b u s sane))).order
