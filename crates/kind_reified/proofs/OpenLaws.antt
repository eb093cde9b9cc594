-- Truths of which the output is open, or which are known: no end of the sum's variables is implied.
use Rattle.std.proofs.Common.{◌≡◌, ℕ, Bool, true, false, ◌||◌, if◌then◌else◌, List, [], ◌++◌, ◌<◌, Option, ℤ, pos, ◌+ℤ◌, ◌-ℤ◌, ◌<ℤ◌, ◌≤ℤ◌, int_le, int_lt, inl, inr, length, refl, sym, ◌∙◌, ap, subst, arith}
use Rattle.std.proofs.lemmas.Int.{ints}
use Rattle.std.specs.Option.{option_to_list}
use Rattle.dom_core.specs.Ends.{Ends}
use Rattle.dom_core.specs.declared.arg.Arg.{Arg}
use Rattle.dom_core.specs.declared.arg.Arg.TheVariants.{Var, Const}
use Rattle.dom_core.specs.declared.literal.Literal.{Literal}
use Rattle.dom_core.specs.declared.var_id.VarId.{VarId}
use Rattle.dom_core.proofs.TestLaws.{le_true, and_first, and_second, not_true, not_both}
use Rattle.dom_core.proofs.EndsLaws.{same_ends}
use Rattle.dom_core.proofs.LiteralLaws.{holds_le, holds_ge}
use Rattle.dom_core.proofs.RisesLaws.{int_eq_same, or_true}
use Rattle.dom_cells.specs.Box.{Box, IsBox, cell_of, kept}
use Rattle.dom_cells.specs.Cell.{IsCell, IsSane, ends_of, lo_of, hi_of}
use Rattle.dom_cells.specs.declared.start.Start.{Start}
use Rattle.dom_cells.proofs.BoxLaws.{cut_at-other, sane-cell}
use Rattle.kind_law.specs.Argument.{ArgHas, arg_ends, is_listed, is_new}
use Rattle.kind_law.specs.Function.{have_none}
use Rattle.kind_law.specs.Laws.{Each, AllBelow, AllSane, EndsIn, hulls}
use Rattle.kind_law.specs.Next.{below, above, HasNoEnd, IsBound}
use Rattle.kind_law.specs.Visit.{AllImplied, AreEnds}
use Rattle.kind_law.proofs.ArgumentLaws.{each_listed, each_new_arg, unlisted_apart}
use Rattle.kind_law.proofs.BoundLaws.{box-sane, kept-smaller, smaller-within}
use Rattle.kind_law.proofs.EachLaws.{each_all, each_both, each_map}
use Rattle.kind_sum.specs.SumRelation.{sum_vars}
use Rattle.kind_reified.specs.LinearReified.{LinearReified, reified_range, reified_refuted, reified_vars}
use Rattle.kind_parts.specs.Relation.{truth_ends}
use Rattle.kind_parts.specs.Relation.{certain_by, refuted_by, truth_over}
use Rattle.kind_sum.specs.InsertLaws.{total_same}
use Rattle.kind_sum.specs.Sum.{total, vars_of}
use Rattle.kind_parts.specs.Walk.{IsArgEnd}
use Rattle.kind_reified.specs.LinearReifiedLaws.{reified-monotone}
use Rattle.kind_reified.specs.TruthNext.{AreSingle, IsTruthOf, IsTruthStanding, is_idle, is_known, is_open}
use Rattle.kind_parts.proofs.WalkLaws.{arg_more}
use Rattle.kind_reified.proofs.TruthNextLaws.{vars_are}

less_below : (a v : ℤ) → a <ℤ v → a ≤ℤ (v -ℤ pos 1)
less_below a v h = omega (arith, ints)

more_above : (v a : ℤ) → v <ℤ a → (v +ℤ pos 1) ≤ℤ a
more_above v a h = omega (arith, ints)

not_less : (a b : ℤ) → b ≤ℤ a → int_lt a b ≡ false
not_less a b h = grind (arith, ints)

neither_true : (a b : Bool) → a ≡ false → b ≡ false → (a || b) ≡ false
neither_true a b e f = ap (λ (t : Bool). t || b) e ∙ f

-- an interval that reaches from 0 to 1 has every truth
open_meets : (certain refuted : Bool) (e : Ends) → is_open e ≡ true → have_none (truth_ends certain refuted) e ≡ false
open_meets certain refuted e h =
    let lo : e.lo ≤ℤ pos 0 = le_true e.lo (pos 0) (and_first (int_le e.lo (pos 0)) (int_le (pos 1) e.hi) h) in
    let hi : pos 1 ≤ℤ e.hi = le_true (pos 1) e.hi (and_second (int_le e.lo (pos 0)) (int_le (pos 1) e.hi) h) in
    let zero : int_lt (pos 0) e.lo ≡ false = not_less (pos 0) e.lo lo in
    let one : int_lt (pos 1) e.lo ≡ false = not_less (pos 1) e.lo (omega (arith, ints)) in
    let below_zero : int_lt e.hi (pos 0) ≡ false = not_less e.hi (pos 0) (omega (arith, ints)) in
    let below_one : int_lt e.hi (pos 1) ≡ false = not_less e.hi (pos 1) hi in
    neither_true (int_lt (if refuted then pos 0 else pos 1) e.lo) (int_lt e.hi (if certain then pos 1 else pos 0))
    (elim refuted as (λ r. int_lt (if r then pos 0 else pos 1) e.lo ≡ false) [ true ↦ zero | false ↦ one ])
    (elim certain as (λ c. int_lt e.hi (if c then pos 1 else pos 0) ≡ false) [ true ↦ below_one | false ↦ below_zero ])

-- the interval of another variable, or of a constant, is the same over the box with the bound
pub same_output : (b : ℕ → Start) (l : Literal) (x : Arg) → ArgHas (λ w. w.0 ≡ l.var.0 → ⊥) x → arg_ends (hulls (kept b l)) x ≡ arg_ends (hulls b) x
same_output b l (Var w) h = ap ends_of (cut_at-other w.0 (b w.0) l h)
same_output b l (Const c) h = refl

-- no bound on another variable refutes it
open_stands : (k : LinearReified) (b : ℕ → Start) (l : Literal) → ArgHas (λ w. w.0 ≡ l.var.0 → ⊥) k.output → is_open (arg_ends (hulls b) k.output) ≡ true
    → reified_refuted k (kept b l) ≡ false
open_stands k b l other h =
    ap (have_none (reified_range k (hulls (kept b l)))) (same_output b l k.output other)
    ∙ open_meets (certain_by k.sum.relation (total k.sum.terms (arg_ends (hulls (kept b l)))) k.sum.bound) (refuted_by k.sum.relation (total k.sum.terms (arg_ends (hulls (kept b l)))) k.sum.bound)
    (arg_ends (hulls b) k.output) h

var_none : (k : LinearReified) (b : ℕ → Start) (u : VarId) → ArgHas (λ w. w.0 ≡ u.0 → ⊥) k.output → is_open (arg_ends (hulls b) k.output) ≡ true → HasNoEnd (reified_refuted k) b u
var_none k b u other h = record {
  low = λ v e. not_both (reified_refuted k (kept b (below u v))) e.refutes (open_stands k b (below u v) other h);
  high = λ v e. not_both (reified_refuted k (kept b (above u v))) e.refutes (open_stands k b (above u v) other h);
}

others : (vars : List VarId) (x : Arg) → is_new vars x ≡ true → Each (λ u. ArgHas (λ w. w.0 ≡ u.0 → ⊥) x) vars
others vars (Var w) h = each_map (λ u. u.0 ≡ w.0 → ⊥) (λ u. w.0 ≡ u.0 → ⊥) vars (λ u f e. f (sym e)) (unlisted_apart w vars (not_true (is_listed w vars) h))
others vars (Const c) h = each_all (λ u. Unit {0}) vars (λ u. tt)

-- ---- truths that are known

known_same : (small large : Ends) → EndsIn small large → is_known large ≡ true → small ≡ large
known_same small large e h =
    let one : large.lo ≡ large.hi = int_eq_same large.lo large.hi h in
    let low : large.lo ≤ℤ small.lo = e.low in
    let order : small.lo ≤ℤ small.hi = e.order in
    let high : small.hi ≤ℤ large.hi = e.high in
    same_ends small large (omega (arith, ints)) (omega (arith, ints))

-- a bound leaves a truth that is known as it is
range_known : (k : LinearReified) (b : ℕ → Start) (n : ℕ) (l : Literal) → IsBound (sum_vars k.sum) n b l → AllSane b (sum_vars k.sum) → is_known (reified_range k (hulls b)) ≡ true
    → reified_range k (hulls (kept b l)) ≡ reified_range k (hulls b)
range_known k b n l bound sane known =
    known_same (reified_range k (hulls (kept b l))) (reified_range k (hulls b))
    (reified-monotone k (hulls (kept b l)) (hulls b)
    (smaller-within (λ v. false) (sum_vars k.sum) (kept b l) b (kept-smaller (λ v. false) b (sum_vars k.sum) n l bound sane))) known

known_stands : (k : LinearReified) (b : ℕ → Start) (n : ℕ) (l : Literal) → IsBound (sum_vars k.sum) n b l → AllSane b (sum_vars k.sum) → ArgHas (λ w. w.0 ≡ l.var.0 → ⊥) k.output
    → is_known (reified_range k (hulls b)) ≡ true → reified_refuted k b ≡ false → reified_refuted k (kept b l) ≡ false
known_stands k b n l bound sane other known stands =
    ap (have_none (reified_range k (hulls (kept b l)))) (same_output b l k.output other)
    ∙ ap (λ (e : Ends). have_none e (arg_ends (hulls b) k.output)) (range_known k b n l bound sane known) ∙ stands

known_var : (k : LinearReified) (b : ℕ → Start) (n : ℕ) (u : VarId) → AllBelow n (sum_vars k.sum) → AllSane b (sum_vars k.sum) → IsSane (b u.0)
    → ArgHas (λ w. w.0 ≡ u.0 → ⊥) k.output → is_known (reified_range k (hulls b)) ≡ true → reified_refuted k b ≡ false → HasNoEnd (reified_refuted k) b u
known_var k b n u below_all sane here other known stands =
    let cell : IsCell (b u.0) = sane-cell (b u.0) here in
    record {
      low = λ v e. not_both (reified_refuted k (kept b (below u v))) e.refutes
          (known_stands k b n (below u v) (record { below = below_all; end_is = refl; value = lo_of (b u.0); has = cell.least; holds = holds_le (below u v) (lo_of (b u.0)) refl (less_below (lo_of (b u.0)) v e.low) })
          sane other known stands);
      high = λ v e. not_both (reified_refuted k (kept b (above u v))) e.refutes
          (known_stands k b n (above u v) (record { below = below_all; end_is = refl; value = hi_of (b u.0); has = cell.greatest; holds = holds_ge (above u v) (hi_of (b u.0)) refl (more_above v (hi_of (b u.0)) e.high) })
          sane other known stands);
    }

known_none : (k : LinearReified) (b : ℕ → Start) (n : ℕ) → is_new (sum_vars k.sum) k.output ≡ true → AllBelow n (sum_vars k.sum) → AllSane b (sum_vars k.sum)
    → is_known (reified_range k (hulls b)) ≡ true → reified_refuted k b ≡ false → Each (HasNoEnd (reified_refuted k) b) (sum_vars k.sum)
known_none k b n new below_all sane known stands =
    each_both (λ u. IsSane (b u.0)) (λ u. ArgHas (λ w. w.0 ≡ u.0 → ⊥) k.output) (HasNoEnd (reified_refuted k) b) (sum_vars k.sum)
    (λ u here other. known_var k b n u below_all sane here other known stands) sane (others (sum_vars k.sum) k.output new)

-- ---- no bound on a variable of the sum refutes it

open_none : (k : LinearReified) (b : ℕ → Start) → is_new (sum_vars k.sum) k.output ≡ true → is_open (arg_ends (hulls b) k.output) ≡ true
    → Each (HasNoEnd (reified_refuted k) b) (sum_vars k.sum)
open_none k b new h =
    each_map (λ u. ArgHas (λ w. w.0 ≡ u.0 → ⊥) k.output) (HasNoEnd (reified_refuted k) b) (sum_vars k.sum)
    (λ u other. var_none k b u other h) (others (sum_vars k.sum) k.output new)

pub idle_none : (k : LinearReified) (known span : Ends) (m : Box) → IsTruthStanding k known span m → IsBox m → is_idle k.sum known span ≡ true
    → Each (HasNoEnd (reified_refuted k) (cell_of m)) (sum_vars k.sum)
idle_none k known span m s sound h =
    let below_all : AllBelow (length m.starts) (sum_vars k.sum) = (each_new_arg (λ u. u.0 < length m.starts) (sum_vars k.sum) k.output s.below).0 in
    elim (or_true (is_open span) (is_known (truth_over k.sum.relation known k.sum.bound)) h) [
      | inl wide ↦ open_none k (cell_of m) s.single.output (subst (λ (e : Ends). is_open e ≡ true) s.spans.output wide)
      | inr one ↦ known_none k (cell_of m) (length m.starts) s.single.output below_all (box-sane m (sum_vars k.sum) sound below_all)
          (subst (λ (e : Ends). is_known (truth_over k.sum.relation e k.sum.bound) ≡ true) s.spans.sum one) s.quiet
    ]

pub idle_ends : (k : LinearReified) (known span : Ends) (m : Box) (ls : List Literal) → IsTruthStanding k known span m → IsBox m → is_idle k.sum known span ≡ true
    → ls ≡ [] → AreEnds (reified_refuted k) (sum_vars k.sum) (cell_of m) (length m.starts) ls
idle_ends k known span m ls s sound h empty = record {
  implied = subst (AllImplied (reified_refuted k) (cell_of m) (length m.starts)) (sym empty) tt;
  none = λ _. idle_none k known span m s sound h;
}

-- ---- the output

-- a bound on the output leaves the truths of the sum as they are
range_same : (k : LinearReified) (b : ℕ → Start) (l : Literal) → is_new (sum_vars k.sum) (Var l.var) ≡ true → reified_range k (hulls (kept b l)) ≡ reified_range k (hulls b)
range_same k b l new =
    ap (λ (e : Ends). truth_over k.sum.relation e k.sum.bound)
    (total_same k.sum.terms (hulls (kept b l)) (hulls b)
    (each_listed (λ w. hulls (kept b l) w.0 ≡ hulls b w.0) (vars_of k.sum.terms)
    (each_map (λ w. w.0 ≡ l.var.0 → ⊥) (λ w. hulls (kept b l) w.0 ≡ hulls b w.0) (sum_vars k.sum)
    (λ w apart. ap ends_of (cut_at-other w.0 (b w.0) l apart)) (unlisted_apart l.var (sum_vars k.sum) (not_true (is_listed l.var (sum_vars k.sum)) new)))))

pub output_answer : (k : LinearReified) (truth : Ends) (b : ℕ → Start) (l : Literal) → IsTruthOf k truth b l.var
    → have_none truth (arg_ends (hulls (kept b l)) k.output) ≡ reified_refuted k (kept b l)
output_answer k truth b l s =
    ap (λ (e : Ends). have_none e (arg_ends (hulls (kept b l)) k.output))
    (s.range ∙ sym (range_same k b l (subst (λ (x : Arg). is_new (sum_vars k.sum) x ≡ true) s.output s.other)))

-- the ends of the sum's variables, and that of the output after them
pub ends_with_output : (k : LinearReified) (b : ℕ → Start) (n : ℕ) (ls : List Literal) (r : Option Literal) → AreSingle k → AllBelow n (reified_vars k) → AllSane b (reified_vars k)
    → AreEnds (reified_refuted k) (sum_vars k.sum) b n ls → IsArgEnd (reified_refuted k) b k.output r → AreEnds (reified_refuted k) (reified_vars k) b n (ls ++ option_to_list r)
ends_with_output k b n ls r s below sane h e =
    subst (λ (vs : List VarId). AreEnds (reified_refuted k) vs b n (ls ++ option_to_list r)) (sym (vars_are k s))
    (arg_more (reified_refuted k) (sum_vars k.sum) b n k.output ls r h
    (each_new_arg (λ u. u.0 < n) (sum_vars k.sum) k.output below).1
    (each_new_arg (λ u. IsSane (b u.0)) (sum_vars k.sum) k.output sane).1 e)
