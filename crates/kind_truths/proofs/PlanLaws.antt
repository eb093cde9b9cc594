-- Which ends a connective can imply, by what its operands and its output tell.
use Rattle.std.proofs.Common.{◌≡◌, ℕ, zero, suc, ◌+◌, ◌<◌, ◌≤◌, Bool, true, false, not, ◌&&◌, ◌||◌, if◌then◌else◌, List, [], ◌∷◌, ◌++◌, length, take, drop, get_or, ℤ, pos, ◌<ℤ◌, ◌≤ℤ◌, int_lt, refl, sym, ◌∙◌, ap, subst, arith, ◌⊎◌, inl, inr, add-one, ◌==◌, Option, Some, None, slice_get}
use Rattle.std.proofs.lemmas.Int.{ints}
use Rattle.std.proofs.lemmas.Bool.Decides.{Decides-eqb}
use Rattle.std.specs.List.{list_any, list_all}
use Rattle.dom_core.specs.Ends.{Ends}
use Rattle.dom_core.specs.declared.arg.Arg.{Arg}
use Rattle.dom_core.specs.declared.arg.Arg.TheVariants.{Var, Const}
use Rattle.dom_core.specs.declared.literal.Literal.{Literal}
use Rattle.dom_core.specs.declared.var_id.VarId.{VarId}
use Rattle.dom_core.proofs.ProductLaws.{lt_true, lt_false}
use Rattle.dom_core.proofs.RisesLaws.{or_true, or_left, or_right}
use Rattle.dom_core.proofs.TestLaws.{le_true, le_false, true_lt, neither, not_both, and_both}
use Rattle.dom_cells.specs.Box.{Box, cell_of, kept}
use Rattle.dom_cells.specs.Cell.{lo_of, hi_of, ends_of}
use Rattle.dom_cells.specs.declared.start.Start.{Start}
use Rattle.dom_cells.proofs.BoxLaws.{cut_at-other}
use Rattle.kind_law.specs.Argument.{ArgHas, arg_ends, with_arg, with_new, with_new_arg, collected, distinct, is_listed, is_new}
use Rattle.kind_law.specs.Function.{have_none}
use Rattle.kind_law.specs.Laws.{Each, AllBelow, hulls}
use Rattle.kind_law.specs.Next.{HasNoEnd, IsReadable, below, above}
use Rattle.kind_law.specs.Visit.{AreEnds, IsBatch, IsQuiet, cut_box}
use Rattle.kind_law.proofs.ArgumentLaws.{split_arg, each-new, each_distinct, each_new_arg, all_listed, listed, listed_end, same_var, join_arg}
use Rattle.kind_parts.specs.Vars.{variables_of, are_distinct, are_new}
use Rattle.kind_parts.specs.Walk.{IsArgEnd}
use Rattle.kind_parts.proofs.VarsLaws.{apart_from_others}
use Rattle.kind_parts.proofs.WalkLaws.{variables_here, variables-append, at_place}
use Rattle.kind_truths.specs.Operand.{is_certain, operand_certain, operand_refuted, arguments_of}
use Rattle.kind_truths.specs.Connective.{Connective, truths_of, connective_inputs, connective_vars, connective_range, connective_refuted, all_arguments, AreSingle}
use Rattle.kind_truths.specs.Plan.{IsFirstLeft, IsAnswered, IsToldBy, IsStill, IsOpen, IsSole, IsEvery, both, AsksTrue, AsksFalse}
use Rattle.kind_truths.specs.declared.operand.Operand.{Operand}
use Rattle.kind_truths.specs.declared.probe.Test.TheVariants.{Certain, Apart}
use Rattle.kind_truths.proofs.PlaceLaws.{none, place_has, all_but, any_but, not_all, none_at, all_places, same_any, same_all}

-- ---- truths and an output that is decided, or open

not_less : (x y : ℤ) → y ≤ℤ x → int_lt x y ≡ false
not_less x y h = grind (arith, ints)

between : (t e : Ends) → t.lo ≤ℤ e.hi → e.lo ≤ℤ t.hi → have_none t e ≡ false
between t e low high = ap (λ (b : Bool). b || int_lt e.hi t.lo) (not_less t.hi e.lo high) ∙ not_less e.hi t.lo low

low_truth : (f c r : Bool) → (pos 0 ≤ℤ (truths_of f c r).lo) × ((truths_of f c r).lo ≤ℤ pos 1)
low_truth false false r = (omega (arith, ints), omega (arith, ints))
low_truth false true r = (omega (arith, ints), omega (arith, ints))
low_truth true c false = (omega (arith, ints), omega (arith, ints))
low_truth true c true = (omega (arith, ints), omega (arith, ints))

high_truth : (f c r : Bool) → (pos 0 ≤ℤ (truths_of f c r).hi) × ((truths_of f c r).hi ≤ℤ pos 1)
high_truth false c false = (omega (arith, ints), omega (arith, ints))
high_truth false c true = (omega (arith, ints), omega (arith, ints))
high_truth true false r = (omega (arith, ints), omega (arith, ints))
high_truth true true r = (omega (arith, ints), omega (arith, ints))

-- an output that can't be a truth refutes whatever the operands are
pub beyond_refutes : (f c r : Bool) (e : Ends) → have_none both e ≡ true → have_none (truths_of f c r) e ≡ true
beyond_refutes f c r e h =
    let l = low_truth f c r in
    let g = high_truth f c r in
    let least : pos 0 ≤ℤ (truths_of f c r).lo = l.0 in
    let most : (truths_of f c r).hi ≤ℤ pos 1 = g.1 in
    elim (or_true (int_lt (pos 1) e.lo) (int_lt e.hi (pos 0)) h) [
      | inl over ↦ (let o : pos 1 <ℤ e.lo = lt_true (pos 1) e.lo over in
          or_left (int_lt (truths_of f c r).hi e.lo) (int_lt e.hi (truths_of f c r).lo) (true_lt (truths_of f c r).hi e.lo (omega (arith, ints))))
      | inr under ↦ (let u : e.hi <ℤ pos 0 = lt_true e.hi (pos 0) under in
          or_right (int_lt (truths_of f c r).hi e.lo) (int_lt e.hi (truths_of f c r).lo) (true_lt e.hi (truths_of f c r).lo (omega (arith, ints))))
    ]

-- an output that may be either truth refutes nothing
pub none_open : (f c r : Bool) (e : Ends) → is_certain false e ≡ false → is_certain true e ≡ false → have_none (truths_of f c r) e ≡ false
none_open f c r e low high =
    let l = low_truth f c r in
    let g = high_truth f c r in
    let most : (truths_of f c r).lo ≤ℤ pos 1 = l.1 in
    let least : pos 0 ≤ℤ (truths_of f c r).hi = g.0 in
    let under : e.lo <ℤ pos 1 = le_false (pos 1) e.lo low in
    let over : pos 0 <ℤ e.hi = le_false e.hi (pos 0) high in
    between (truths_of f c r) e (omega (arith, ints)) (omega (arith, ints))

-- where the output asks for a true disjunction, it is refuted exactly where all operands are
pub none_true : (f c r : Bool) (e : Ends) → e.lo ≤ℤ e.hi → is_certain f e ≡ true → have_none both e ≡ false → have_none (truths_of f c r) e ≡ r
none_true false c true e order h in_reach =
    let one : pos 1 ≤ℤ e.lo = le_true (pos 1) e.lo h in
    or_left (int_lt (pos 0) e.lo) (int_lt e.hi (truths_of false c true).lo) (true_lt (pos 0) e.lo (omega (arith, ints)))
none_true false c false e order h in_reach =
    let one : pos 1 ≤ℤ e.lo = le_true (pos 1) e.lo h in
    let reach : e.lo ≤ℤ pos 1 = lt_false (pos 1) e.lo (neither (int_lt (pos 1) e.lo) (int_lt e.hi (pos 0)) in_reach).0 in
    let l = low_truth false c false in
    let most : (truths_of false c false).lo ≤ℤ pos 1 = l.1 in
    between (truths_of false c false) e (omega (arith, ints)) (omega (arith, ints))
none_true true c true e order h in_reach =
    let no_one : e.hi ≤ℤ pos 0 = le_true e.hi (pos 0) h in
    or_right (int_lt (truths_of true c true).hi e.lo) (int_lt e.hi (pos 1)) (true_lt e.hi (pos 1) (omega (arith, ints)))
none_true true c false e order h in_reach =
    let no_one : e.hi ≤ℤ pos 0 = le_true e.hi (pos 0) h in
    let reach : pos 0 ≤ℤ e.hi = lt_false e.hi (pos 0) (neither (int_lt (pos 1) e.lo) (int_lt e.hi (pos 0)) in_reach).1 in
    let g = high_truth true c false in
    let least : pos 0 ≤ℤ (truths_of true c false).hi = g.0 in
    between (truths_of true c false) e (omega (arith, ints)) (omega (arith, ints))

-- where it asks for a false one, exactly where some operand is certain
pub none_false : (f c r : Bool) (e : Ends) → e.lo ≤ℤ e.hi → is_certain (not f) e ≡ true → have_none both e ≡ false → have_none (truths_of f c r) e ≡ c
none_false false c r e order h in_reach = none_true true r c e order h in_reach
none_false true c r e order h in_reach = none_true false r c e order h in_reach

-- ---- arguments by their places

arguments_at : (os : List Operand) (x : Arg) (i : ℕ) → i < length os → get_or (arguments_of os ++ x ∷ []) i none.arg ≡ (get_or os i none).arg
arguments_at [] x i lt = absurd (omega arith)
arguments_at (o ∷ os) x zero lt = refl
arguments_at (o ∷ os) x (suc i) lt = arguments_at os x i (omega arith)

arguments_last : (os : List Operand) (x : Arg) → get_or (arguments_of os ++ x ∷ []) (length os) none.arg ≡ x
arguments_last [] x = refl
arguments_last (o ∷ os) x = arguments_last os x

pub arguments-length : (os : List Operand) (x : Arg) → length (arguments_of os ++ x ∷ []) ≡ length os + 1
arguments-length [] x = refl
arguments-length (o ∷ os) x = let e : length (arguments_of os ++ x ∷ []) ≡ length os + 1 = arguments-length os x in omega arith

at_before : (P : VarId → Type 0) (xs : List Arg) (p j : ℕ) (d : Arg) → j < p → p ≤ length xs → Each P (variables_of (take p xs)) → ArgHas P (get_or xs j d)
at_before P [] p j d lt le h = absurd (omega arith)
at_before P (x ∷ xs) zero j d lt le h = absurd (omega arith)
at_before P (x ∷ xs) (suc p) zero d lt le h = (split_arg P x (variables_of (take p xs)) h).0
at_before P (x ∷ xs) (suc p) (suc j) d lt le h = at_before P xs p j d (omega arith) (omega arith) (split_arg P x (variables_of (take p xs)) h).1

at_after : (P : VarId → Type 0) (xs : List Arg) (p j : ℕ) (d : Arg) → p < j → j < length xs → Each P (variables_of (drop (suc p) xs)) → ArgHas P (get_or xs j d)
at_after P [] p j d lt le h = absurd (omega arith)
at_after P (x ∷ xs) p zero d lt le h = absurd (omega arith)
at_after P (x ∷ xs) zero (suc j) d lt le h = at_place P xs j d (omega arith) h
at_after P (x ∷ xs) (suc p) (suc j) d lt le h = at_after P xs p j d (omega arith) (omega arith) h

before_or_after : (p j : ℕ) → (j ≡ p → ⊥) → (j < p) ⊎ (p < j)
before_or_after p j h = grind arith

-- the argument at another place is another variable, where none comes twice
others_apart : (xs : List Arg) (p j : ℕ) (d : Arg) (u : VarId) → are_distinct (variables_of xs) ≡ true → p < length xs → j < length xs → (j ≡ p → ⊥) → get_or xs p d ≡ Var u
    → ArgHas (λ w. w.0 ≡ u.0 → ⊥) (get_or xs j d)
others_apart xs p j d u single lt other apart at =
    let split = apart_from_others (variables_of (take p xs)) (variables_of (drop (p + 1) xs)) u
    (subst (λ (vs : List VarId). are_distinct vs ≡ true) (variables_here xs p d u lt at) single) in
    elim (before_or_after p j apart) [
      | inl early ↦ at_before (λ w. w.0 ≡ u.0 → ⊥) xs p j d early (omega arith) split.0
      | inr late ↦ at_after (λ w. w.0 ≡ u.0 → ⊥) xs p j d late other (subst (λ (n : ℕ). Each (λ w. w.0 ≡ u.0 → ⊥) (variables_of (drop n xs))) (add-one p) split.1)
    ]

-- an argument on another variable keeps its interval
kept_stays : (b : ℕ → Start) (l : Literal) (u : VarId) (x : Arg) → l.var.0 ≡ u.0 → ArgHas (λ w. w.0 ≡ u.0 → ⊥) x → arg_ends (hulls (kept b l)) x ≡ arg_ends (hulls b) x
kept_stays b l u (Var w) e h = ap ends_of (cut_at-other w.0 (b w.0) l (λ t. h (t ∙ e)))
kept_stays b l u (Const c) e h = refl

by_cases : (Q : VarId → Type 0) (x : Arg) → ((u : VarId) → x ≡ Var u → Q u) → ArgHas Q x
by_cases Q (Var u) f = f u refl
by_cases Q (Const c) f = tt

-- where no bound on the variable is refuted, none of its ends is implied
no_end : (refuted : (ℕ → Start) → Bool) (b : ℕ → Start) (u : VarId) → ((l : Literal) → l.var.0 ≡ u.0 → refuted (kept b l) ≡ false) → HasNoEnd refuted b u
no_end refuted b u h = record {
  low = λ v e. not_both (refuted (kept b (below u v))) e.refutes (h (below u v) refl);
  high = λ v e. not_both (refuted (kept b (above u v))) e.refutes (h (above u v) refl);
}

from_places : (P : VarId → Type 0) (os : List Operand) → ((i : ℕ) → i < length os → ArgHas P (get_or os i none).arg) → Each P (variables_of (arguments_of os))
from_places P [] h = tt
from_places P (o ∷ os) h = join_arg P o.arg (variables_of (arguments_of os)) (h 0 (omega arith)) (from_places P os (λ i lt. h (suc i) (omega arith)))

with_output : (P : VarId → Type 0) (vs : List VarId) (x : Arg) → Each P vs → ArgHas P x → Each P (with_new_arg vs x)
with_output P vs (Var u) h p = each-new P vs u h p
with_output P vs (Const c) h p = h

and_assoc : (a b c : Bool) → (a && (b && c)) ≡ ((a && b) && c)
and_assoc true b c = refl
and_assoc false b c = refl

module _ (k : Connective) (b : ℕ → Start) where
  -- the output's interval
  abbrev span : Ends
  span = arg_ends (hulls b) k.output

  -- the output keeps its interval where an operand's variable is bounded
  output_stays : AreSingle k → (p : ℕ) (u : VarId) (l : Literal) → p < length k.operands → (get_or k.operands p none).arg ≡ Var u → l.var.0 ≡ u.0
      → arg_ends (hulls (kept b l)) k.output ≡ span
  output_stays single p u l lt at on =
      let many : length (all_arguments k) ≡ length k.operands + 1 = arguments-length k.operands k.output in
      kept_stays b l u k.output on (subst (ArgHas (λ w. w.0 ≡ u.0 → ⊥)) (arguments_last k.operands k.output)
      (others_apart (all_arguments k) p (length k.operands) none.arg u single (omega arith) (omega arith) (λ e. absurd (omega arith)) (arguments_at k.operands k.output p lt ∙ at)))

  -- so does another operand
  operand_stays : AreSingle k → (p i : ℕ) (u : VarId) (l : Literal) → p < length k.operands → i < length k.operands → (i ≡ p → ⊥) → (get_or k.operands p none).arg ≡ Var u → l.var.0 ≡ u.0
      → arg_ends (hulls (kept b l)) (get_or k.operands i none).arg ≡ arg_ends (hulls b) (get_or k.operands i none).arg
  operand_stays single p i u l lt other apart at on =
      let many : length (all_arguments k) ≡ length k.operands + 1 = arguments-length k.operands k.output in
      kept_stays b l u (get_or k.operands i none).arg on (subst (ArgHas (λ w. w.0 ≡ u.0 → ⊥)) (arguments_at k.operands k.output i other)
      (others_apart (all_arguments k) p i none.arg u single (omega arith) (omega arith) apart (arguments_at k.operands k.output p lt ∙ at)))

  -- and each operand, where the output's is bounded
  input_stays : AreSingle k → (i : ℕ) (u : VarId) (l : Literal) → i < length k.operands → k.output ≡ Var u → l.var.0 ≡ u.0
      → arg_ends (hulls (kept b l)) (get_or k.operands i none).arg ≡ arg_ends (hulls b) (get_or k.operands i none).arg
  input_stays single i u l lt at on =
      let many : length (all_arguments k) ≡ length k.operands + 1 = arguments-length k.operands k.output in
      kept_stays b l u (get_or k.operands i none).arg on (subst (ArgHas (λ w. w.0 ≡ u.0 → ⊥)) (arguments_at k.operands k.output i lt)
      (others_apart (all_arguments k) (length k.operands) i none.arg u single (omega arith) (omega arith) (λ e. absurd (omega arith)) (arguments_last k.operands k.output ∙ at)))

  -- ---- an output that may be either truth

  open_plan : AreSingle k → is_certain false span ≡ false → is_certain true span ≡ false → IsOpen k b
  open_plan single low high = record {
    stands = none_open k.flipped (list_any (operand_certain (hulls b)) k.operands) (list_all (operand_refuted (hulls b)) k.operands) span low high;
    none = λ i lt. by_cases (HasNoEnd (connective_refuted k) b) (get_or k.operands i none).arg (λ u at. no_end (connective_refuted k) b u (λ l on.
        (let same = output_stays single i u l lt at on in
        none_open k.flipped (list_any (operand_certain (hulls (kept b l))) k.operands) (list_all (operand_refuted (hulls (kept b l))) k.operands) (arg_ends (hulls (kept b l)) k.output)
        (ap (is_certain false) same ∙ low) (ap (is_certain true) same ∙ high))));
  }

  -- where the output asks for neither, it is open
  pub undecided_plan : AreSingle k → (f : Bool) → is_certain f span ≡ false → is_certain (not f) span ≡ false → IsOpen k b
  undecided_plan single false h g = open_plan single h g
  undecided_plan single true h g = open_plan single g h

  -- ---- an output that asks for a true disjunction

  true_at : AsksTrue k b → (c : ℕ → Start) → arg_ends (hulls c) k.output ≡ span → connective_refuted k c ≡ list_all (operand_refuted (hulls c)) k.operands
  true_at a c same =
      ap (have_none (connective_range k (hulls c))) same
      ∙ none_true k.flipped (list_any (operand_certain (hulls c)) k.operands) (list_all (operand_refuted (hulls c)) k.operands) span a.order a.certain a.reach

  all_refute : AsksTrue k b → (p : ℕ) → length k.operands ≤ p → IsFirstLeft (hulls b) k.operands 0 p → connective_refuted k b ≡ true
  all_refute a p end f = true_at a b refl ∙ all_places (operand_refuted (hulls b)) none k.operands (λ i lt. f.before i (omega arith) (omega arith))

  -- an operand that isn't refuted stays so where another's variable is bounded
  left_stays : AreSingle k → AsksTrue k b → (p i : ℕ) (u : VarId) (l : Literal) → p < length k.operands → operand_refuted (hulls b) (get_or k.operands p none) ≡ false
      → i < length k.operands → (i ≡ p → ⊥) → (get_or k.operands i none).arg ≡ Var u → l.var.0 ≡ u.0 → connective_refuted k (kept b l) ≡ false
  left_stays single a p i u l lt left other apart at on =
      true_at a (kept b l) (output_stays single i u l other at on)
      ∙ not_all (operand_refuted (hulls (kept b l))) none k.operands p lt
      (ap (is_certain (not (get_or k.operands p none).negated)) (operand_stays single i p u l other lt (λ e. apart (sym e)) at on) ∙ left)

  stands_by : AsksTrue k b → (p : ℕ) → p < length k.operands → operand_refuted (hulls b) (get_or k.operands p none) ≡ false → connective_refuted k b ≡ false
  stands_by a p lt left = true_at a b refl ∙ not_all (operand_refuted (hulls b)) none k.operands p lt left

  same_or_not : (i p : ℕ) → (i ≡ p) ⊎ (i ≡ p → ⊥)
  same_or_not i p = grind arith

  -- where two operands are left, no end of an operand is implied
  two_plan : AreSingle k → AsksTrue k b → (p q : ℕ) → p < q → q < length k.operands → IsFirstLeft (hulls b) k.operands 0 p → IsFirstLeft (hulls b) k.operands (p + 1) q → IsOpen k b
  two_plan single a p q less lt first second =
      let before : p < length k.operands = omega arith in
      record {
        stands = stands_by a p before (first.here before);
        none = λ i l. by_cases (HasNoEnd (connective_refuted k) b) (get_or k.operands i none).arg (λ u at. no_end (connective_refuted k) b u (λ m on.
            elim (same_or_not i p) [
              | inl same ↦ left_stays single a q i u m lt (second.here lt) l (λ e. absurd (omega arith)) at on
              | inr apart ↦ left_stays single a p i u m before (first.here before) l apart at on
            ]));
      }

  others_refuted : (p q : ℕ) → length k.operands ≤ q → IsFirstLeft (hulls b) k.operands 0 p → IsFirstLeft (hulls b) k.operands (p + 1) q → (i : ℕ) → i < length k.operands → (i ≡ p → ⊥)
      → operand_refuted (hulls b) (get_or k.operands i none) ≡ true
  others_refuted p q end first second i lt apart = elim (before_or_after p i apart) [
    | inl early ↦ first.before i (omega arith) early
    | inr late ↦ second.before i (omega arith) (omega arith)
  ]

  -- where one is left, it alone may have an end
  sole_plan : AreSingle k → AsksTrue k b → (p q : ℕ) → p < length k.operands → length k.operands ≤ q → IsFirstLeft (hulls b) k.operands 0 p → IsFirstLeft (hulls b) k.operands (p + 1) q → IsSole k b p
  sole_plan single a p q lt end first second = record {
    stands = stands_by a p lt (first.here lt);
    others = λ i l apart. by_cases (HasNoEnd (connective_refuted k) b) (get_or k.operands i none).arg
        (λ u at. no_end (connective_refuted k) b u (λ m on. left_stays single a p i u m lt (first.here lt) l apart at on));
    own = by_cases (IsToldBy (connective_refuted k) b (Certain (not (get_or k.operands p none).negated))) (get_or k.operands p none).arg (λ u at m on.
        true_at a (kept b m) (output_stays single p u m lt at on)
        ∙ all_but (operand_refuted (hulls (kept b m))) none k.operands p lt (λ i l apart.
        ap (is_certain (not (get_or k.operands i none).negated)) (operand_stays single p i u m lt l apart at on) ∙ others_refuted p q end first second i l apart)
        ∙ ap (λ (x : Arg). is_certain (not (get_or k.operands p none).negated) (arg_ends (hulls (kept b m)) x)) at);
  }

  -- ---- an output that asks for a false disjunction

  false_at : AsksFalse k b → (c : ℕ → Start) → arg_ends (hulls c) k.output ≡ span → connective_refuted k c ≡ list_any (operand_certain (hulls c)) k.operands
  false_at a c same =
      ap (have_none (connective_range k (hulls c))) same
      ∙ none_false k.flipped (list_any (operand_certain (hulls c)) k.operands) (list_all (operand_refuted (hulls c)) k.operands) span a.order a.certain a.reach

  pub one_refutes : AsksFalse k b → list_any (operand_certain (hulls b)) k.operands ≡ true → connective_refuted k b ≡ true
  one_refutes a sure = false_at a b refl ∙ sure

  -- where none is certain, each may have an end
  every_plan : AreSingle k → AsksFalse k b → list_any (operand_certain (hulls b)) k.operands ≡ false → IsEvery k b
  every_plan single a unsure = record {
    stands = false_at a b refl ∙ unsure;
    all = λ p lt. by_cases (IsToldBy (connective_refuted k) b (Certain (get_or k.operands p none).negated)) (get_or k.operands p none).arg (λ u at m on.
        false_at a (kept b m) (output_stays single p u m lt at on)
        ∙ any_but (operand_certain (hulls (kept b m))) none k.operands p lt (λ i l apart.
        ap (is_certain (get_or k.operands i none).negated) (operand_stays single p i u m lt l apart at on)
        ∙ none_at (operand_certain (hulls b)) none k.operands i l unsure)
        ∙ ap (λ (x : Arg). is_certain (get_or k.operands p none).negated (arg_ends (hulls (kept b m)) x)) at);
  }

  -- ---- the output

  -- what its cell has in common with the truths tells whether a box with a bound more on it is refuted
  pub output_told : AreSingle k → (u : VarId) → k.output ≡ Var u → IsToldBy (connective_refuted k) b (Apart (connective_range k (hulls b))) u
  output_told single u at l on =
      ap (λ (t : Bool). have_none (truths_of k.flipped t (list_all (operand_refuted (hulls (kept b l))) k.operands)) (arg_ends (hulls (kept b l)) k.output))
      (same_any (operand_certain (hulls (kept b l))) (operand_certain (hulls b)) none k.operands
      (λ i lt. ap (is_certain (get_or k.operands i none).negated) (input_stays single i u l lt at on)))
      ∙ ap (λ (t : Bool). have_none (truths_of k.flipped (list_any (operand_certain (hulls b)) k.operands) t) (arg_ends (hulls (kept b l)) k.output))
      (same_all (operand_refuted (hulls (kept b l))) (operand_refuted (hulls b)) none k.operands
      (λ i lt. ap (is_certain (not (get_or k.operands i none).negated)) (input_stays single i u l lt at on)))
      ∙ ap (λ (x : Arg). have_none (connective_range k (hulls b)) (arg_ends (hulls (kept b l)) x)) at

  fixed_no_end : (x : Arg) → (arg_ends (hulls b) x).lo ≡ (arg_ends (hulls b) x).hi → ArgHas (HasNoEnd (connective_refuted k) b) x
  fixed_no_end (Var u) e = record {
    low = λ v f. (let low : lo_of (b u.0) <ℤ v = f.low in let high : v ≤ℤ hi_of (b u.0) = f.high in absurd (omega (arith, ints)));
    high = λ v f. (let low : lo_of (b u.0) ≤ℤ v = f.low in let high : v <ℤ hi_of (b u.0) = f.high in absurd (omega (arith, ints)));
  }
  fixed_no_end (Const c) e = tt

  -- a fixed output has no end
  pub quiet_plan : IsOpen k b → span.lo ≡ span.hi → IsStill k b
  quiet_plan o e = record {
    stands = o.stands;
    none = with_output (HasNoEnd (connective_refuted k) b) (connective_inputs k) k.output
        (each_distinct (HasNoEnd (connective_refuted k) b) (variables_of (arguments_of k.operands)) (from_places (HasNoEnd (connective_refuted k) b) k.operands o.none))
        (fixed_no_end k.output e);
  }

-- ---- the same of operands that were read from a connective

module _ (k : Connective) (b : ℕ → Start) (os : List Operand) (e : os ≡ k.operands) where
  left_of : (from p : ℕ) → IsFirstLeft (hulls b) os from p → IsFirstLeft (hulls b) k.operands from p
  left_of from p f = subst (λ (xs : List Operand). IsFirstLeft (hulls b) xs from p) e f

  pub all_refuted_of : AsksTrue k b → (p : ℕ) → length os ≤ p → IsFirstLeft (hulls b) os 0 p → connective_refuted k b ≡ true
  all_refuted_of a p end f = all_refute k b a p (subst (λ (xs : List Operand). length xs ≤ p) e end) (left_of 0 p f)

  pub two_plan_of : AreSingle k → AsksTrue k b → (p q : ℕ) → p < q → q < length os → IsFirstLeft (hulls b) os 0 p → IsFirstLeft (hulls b) os (p + 1) q → IsOpen k b
  two_plan_of single a p q less lt first second =
      two_plan k b single a p q less (subst (λ (xs : List Operand). q < length xs) e lt) (left_of 0 p first) (left_of (p + 1) q second)

  pub sole_plan_of : AreSingle k → AsksTrue k b → (p q : ℕ) → p < length os → length os ≤ q → IsFirstLeft (hulls b) os 0 p → IsFirstLeft (hulls b) os (p + 1) q → IsSole k b p
  sole_plan_of single a p q lt end first second =
      sole_plan k b single a p q (subst (λ (xs : List Operand). p < length xs) e lt) (subst (λ (xs : List Operand). length xs ≤ q) e end) (left_of 0 p first) (left_of (p + 1) q second)

  pub every_plan_of : AreSingle k → AsksFalse k b → list_any (operand_certain (hulls b)) os ≡ false → IsEvery k b
  every_plan_of single a unsure = every_plan k b single a (subst (λ (xs : List Operand). list_any (operand_certain (hulls b)) xs ≡ false) e unsure)

-- ---- the variables, the output last

collected-append : (seen xs ys : List VarId) → collected seen (xs ++ ys) ≡ collected (collected seen xs) ys
collected-append seen [] ys = refl
collected-append seen (x ∷ xs) ys = collected-append (with_new seen x) xs ys

append_none : (xs : List VarId) → xs ++ [] ≡ xs
append_none [] = refl
append_none (x ∷ xs) = ap (λ (ys : List VarId). x ∷ ys) (append_none xs)

with_last : (vs : List VarId) (x : Arg) → distinct (vs ++ with_arg x []) ≡ with_new_arg (distinct vs) x
with_last vs (Var u) = collected-append [] vs (u ∷ [])
with_last vs (Const c) = ap distinct (append_none vs)

arguments-variables : (os : List Operand) (x : Arg) → variables_of (arguments_of os ++ x ∷ []) ≡ variables_of (arguments_of os) ++ with_arg x []
arguments-variables os x = variables-append (arguments_of os) (x ∷ [])

-- the variables of all arguments are those of the operands and the output
pub all_vars : (k : Connective) → distinct (variables_of (all_arguments k)) ≡ connective_vars k
all_vars k = ap distinct (arguments-variables k.operands k.output) ∙ with_last (variables_of (arguments_of k.operands)) k.output

new-append : (seen xs ys : List VarId) → are_new seen (xs ++ ys) ≡ (are_new seen xs && are_new (collected seen xs) ys)
new-append seen [] ys = refl
new-append seen (x ∷ xs) ys = ap (λ (b : Bool). not (is_listed x seen) && b) (new-append (with_new seen x) xs ys) ∙ and_assoc (not (is_listed x seen)) (are_new (with_new seen x) xs) (are_new (collected (with_new seen x) xs) ys)

single_last : (vs : List VarId) (x : Arg) → are_distinct vs ≡ true → is_new (distinct vs) x ≡ true → are_distinct (vs ++ with_arg x []) ≡ true
single_last vs (Var u) h new = new-append [] vs (u ∷ []) ∙ and_both (are_distinct vs) (not (is_listed u (distinct vs)) && true) h (ap (λ (b : Bool). b && true) new)
single_last vs (Const c) h new = ap are_distinct (append_none vs) ∙ h

-- where no variable of the operands comes twice, and the output is none of them, none comes twice
pub is_single : (k : Connective) → are_distinct (variables_of (arguments_of k.operands)) ≡ true → is_new (connective_inputs k) k.output ≡ true → AreSingle k
is_single k h new = ap are_distinct (arguments-variables k.operands k.output) ∙ single_last (variables_of (arguments_of k.operands)) k.output h new

-- ---- variables that can be read

listed_at : (u : VarId) (vs : List VarId) → is_listed u vs ≡ true → (i : ℕ) × (slice_get vs i ≡ Some u)
listed_at u [] h = absurd (cc)
listed_at u (v ∷ vs) h = elim (or_true (v.0 == u.0) (is_listed u vs) h) [
  | inl same ↦ (0, ap Some (same_var u v ((Decides-eqb v.0 u.0).0 same)))
  | inr later ↦ (let at = listed_at u vs later in (suc at.0, at.1))
]

reads : (vs : List VarId) (n : ℕ) (u : VarId) → is_listed u vs ≡ true → AllBelow n vs → IsReadable vs n u
reads vs n u h below = let at = listed_at u vs h in record { below = below; place = at.0; reads = at.1 }

same_variable : (w u : VarId) → Var w ≡ Var u → w ≡ u
same_variable w u e = cc

new_listed : (vs : List VarId) (w : VarId) → is_listed w (with_new vs w) ≡ true
new_listed vs w =
    let step : (t : Bool) → is_listed w vs ≡ t → is_listed w (if t then vs else vs ++ w ∷ []) ≡ true =
    λ t. elim t as (λ t. is_listed w vs ≡ t → is_listed w (if t then vs else vs ++ w ∷ []) ≡ true) [ true ↦ λ h. h | false ↦ λ h. listed_end w vs ] in
    step (is_listed w vs) refl

pub has_var : (P : VarId → Type 0) (x : Arg) (u : VarId) → x ≡ Var u → ArgHas P x → P u
has_var P x u e h = subst (ArgHas P) e h

output_listed : (vs : List VarId) (x : Arg) (u : VarId) → x ≡ Var u → is_listed u (with_new_arg vs x) ≡ true
output_listed vs (Var w) u e = subst (λ (y : VarId). is_listed y (with_new vs w) ≡ true) (same_variable w u e) (new_listed vs w)
output_listed vs (Const c) u e = absurd (cc)

pub output_reads : (k : Connective) (n : ℕ) (u : VarId) → k.output ≡ Var u → AllBelow n (connective_vars k) → IsReadable (connective_vars k) n u
output_reads k n u e below = reads (connective_vars k) n u (output_listed (connective_inputs k) k.output u e) below

pub output_below : (k : Connective) (n : ℕ) (u : VarId) → k.output ≡ Var u → AllBelow n (connective_vars k) → u.0 < n
output_below k n u e below = listed (λ w. w.0 < n) u (connective_vars k) (output_listed (connective_inputs k) k.output u e) below

-- an operand's variable can be read
pub operand_reads : (k : Connective) (n p : ℕ) (u : VarId) → p < length k.operands → (get_or k.operands p none).arg ≡ Var u → AllBelow n (connective_vars k) → IsReadable (connective_vars k) n u
operand_reads k n p u lt at below =
    reads (connective_vars k) n u (has_var (λ w. is_listed w (connective_vars k) ≡ true) (get_or k.operands p none).arg u at
    (place_has (λ w. is_listed w (connective_vars k) ≡ true) k.operands p none lt (each_new_arg (λ w. is_listed w (connective_vars k) ≡ true) (connective_inputs k) k.output (all_listed (connective_vars k))).0)) below

pub operand_below : (k : Connective) (n p : ℕ) (u : VarId) → p < length k.operands → (get_or k.operands p none).arg ≡ Var u → AllBelow n (connective_vars k) → u.0 < n
operand_below k n p u lt at below =
    has_var (λ w. w.0 < n) (get_or k.operands p none).arg u at (place_has (λ w. w.0 < n) k.operands p none lt (each_new_arg (λ w. w.0 < n) (connective_inputs k) k.output below).0)

-- ---- the ends of arguments in turn

pub last_end : (k : Connective) (b : ℕ → Start) (place : ℕ) (r : Option Literal) → place ≡ length k.operands → IsArgEnd (connective_refuted k) b k.output r
    → IsArgEnd (connective_refuted k) b (get_or (all_arguments k) place none.arg) r
last_end k b place r e h =
    subst (λ (x : Arg). IsArgEnd (connective_refuted k) b x r) (sym (ap (λ (i : ℕ). get_or (all_arguments k) i none.arg) e ∙ arguments_last k.operands k.output)) h

pub operand_end : (k : Connective) (b : ℕ → Start) (place : ℕ) (r : Option Literal) → place < length k.operands → IsArgEnd (connective_refuted k) b (get_or k.operands place none).arg r
    → IsArgEnd (connective_refuted k) b (get_or (all_arguments k) place none.arg) r
operand_end k b place r lt h = subst (λ (x : Arg). IsArgEnd (connective_refuted k) b x r) (sym (arguments_at k.operands k.output place lt)) h

pub no_arg_end : (refuted : (ℕ → Start) → Bool) (b : ℕ → Start) (x : Arg) → ArgHas (HasNoEnd refuted b) x → IsArgEnd refuted b x None
no_arg_end refuted b (Var u) h = h
no_arg_end refuted b (Const c) h = refl

pub before_last : (k : Connective) (place n : ℕ) → place < length (all_arguments k) → n ≡ length k.operands → (place ≡ n → ⊥) → place < length k.operands
before_last k place n lt count apart = let many : length (all_arguments k) ≡ length k.operands + 1 = arguments-length k.operands k.output in omega arith

-- what is told of an operand is told of its variable
pub told_var : (k : Connective) (m : Box) (place : ℕ) (n : Bool) (u : VarId) → place < length k.operands → AllBelow (length m.starts) (connective_vars k) → (get_or k.operands place none).arg ≡ Var u
    → ArgHas (IsToldBy (connective_refuted k) (cell_of m) (Certain n)) (get_or k.operands place none).arg → IsAnswered k m (Certain n) u
told_var k m place n u lt below at told = record {
  below = operand_below k (length m.starts) place u lt at below;
  told = has_var (IsToldBy (connective_refuted k) (cell_of m) (Certain n)) (get_or k.operands place none).arg u at told;
}

-- ---- visits

was_empty : (b : Bool) → not b ≡ false → b ≡ true
was_empty true h = refl
was_empty false h = absurd (cc)

-- nothing is told, and nothing follows
pub quiet_batch : (k : Connective) (b : ℕ → Start) (n : ℕ) (ls : List Literal) → ls ≡ [] → IsStill k b → IsBatch (connective_refuted k) (connective_vars k) b n false ls
quiet_batch k b n ls e s = subst (IsBatch (connective_refuted k) (connective_vars k) b n false) (sym e) (record {
  stands = s.stands;
  ends = record { implied = tt; none = λ z. s.none };
  last = λ z. record { stands = s.stands; ends = s.none };
})

-- all ends are told, and none only where nothing follows
pub told_batch : (k : Connective) (b : ℕ → Start) (n : ℕ) (ls : List Literal) (empty : Bool) → connective_refuted k b ≡ false
    → AreEnds (connective_refuted k) (distinct (variables_of (all_arguments k))) b n ls → (empty ≡ true → ls ≡ []) → IsBatch (connective_refuted k) (connective_vars k) b n (not empty) ls
told_batch k b n ls empty stands ends nothing =
    let own : AreEnds (connective_refuted k) (connective_vars k) b n ls = subst (λ (vs : List VarId). AreEnds (connective_refuted k) vs b n ls) (all_vars k) ends in
    record {
      stands = stands;
      ends = own;
      last = λ z. (let e : ls ≡ [] = nothing (was_empty empty z) in
          subst (λ (xs : List Literal). IsQuiet (connective_refuted k) (connective_vars k) (cut_box b xs)) (sym e)
          (let q : IsQuiet (connective_refuted k) (connective_vars k) (cut_box b []) = record { stands = stands; ends = own.none e } in q));
    }
