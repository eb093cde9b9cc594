-- What the reason of a connective leaves is refuted.
use Rattle.std.proofs.Common.{◌≡◌, ℕ, ◌+◌, ◌<◌, Bool, true, false, not, List, ◌++◌, length, get_or, ℤ, pos, ◌≤ℤ◌, int_lt, ap, subst, sym, ◌∙◌, arith, Option, below_more}
use Rattle.std.proofs.lemmas.Int.{ints}
use Rattle.std.specs.List.{list_any, list_all}
use Rattle.std.specs.Option.{option_to_list}
use Rattle.dom_core.specs.Ends.{Ends}
use Rattle.dom_core.specs.declared.arg.Arg.{Arg}
use Rattle.dom_core.specs.declared.arg.Arg.TheVariants.{Var, Const}
use Rattle.dom_core.specs.declared.literal.Literal.{Literal}
use Rattle.dom_core.proofs.RisesLaws.{or_left, or_right}
use Rattle.dom_core.proofs.TestLaws.{le_true, true_le, true_lt}
use Rattle.dom_cells.specs.Box.{Box, IsBox, cell_of, against}
use Rattle.dom_cells.specs.Cell.{IsCell, lo_of, hi_of}
use Rattle.dom_cells.specs.declared.start.Start.{Start}
use Rattle.dom_cells.proofs.BoxLaws.{sane-cell}
use Rattle.kind_law.specs.Argument.{ArgHas, arg_ends}
use Rattle.kind_law.specs.Function.{have_none}
use Rattle.kind_law.specs.Laws.{AllBelow, hulls}
use Rattle.kind_law.specs.Reason.{IsCause, IsRead, IsReason, IsOpen, AllFine, AddsFine, asked}
use Rattle.kind_law.proofs.ArgumentLaws.{each_new_arg}
use Rattle.kind_law.proofs.EndLaws.{IsAgainst, against_is, cause_open, end_reason, left_fewer}
use Rattle.kind_truths.specs.Operand.{is_certain, operand_certain, operand_refuted}
use Rattle.kind_truths.specs.Connective.{Connective, truths_of, connective_inputs, connective_vars, connective_refuted}
use Rattle.kind_truths.specs.Told.{IsToldCertain, AreToldRefuted}
use Rattle.kind_truths.specs.declared.operand.Operand.{Operand}
use Rattle.kind_truths.proofs.PlaceLaws.{none, place_has, all_places, some_place, all_at}

-- an output that asks for a true disjunction has nothing in common with the truths of refuted operands
refutes_all : (f c r : Bool) (e : Ends) → r ≡ true → is_certain f e ≡ true → have_none (truths_of f c r) e ≡ true
refutes_all false c true e h g =
    let one : pos 1 ≤ℤ e.lo = le_true (pos 1) e.lo g in
    or_left (int_lt (pos 0) e.lo) (int_lt e.hi (truths_of false c true).lo) (true_lt (pos 0) e.lo (omega (arith, ints)))
refutes_all true c true e h g =
    let no_one : e.hi ≤ℤ pos 0 = le_true e.hi (pos 0) g in
    or_right (int_lt (truths_of true c true).hi e.lo) (int_lt e.hi (pos 1)) (true_lt e.hi (pos 1) (omega (arith, ints)))
refutes_all f c false e h g = absurd (cc)

-- and one that asks for a false one nothing with those of a certain operand
refutes_one : (f c r : Bool) (e : Ends) → c ≡ true → is_certain (not f) e ≡ true → have_none (truths_of f c r) e ≡ true
refutes_one false c r e h g = refutes_all true r c e h g
refutes_one true c r e h g = refutes_all false r c e h g

-- what was told stays told
pub told_grown : (n : Bool) (m : Box) (implied : Option Literal) (old new : List Literal) (x : Arg) → AddsFine m old new → IsToldCertain n m implied old x → IsToldCertain n m implied new x
told_grown n m implied old new (Var u) a c = λ x left. c x (left_fewer m implied u.0 old new x a left)
told_grown n m implied old new (Const v) a c = c

-- a certain constant need not be told
pub told_constant : (n : Bool) (m : Box) (implied : Option Literal) (ls : List Literal) (x : Arg) (v : ℤ) → x ≡ Const v → is_certain n (arg_ends (hulls (asked m implied)) x) ≡ true
    → IsToldCertain n m implied ls (Const v)
told_constant n m implied ls x v e h = subst (λ (y : Arg). is_certain n (arg_ends (hulls (asked m implied)) y) ≡ true) e h

pub low_of : (m : Box) (implied : Option Literal) (x : Arg) (u : ℕ) → is_certain false (arg_ends (hulls (asked m implied)) x) ≡ true → (arg_ends (hulls (asked m implied)) x).lo ≡ lo_of (asked m implied u) → pos 1 ≤ℤ lo_of (asked m implied u)
low_of m implied x u h e = let one : pos 1 ≤ℤ (arg_ends (hulls (asked m implied)) x).lo = le_true (pos 1) (arg_ends (hulls (asked m implied)) x).lo h in omega (arith, ints)

module _ (m : Box) (implied : Option Literal) (front ls : List Literal) (s : IsBox m) (fine : AllFine m front) (o : IsOpen (cell_of m) implied) (whole : ls ≡ front ++ option_to_list implied) where
  cell_certain : (n : Bool) (v : ℕ) (c : Start) → IsAgainst m implied front c v → IsToldCertain n m implied front (Var (record { 0 = v })) → is_certain n (record { lo = lo_of c; hi = hi_of c }) ≡ true
  cell_certain false v c a told = let k : IsCell c = sane-cell c a.sane in true_le (pos 1) (lo_of c) (told (lo_of c) (a.left (lo_of c) k.least))
  cell_certain true v c a told = let k : IsCell c = sane-cell c a.sane in true_le (hi_of c) (pos 0) (told (hi_of c) (a.left (hi_of c) k.greatest))

  -- what is told to be certain is so against the clause
  certain_against : (n : Bool) (x : Arg) → ArgHas (λ u. u.0 < length m.starts) x → IsToldCertain n m implied front x → is_certain n (arg_ends (hulls (against m ls)) x) ≡ true
  certain_against n (Var u) lt told = cell_certain n u.0 (against m ls u.0) (against_is m implied front ls u.0 s lt fine o whole) told
  certain_against n (Const c) lt told = told

-- where it is told that all operands are refuted, and that the output asks for one that holds, the clause is a reason
pub all_reason : (k : Connective) (m : Box) (implied : Option Literal) (front ls : List Literal) → IsBox m → AllBelow (length m.starts) (connective_vars k)
    → IsCause (connective_refuted k) (cell_of m) implied → IsRead (length m.starts) implied → AllFine m front → ls ≡ front ++ option_to_list implied
    → IsToldCertain k.flipped m implied front k.output → AreToldRefuted m implied front k.operands (length k.operands) → IsReason (connective_refuted k) m implied ls
all_reason k m implied front ls s below cause read fine whole output operands =
    let o : IsOpen (cell_of m) implied = cause_open (connective_refuted k) (cell_of m) implied cause in
    let own = each_new_arg (λ u. u.0 < length m.starts) (connective_inputs k) k.output below in
    end_reason (connective_refuted k) m implied front ls s cause read fine whole
    (refutes_all k.flipped (list_any (operand_certain (hulls (against m ls))) k.operands) (list_all (operand_refuted (hulls (against m ls))) k.operands) (arg_ends (hulls (against m ls)) k.output)
    (all_places (operand_refuted (hulls (against m ls))) none k.operands (λ i lt.
    certain_against m implied front ls s fine o whole (not (get_or k.operands i none).negated) (get_or k.operands i none).arg
    (place_has (λ u. u.0 < length m.starts) k.operands i none lt own.0) (operands i lt)))
    (certain_against m implied front ls s fine o whole k.flipped k.output own.1 output))

-- the same where one operand is told to be certain, and that the output asks for none that holds
pub one_reason : (k : Connective) (m : Box) (implied : Option Literal) (front ls : List Literal) (place : ℕ) (own : Operand) → IsBox m → AllBelow (length m.starts) (connective_vars k)
    → IsCause (connective_refuted k) (cell_of m) implied → IsRead (length m.starts) implied → AllFine m front → ls ≡ front ++ option_to_list implied
    → place < length k.operands → own ≡ get_or k.operands place none → IsToldCertain (not k.flipped) m implied front k.output → IsToldCertain own.negated m implied front own.arg
    → IsReason (connective_refuted k) m implied ls
one_reason k m implied front ls place own s below cause read fine whole lt at output operand =
    let o : IsOpen (cell_of m) implied = cause_open (connective_refuted k) (cell_of m) implied cause in
    let vars = each_new_arg (λ u. u.0 < length m.starts) (connective_inputs k) k.output below in
    end_reason (connective_refuted k) m implied front ls s cause read fine whole
    (refutes_one k.flipped (list_any (operand_certain (hulls (against m ls))) k.operands) (list_all (operand_refuted (hulls (against m ls))) k.operands) (arg_ends (hulls (against m ls)) k.output)
    (some_place (operand_certain (hulls (against m ls))) none k.operands place lt
    (certain_against m implied front ls s fine o whole (get_or k.operands place none).negated (get_or k.operands place none).arg
    (place_has (λ u. u.0 < length m.starts) k.operands place none lt vars.0) (subst (λ (x : Operand). IsToldCertain x.negated m implied front x.arg) at operand)))
    (certain_against m implied front ls s fine o whole (not k.flipped) k.output vars.1 output))

-- one operand more is told to be refuted
pub told_more : (m : Box) (implied : Option Literal) (os : List Operand) (at : ℕ) (old new : List Literal) (own : Operand) → AddsFine m old new → own ≡ get_or os at none
    → AreToldRefuted m implied old os at → IsToldCertain (not own.negated) m implied new own.arg → AreToldRefuted m implied new os (at + 1)
told_more m implied os at old new own a e before here =
    below_more (λ i. IsToldCertain (not (get_or os i none).negated) m implied new (get_or os i none).arg) at
    (λ i lt. told_grown (not (get_or os i none).negated) m implied old new (get_or os i none).arg a (before i lt))
    (subst (λ (x : Operand). IsToldCertain (not x.negated) m implied new x.arg) e here)

pub told_all : (m : Box) (implied : Option Literal) (ls : List Literal) (os : List Operand) (at count : ℕ) → count ≡ at → AreToldRefuted m implied ls os at → AreToldRefuted m implied ls os count
told_all m implied ls os at count e h = subst (AreToldRefuted m implied ls os) (sym e) h

-- each operand of refuted ones is
pub refuted_place : (s : ℕ → Ends) (os : List Operand) (i : ℕ) (own : Operand) → own ≡ get_or os i none → i < length os → list_all (operand_refuted s) os ≡ true
    → is_certain (not own.negated) (arg_ends s own.arg) ≡ true
refuted_place s os i own e lt h = ap (λ (x : Operand). is_certain (not x.negated) (arg_ends s x.arg)) e ∙ all_at (operand_refuted s) none os i lt h
