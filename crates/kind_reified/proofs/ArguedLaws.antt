-- What the reason of a truth leaves is refuted.
use Rattle.std.proofs.Common.{◌≡◌, ◌<◌, Bool, true, false, List, ◌++◌, length, ℤ, pos, ◌≤ℤ◌, int_lt, if◌then◌else◌, subst, arith, Option}
use Rattle.std.proofs.lemmas.Int.{ints}
use Rattle.std.specs.Option.{option_to_list}
use Rattle.dom_core.specs.Ends.{Ends}
use Rattle.dom_core.specs.declared.arg.Arg.{Arg}
use Rattle.dom_core.specs.declared.arg.Arg.TheVariants.{Var, Const}
use Rattle.dom_core.specs.declared.literal.Literal.{Literal}
use Rattle.dom_core.proofs.RisesLaws.{or_left, or_right}
use Rattle.dom_cells.specs.Box.{Box, IsBox, cell_of, against}
use Rattle.kind_law.specs.Function.{have_none}
use Rattle.kind_law.specs.Laws.{AllBelow, Each, hulls}
use Rattle.kind_law.specs.Reason.{IsCause, IsRead, IsReason, IsOpen, AllFine, AddsFine, asked}
use Rattle.kind_law.specs.declared.side.Side.{Side}
use Rattle.kind_law.specs.declared.side.Side.TheVariants.{Low, High}
use Rattle.kind_law.proofs.EachLaws.{each_map}
use Rattle.dom_cells.specs.Cell.{IsSane}
use Rattle.dom_core.proofs.TestLaws.{true_lt}
use Rattle.dom_core.specs.declared.relation.Relation.{Relation}
use Rattle.kind_law.proofs.EndLaws.{sane_asked, against_is, cause_open, end_reason, left_fewer}
use Rattle.kind_sum.specs.Explained.{AreLeft, EdgeNear, IsCertainExcess, IsExcess, PaysAll}
use Rattle.kind_reified.specs.Verdict.{ArgCovers, IsVerdict}
use Rattle.kind_sum.specs.SumRelation.{SumRelation, sum_vars}
use Rattle.kind_reified.specs.LinearReified.{LinearReified, reified_refuted}
use Rattle.kind_parts.specs.Relation.{truth_ends}
use Rattle.kind_parts.specs.Relation.{certain_by, refuted_by}
use Rattle.kind_law.specs.Argument.{ArgHas, arg_ends}
use Rattle.kind_sum.specs.Sum.{total, vars_of}
use Rattle.kind_law.proofs.ArgumentLaws.{each_listed}
use Rattle.kind_reified.specs.declared.argued.Verdict.{Verdict}
use Rattle.kind_sum.specs.declared.explained.Excess.{Excess}
use Rattle.kind_sum.specs.declared.term.Term.{Term}
use Rattle.kind_sum.proofs.ExplainedLaws.{left_near, against_ends}

-- an output of 1 has nothing in common with the truths of a refuted sum
pub refuted_none : (certain refuted : Bool) (y o : Ends) → refuted ≡ true → pos 1 ≤ℤ y.lo → EdgeNear Low y o (pos 0) → have_none (truth_ends certain refuted) o ≡ true
refuted_none certain true y o h low near =
    or_left (int_lt (pos 0) o.lo) (int_lt o.hi (if certain then pos 1 else pos 0)) (true_lt (pos 0) o.lo (omega (arith, ints)))
refuted_none certain false y o h low near = absurd (cc)

-- an output of 0 has nothing in common with the truths of a certain sum
pub certain_none : (certain refuted : Bool) (y o : Ends) → certain ≡ true → y.hi ≤ℤ pos 0 → EdgeNear High y o (pos 0) → have_none (truth_ends certain refuted) o ≡ true
certain_none true refuted y o h high near =
    or_right (int_lt (if refuted then pos 0 else pos 1) o.lo) (int_lt o.hi (pos 1)) (true_lt o.hi (pos 1) (omega (arith, ints)))
certain_none false refuted y o h high near = absurd (cc)

pub refuted_verdict_is : (k : SumRelation) (t y : Ends) (e : Excess) → pos 1 ≤ℤ y.lo → IsExcess k.relation k.bound t e → IsVerdict k t y (record { excess = e; side = Low })
refuted_verdict_is k t y e low excess u o paid near =
    refuted_none (certain_by k.relation u k.bound) (refuted_by k.relation u k.bound) y o (excess u paid) low near

pub certain_verdict_is : (k : SumRelation) (t y : Ends) (e : Excess) → y.hi ≤ℤ pos 0 → IsCertainExcess k.relation k.bound t e → IsVerdict k t y (record { excess = e; side = High })
certain_verdict_is k t y e high excess u o paid near =
    certain_none (certain_by k.relation u k.bound) (refuted_by k.relation u k.bound) y o (excess u paid) high near

-- what was told stays told
pub covers_grown : (side : Side) (m : Box) (implied : Option Literal) (old new : List Literal) (x : Arg) → AddsFine m old new → ArgCovers side m implied old x
    → ArgCovers side m implied new x
covers_grown side m implied old new (Var u) a c = λ x left. c x (left_fewer m implied u.0 old new x a left)
covers_grown side m implied old new (Const v) a c = tt

same_near : (side : Side) (e : Ends) → EdgeNear side e e (pos 0)
same_near Low e = omega (arith, ints)
same_near High e = omega (arith, ints)

arg_near : (side : Side) (m : Box) (implied : Option Literal) (front ls : List Literal) (x : Arg) → IsBox m → ArgHas (λ u. u.0 < length m.starts) x
    → AllFine m front → IsOpen (cell_of m) implied → ls ≡ front ++ option_to_list implied → ArgCovers side m implied front x
    → EdgeNear side (arg_ends (hulls (asked m implied)) x) (arg_ends (hulls (against m ls)) x) (pos 0)
arg_near side m implied front ls (Var u) s lt fine o whole c =
    left_near side m implied front u.0 (pos 0) (hulls (against m ls) u.0) c (against_ends m implied front (against m ls u.0) u.0 (against_is m implied front ls u.0 s lt fine o whole))
arg_near side m implied front ls (Const v) s lt fine o whole c = same_near side _

-- what pays for all terms, and tells the output's end, leaves the truth refuted
pub truth_reason : (k : LinearReified) (m : Box) (implied : Option Literal) (front ls : List Literal) (v : Verdict) (ts : List Term) → ts ≡ k.sum.terms → IsBox m
    → AllBelow (length m.starts) (sum_vars k.sum) → ArgHas (λ u. u.0 < length m.starts) k.output
    → IsCause (reified_refuted k) (cell_of m) implied → IsRead (length m.starts) implied → AllFine m front → ls ≡ front ++ option_to_list implied
    → IsVerdict k.sum (total k.sum.terms (arg_ends (hulls (asked m implied)))) (arg_ends (hulls (asked m implied)) k.output) v
    → ArgCovers v.side m implied front k.output → PaysAll v.excess.turned m implied front ts (pos v.excess.slack) → IsReason (reified_refuted k) m implied ls
truth_reason k m implied front ls v ts same s below has cause read fine whole verdict covers pays =
    let o : IsOpen (cell_of m) implied = cause_open (reified_refuted k) (cell_of m) implied cause in
    let left : Each (λ u. AreLeft m implied front u.0 (hulls (against m ls) u.0)) (vars_of k.sum.terms) =
    each_map (λ u. u.0 < length m.starts) (λ u. AreLeft m implied front u.0 (hulls (against m ls) u.0)) (vars_of k.sum.terms)
    (λ u lt. against_ends m implied front (against m ls u.0) u.0 (against_is m implied front ls u.0 s lt fine o whole))
    (each_listed (λ u. u.0 < length m.starts) (vars_of k.sum.terms) below) in
    let paid : PaysAll v.excess.turned m implied front k.sum.terms (pos v.excess.slack) =
    subst (λ (xs : List Term). PaysAll v.excess.turned m implied front xs (pos v.excess.slack)) same pays in
    end_reason (reified_refuted k) m implied front ls s cause read fine whole
    (verdict (total k.sum.terms (arg_ends (hulls (against m ls)))) (arg_ends (hulls (against m ls)) k.output) (paid (hulls (against m ls)) left)
    (arg_near v.side m implied front ls k.output s has fine o whole covers))

pub certain_verdict_of : (k : SumRelation) (t y : Ends) (e : Excess) (r : Relation) (b : ℤ) → r ≡ k.relation → b ≡ k.bound → y.hi ≤ℤ pos 0 → IsCertainExcess r b t e
    → IsVerdict k t y (record { excess = e; side = High })
certain_verdict_of k t y e r b same_relation same_bound high excess =
    certain_verdict_is k t y e high (subst (λ (q : Relation). IsCertainExcess q k.bound t e) same_relation (subst (λ (c : ℤ). IsCertainExcess r c t e) same_bound excess))

pub refuted_verdict_of : (k : SumRelation) (t y : Ends) (e : Excess) (r : Relation) (b : ℤ) → r ≡ k.relation → b ≡ k.bound → pos 1 ≤ℤ y.lo → IsExcess r b t e
    → IsVerdict k t y (record { excess = e; side = Low })
refuted_verdict_of k t y e r b same_relation same_bound low excess =
    refuted_verdict_is k t y e low (subst (λ (q : Relation). IsExcess q k.bound t e) same_relation (subst (λ (c : ℤ). IsExcess r c t e) same_bound excess))

-- the argument's cell in the refuted box has a value
pub arg_sane : (m : Box) (implied : Option Literal) (x : Arg) → IsBox m → ArgHas (λ u. u.0 < length m.starts) x → IsOpen (cell_of m) implied
    → ArgHas (λ u. IsSane (asked m implied u.0)) x
arg_sane m implied (Var u) s lt o = sane_asked m implied u.0 (s.cells u.0 lt) o
arg_sane m implied (Const v) s lt o = tt
