-- Sums over digits fit, also over what cutting leaves of the digits.
use Rattle.std.proofs.Common.{◌≡◌, Bool, ℕ, ◌*◌, ◌<◌, ◌≤◌, true, ◌&&◌, List, [], ◌∷◌, length, ℤ, pos, ◌*ℤ◌, ◌-ℤ◌, ◌≤ℤ◌, int_le, refl, sym, ◌∙◌, ap, subst, arith, inl, inr, Option, Some, None, IfSome}
use Rattle.std.proofs.Math.Nat.{mul-le-mul_left}
use Rattle.std.proofs.lemmas.Int.{ints, unsigned_abs-mul}
use Rattle.std.proofs.lemmas.List.{length-set, length-replicate}
use Rattle.std.proofs.lemmas.List.Elements.{All-cons, All-head, All-tail, All-set, All-replicate}
use Rattle.std.specs.Prelude.{unsigned_abs, replicate, slice_set}
use Rattle.std.specs.List.{All}
use Rattle.dom_core.specs.Ends.{Ends, only, scaled_ends, size_of}
use Rattle.dom_core.specs.View.{still, movement_at}
use Rattle.dom_core.specs.declared.literal.Literal.{Literal}
use Rattle.dom_core.specs.declared.var_id.VarId.{VarId}
use Rattle.dom_core.specs.declared.view.Movement.{Movement}
use Rattle.dom_core.specs.Rises.{range_of}
use Rattle.dom_core.specs.declared.arg.Arg.{Arg}
use Rattle.dom_core.specs.declared.arg.Arg.TheVariants.{Var, Const}
use Rattle.dom_core.proofs.ProductLaws.{scaled_low, scaled_high}
use Rattle.dom_core.proofs.RisesLaws.{range-among}
use Rattle.dom_core.proofs.TestLaws.{le_true, and_first, and_second}
use Rattle.dom_cells.specs.Box.{Box, start_at, cell_of, IsBox}
use Rattle.dom_cells.specs.Cell.{lo_of, hi_of, has_of, IsCell}
use Rattle.dom_cells.specs.declared.start.Start.{Start}
use Rattle.dom_cells.specs.declared.start.Start.TheVariants.{Values, Span}
use Rattle.dom_cells.proofs.BoxLaws.{sane-cell, sane-ends}
use Rattle.kind_law.specs.Laws.{Each, AllBelow, EndsIn, IsTrueChange, hulls, befores, afters}
use Rattle.kind_law.specs.Next.{IsNext}
use Rattle.kind_law.specs.Visit.{AllImplied, IsVisited}
use Rattle.kind_law.specs.declared.visited.Visited.{Visited}
use Rattle.kind_law.specs.declared.visited.Visited.TheVariants.{Refuted, Ends as Told}
use Rattle.kind_law.proofs.EachLaws.{each_at, each_map}
use Rattle.kind_law.proofs.ReasonLaws.{from_start}
use Rattle.kind_sum.specs.SumRelation.{SumRelation, sum_vars, sum_refuted, SumFits}
use Rattle.kind_sum.specs.SumRelationLaws.{sum-fits}
use Rattle.kind_law.specs.Argument.{arg_ends}
use Rattle.kind_sum.specs.Sum.{magnitude, terms_of, vars_of}
use Rattle.kind_law.proofs.ArgumentLaws.{each_distinct}
use Rattle.dom_core.specs.declared.relation.Relation.{Relation}
use Rattle.bench_linear.specs.Digits.{digit_ends, AreDigits, AreOn, IsDigitSum, IsDigitMove, IsDigitView}

-- ---- sums over all digits

-- the size of the coefficient is at most this
abbrev pub IsSlight : ℤ → Type 0
IsSlight c = unsigned_abs c ≤ 1000

-- the argument is one of so many variables
abbrev pub IsVarBelow : ℕ → Arg → Type 0
IsVarBelow n (Var x) = x.0 < n
IsVarBelow n (Const c) = ⊥

times_slight : (c x : ℤ) → unsigned_abs c ≤ 1000 → unsigned_abs x ≤ 9 → unsigned_abs (c *ℤ x) ≤ 9000
times_slight c x small digit =
    let e : unsigned_abs (c *ℤ x) ≡ unsigned_abs c * unsigned_abs x = unsigned_abs-mul c x in
    let most : unsigned_abs c * unsigned_abs x ≤ unsigned_abs c * 9 = mul-le-mul_left (unsigned_abs c) digit in
    omega arith

scaled_slight : (c : ℤ) → IsSlight c → size_of (scaled_ends c digit_ends) ≤ 9000
scaled_slight c small =
    let first : unsigned_abs (c *ℤ pos 0) ≤ 9000 = times_slight c (pos 0) small (omega arith) in
    let last : unsigned_abs (c *ℤ pos 9) ≤ 9000 = times_slight c (pos 9) small (omega arith) in
    let low : unsigned_abs (scaled_ends c digit_ends).lo ≤ 9000 =
    elim (scaled_low c digit_ends) [
      | inl e ↦ subst (λ (x : ℤ). unsigned_abs x ≤ 9000) (sym e) first
      | inr e ↦ subst (λ (x : ℤ). unsigned_abs x ≤ 9000) (sym e) last
    ] in
    let high : unsigned_abs (scaled_ends c digit_ends).hi ≤ 9000 =
    elim (scaled_high c digit_ends) [
      | inl e ↦ subst (λ (x : ℤ). unsigned_abs x ≤ 9000) (sym e) first
      | inr e ↦ subst (λ (x : ℤ). unsigned_abs x ≤ 9000) (sym e) last
    ] in
    omega arith

sum_small : (n : ℕ) (cs : List ℤ) (xs : List Arg) → All IsSlight cs → All (IsVarBelow n) xs
    → magnitude (terms_of cs xs) (arg_ends (λ v. digit_ends)) ≤ 9000 * length cs
sum_small n [] xs small vars = omega arith
sum_small n (c ∷ cs) [] small vars = omega arith
sum_small n (c ∷ cs) (Var x ∷ xs) small vars =
    let first : size_of (scaled_ends c digit_ends) ≤ 9000 = scaled_slight c (All-head IsSlight c cs small) in
    let rest : magnitude (terms_of cs xs) (arg_ends (λ v. digit_ends)) ≤ 9000 * length cs =
    sum_small n cs xs (All-tail IsSlight c cs small) (All-tail (IsVarBelow n) (Var x) xs vars) in
    omega arith
sum_small n (c ∷ cs) (Const d ∷ xs) small vars = absurd (All-head (IsVarBelow n) (Const d) xs vars)

sum_below : (n : ℕ) (cs : List ℤ) (xs : List Arg) → All (IsVarBelow n) xs → Each (λ u. u.0 < n) (vars_of (terms_of cs xs))
sum_below n [] xs vars = tt
sum_below n (c ∷ cs) [] vars = tt
sum_below n (c ∷ cs) (Var x ∷ xs) vars = (All-head (IsVarBelow n) (Var x) xs vars, sum_below n cs xs (All-tail (IsVarBelow n) (Var x) xs vars))
sum_below n (c ∷ cs) (Const d ∷ xs) vars = absurd (All-head (IsVarBelow n) (Const d) xs vars)

-- few terms with small coefficients are a sum over digits
pub digit_sum_is : (n : ℕ) (cs : List ℤ) (xs : List Arg) (r : Relation) (b : ℤ) → length cs ≤ 1000 → All IsSlight cs → All (IsVarBelow n) xs
    → IsDigitSum n (record { terms = terms_of cs xs; relation = r; bound = b })
digit_sum_is n cs xs r b few small vars = record {
  below = each_distinct (λ u. u.0 < n) (vars_of (terms_of cs xs)) (sum_below n cs xs vars);
  fits = (let h : magnitude (terms_of cs xs) (arg_ends (λ v. digit_ends)) ≤ 9000 * length cs = sum_small n cs xs small vars in omega arith);
}

-- ---- cells that were cut from digits

pub digits_at : (n v : ℕ) (starts : List Start) → AreDigits n starts → v < n → start_at starts v ≡ Values (range_of (pos 0) (pos 9))
digits_at n v starts digits lt = digits.each v (Span (pos 0) (pos 0)) (omega (arith, digits.width))

is_digit : (n v : ℕ) (m : Box) (x : ℤ) → AreDigits n m.starts → IsBox m → v < n → has_of (cell_of m v) x ≡ true → (pos 0 ≤ℤ x) × (x ≤ℤ pos 9)
is_digit n v m x digits b lt h =
    let among : (int_le (pos 0) x && int_le x (pos 9)) ≡ true =
    sym (range-among (pos 0) (pos 9) x) ∙ ap (λ (s : Start). has_of s x) (sym (digits_at n v m.starts digits lt))
    ∙ from_start m v x b (omega (arith, digits.width)) h in
    (le_true (pos 0) x (and_first (int_le (pos 0) x) (int_le x (pos 9)) among), le_true x (pos 9) (and_second (int_le (pos 0) x) (int_le x (pos 9)) among))

cell_in_digits : (n v : ℕ) (m : Box) → AreDigits n m.starts → IsBox m → v < n → EndsIn (hulls (cell_of m) v) digit_ends
cell_in_digits n v m digits b lt =
    let sane = b.cells v (omega (arith, digits.width)) in
    let cell : IsCell (cell_of m v) = sane-cell (cell_of m v) sane in
    record {
      low = (is_digit n v m (lo_of (cell_of m v)) digits b lt cell.least).0;
      order = sane-ends (cell_of m v) sane;
      high = (is_digit n v m (hi_of (cell_of m v)) digits b lt cell.greatest).1;
    }

-- a sum over digits fits in intervals that lie in the digits
spans_fit : (n : ℕ) (k : SumRelation) (s : ℕ → Ends) → IsDigitSum n k → ((v : ℕ) → v < n → EndsIn (s v) digit_ends) → SumFits k s
spans_fit n k s sum within =
    sum-fits k s (λ v. digit_ends)
    (record { parts = each_map (λ u. u.0 < n) (λ u. EndsIn (s u.0) digit_ends) (sum_vars k) (λ u lt. within u.0 lt) sum.below })
    sum.fits

-- a sum over digits fits in every box that was cut from digits
pub digits_fit : (n : ℕ) (k : SumRelation) (m : Box) → IsDigitSum n k → AreDigits n m.starts → IsBox m → SumFits k (hulls (cell_of m))
digits_fit n k m sum digits b = spans_fit n k (hulls (cell_of m)) sum (λ v lt. cell_in_digits n v m digits b lt)

pub digits_below : (n : ℕ) (k : SumRelation) (starts : List Start) → IsDigitSum n k → AreDigits n starts → AllBelow (length starts) (sum_vars k)
digits_below n k starts sum digits = subst (λ (w : ℕ). AllBelow w (sum_vars k)) (sym digits.width) sum.below

-- an implied end is on one of the sum's variables
pub next_below : (n : ℕ) (k : SumRelation) (b : ℕ → Start) (r : Option Literal) → IsDigitSum n k → IsNext (sum_refuted k) (sum_vars k) b r → IfSome r (λ l. l.var.0 < n)
next_below n k b None sum e = tt
next_below n k b (Some l) sum e = each_at (λ u. u.0 < n) (sum_vars k) e.0 l.var sum.below e.2

implied_on : (refuted : (ℕ → Start) → Bool) (b : ℕ → Start) (n : ℕ) (ls : List Literal) → AllImplied refuted b n ls → AreOn n ls
implied_on refuted b n [] h = λ i d lt. absurd (omega arith)
implied_on refuted b n (l ∷ ls) h = All-cons (λ l. l.var.0 < n) l ls h.0 (implied_on refuted b n ls h.2)

-- what a visit tells is on the sum's variables
pub visited_on : (refuted : (ℕ → Start) → Bool) (vars : List VarId) (b : ℕ → Start) (n : ℕ) (v : Visited) (ls : List Literal) → IsVisited refuted vars b n v ls → AreOn n ls
visited_on refuted vars b n Refuted ls h = subst (AreOn n) (sym h.1) (implied_on refuted b n [] tt)
visited_on refuted vars b n (Told more) ls h = implied_on refuted b n ls h.ends.implied

-- ---- views of digits

move_at : (n v : ℕ) (view : List Movement) → IsDigitView n view → v < n → IsDigitMove (movement_at view v)
move_at n v view d lt = d.each v still (omega (arith, d.width))

pub befores_fit : (n : ℕ) (k : SumRelation) (view : List Movement) → IsDigitSum n k → IsDigitView n view → SumFits k (befores view)
befores_fit n k view sum d = spans_fit n k (befores view) sum (λ v lt. (move_at n v view d lt).before)

pub afters_fit : (n : ℕ) (k : SumRelation) (view : List Movement) → IsDigitSum n k → IsDigitView n view → SumFits k (afters view)
afters_fit n k view sum d = spans_fit n k (afters view) sum (λ v lt. (move_at n v view d lt).after)

pub changes_true : (n : ℕ) (k : SumRelation) (view : List Movement) → IsDigitSum n k → IsDigitView n view → Each (λ u. IsTrueChange (movement_at view u.0)) (sum_vars k)
changes_true n k view sum d =
    each_map (λ u. u.0 < n) (λ u. IsTrueChange (movement_at view u.0)) (sum_vars k) (λ u lt. (move_at n u.0 view d lt).change) sum.below

-- a variable that moves from one digit to another
pub digit_move : (before after : ℕ) (m : Movement) → before ≤ 9 → after ≤ 9 → m.before ≡ only (pos before) → m.after ≡ only (pos after) → m.change ≡ only (pos after -ℤ pos before)
    → IsDigitMove m
digit_move before after m b a is_before is_after is_change = record {
  before = subst (λ (e : Ends). EndsIn e digit_ends) (sym is_before) (record { low = omega (arith, ints); order = omega (arith, ints); high = omega (arith, ints) });
  after = subst (λ (e : Ends). EndsIn e digit_ends) (sym is_after) (record { low = omega (arith, ints); order = omega (arith, ints); high = omega (arith, ints) });
  change = rw (is_before, is_after, is_change) (record { low = omega (arith, ints); order = omega (arith, ints); high = omega (arith, ints) });
}

resting : IsDigitMove still
resting = digit_move 0 0 still (omega arith) (omega arith) refl refl refl

pub all_rest : (n : ℕ) (view : List Movement) → view ≡ replicate n still → IsDigitView n view
all_rest n view e = subst (IsDigitView n) (sym e) (record { width = length-replicate n still; each = All-replicate IsDigitMove n still resting })

pub moved : (n : ℕ) (old new : List Movement) (i : ℕ) (m : Movement) → IsDigitView n old → new ≡ slice_set old i m → IsDigitMove m → IsDigitView n new
moved n old new i m d e h =
    subst (IsDigitView n) (sym e) (record { width = length-set old i m ∙ d.width; each = All-set IsDigitMove old i m h d.each })
