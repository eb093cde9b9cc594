-- Intervals by their ends: what lies in them, and how large they are.
use Rattle.std.proofs.Common.{◌≡◌, ℕ, ◌+◌, ◌≤◌, ◌^◌, true, ℤ, ◌+ℤ◌, ◌-ℤ◌, ◌≤ℤ◌, int_le, unsigned_abs, FitsSigned, w64, to_z, of_z, ◌∙◌, ap, arith}
use Rattle.std.proofs.lemmas.Int.{ints, to_z-of_z}
use Rattle.std.specs.Int.{w128}
use Rattle.dom_core.specs.Ends.{Ends, lies_in, only, sum_ends, difference_ends, replaced_ends, size_of}
use Rattle.dom_core.proofs.TestLaws.{le_true, true_le, and_first, and_second, and_both}

-- ---- what lies in an interval

pub lies_low : (x : ℤ) (e : Ends) → lies_in x e ≡ true → e.lo ≤ℤ x
lies_low x e h = le_true e.lo x (and_first (int_le e.lo x) (int_le x e.hi) h)

pub lies_high : (x : ℤ) (e : Ends) → lies_in x e ≡ true → x ≤ℤ e.hi
lies_high x e h = le_true x e.hi (and_second (int_le e.lo x) (int_le x e.hi) h)

pub lies : (x : ℤ) (e : Ends) → e.lo ≤ℤ x → x ≤ℤ e.hi → lies_in x e ≡ true
lies x e h g = and_both (int_le e.lo x) (int_le x e.hi) (true_le e.lo x h) (true_le x e.hi g)

-- intervals with the same ends
pub same_ends : (a b : Ends) → a.lo ≡ b.lo → a.hi ≡ b.hi → a ≡ b
same_ends a b e f = ap (λ (x : ℤ). let d : Ends = record { lo = x; hi = a.hi } in d) e ∙ ap (λ (x : ℤ). let d : Ends = record { lo = b.lo; hi = x } in d) f

-- ---- how large the ends are

pub added_size : (a b : Ends) → size_of (sum_ends a b) ≤ size_of a + size_of b
added_size a b = omega (arith, ints)

-- an interval that small fits a machine's integers
pub fits_lo : (e : Ends) (n : ℕ) → size_of e ≤ n → n ≤ 2 ^ 102 → FitsSigned w128 e.lo
fits_lo e n h g = let k : unsigned_abs e.lo ≤ 2 ^ 102 = omega arith in omega (arith, ints)

pub fits_hi : (e : Ends) (n : ℕ) → size_of e ≤ n → n ≤ 2 ^ 102 → FitsSigned w128 e.hi
fits_hi e n h g = let k : unsigned_abs e.hi ≤ 2 ^ 102 = omega arith in omega (arith, ints)

-- a number of 64 bits and the ends of an interval of few bits differ by no more than a machine can hold
pub fits_near : (b : ℤ) (e : Ends) → FitsSigned w64 b → size_of e ≤ 2 ^ 101 → FitsSigned w128 (b -ℤ e.hi) × FitsSigned w128 (b -ℤ e.lo)
fits_near b e f h =
    let lo : unsigned_abs e.lo ≤ 2 ^ 101 = omega arith in
    let hi : unsigned_abs e.hi ≤ 2 ^ 101 = omega arith in
    (omega (arith, ints), omega (arith, ints))

pub near_size : (b : ℤ) (e : Ends) → FitsSigned w64 b → size_of e ≤ 2 ^ 101 → size_of (difference_ends (only b) e) ≤ 2 ^ 102
near_size b e f h =
    let lo : unsigned_abs e.lo ≤ 2 ^ 101 = omega arith in
    let hi : unsigned_abs e.hi ≤ 2 ^ 101 = omega arith in
    let p : unsigned_abs (b -ℤ e.hi) ≤ 2 ^ 102 = omega (arith, ints) in
    let q : unsigned_abs (b -ℤ e.lo) ≤ 2 ^ 102 = omega (arith, ints) in
    omega arith

-- the ends of a difference fit a machine's integers, and stand in order
pub difference_fits : (a b : Ends) → size_of a ≤ 2 ^ 102 → size_of b ≤ 2 ^ 102 → FitsSigned w128 (a.lo -ℤ b.hi) × FitsSigned w128 (a.hi -ℤ b.lo)
difference_fits a b h g =
    let p : unsigned_abs a.lo ≤ 2 ^ 102 = omega arith in
    let q : unsigned_abs a.hi ≤ 2 ^ 102 = omega arith in
    let r : unsigned_abs b.lo ≤ 2 ^ 102 = omega arith in
    let s : unsigned_abs b.hi ≤ 2 ^ 102 = omega arith in
    (omega (arith, ints), omega (arith, ints))

pub difference_order : (a b : Ends) → a.lo ≤ℤ a.hi → b.lo ≤ℤ b.hi → (a.lo -ℤ b.hi) ≤ℤ (a.hi -ℤ b.lo)
difference_order a b h g = omega (arith, ints)

-- ---- sums with one part replaced

pub replaced_sum : (old new rest : Ends) → sum_ends new rest ≡ replaced_ends (sum_ends old rest) old new
replaced_sum old new rest = same_ends (sum_ends new rest) (replaced_ends (sum_ends old rest) old new) (omega (arith, ints)) (omega (arith, ints))

pub replaced_fits : (t old new : Ends) → size_of t ≤ 2 ^ 101 → size_of old ≤ 2 ^ 101 → size_of new ≤ 2 ^ 101
    → (FitsSigned w128 (t.lo -ℤ old.lo) × FitsSigned w128 ((t.lo -ℤ old.lo) +ℤ new.lo)) × (FitsSigned w128 (t.hi -ℤ old.hi) × FitsSigned w128 ((t.hi -ℤ old.hi) +ℤ new.hi))
replaced_fits t old new f g h =
    let a : unsigned_abs t.lo ≤ 2 ^ 101 = omega arith in
    let b : unsigned_abs t.hi ≤ 2 ^ 101 = omega arith in
    let c : unsigned_abs old.lo ≤ 2 ^ 101 = omega arith in
    let d : unsigned_abs old.hi ≤ 2 ^ 101 = omega arith in
    let e : unsigned_abs new.lo ≤ 2 ^ 101 = omega arith in
    let k : unsigned_abs new.hi ≤ 2 ^ 101 = omega arith in
    ((omega (arith, ints), omega (arith, ints)), (omega (arith, ints), omega (arith, ints)))

pub exchanged_order : (t old new : Ends) (lo hi : ℤ) → lo ≡ ((t.lo -ℤ old.lo) +ℤ new.lo) → hi ≡ ((t.hi -ℤ old.hi) +ℤ new.hi) → (t.lo -ℤ old.lo) ≤ℤ (t.hi -ℤ old.hi)
    → new.lo ≤ℤ new.hi → lo ≤ℤ hi
exchanged_order t old new lo hi e f h g = omega (arith, ints)

pub exchanged_is : (r x y z a b d : ℤ) → r ≡ ((x -ℤ y) +ℤ z) → x ≡ a → y ≡ b → z ≡ d → r ≡ ((a -ℤ b) +ℤ d)
exchanged_is r x y z a b d e f g h = omega (arith, ints)

-- ---- few bits, and casts

pub few_bits : (e : Ends) → size_of e ≤ 2 ^ 1 → size_of e ≤ 2 ^ 102
few_bits e h = omega arith

-- a difference that a machine computes
pub cast_difference : (x y a b : ℤ) → FitsSigned w128 x → FitsSigned w128 y → x ≡ a → y ≡ b → FitsSigned w128 (a -ℤ b)
    → to_z w128 (of_z w128 (to_z w128 (of_z w128 x) -ℤ to_z w128 (of_z w128 y))) ≡ (a -ℤ b)
cast_difference x y a b f g e h fits =
    ap (λ (z : ℤ). to_z w128 (of_z w128 (z -ℤ to_z w128 (of_z w128 y)))) (to_z-of_z w128 x f ∙ e)
    ∙ ap (λ (z : ℤ). to_z w128 (of_z w128 (a -ℤ z))) (to_z-of_z w128 y g ∙ h) ∙ to_z-of_z w128 (a -ℤ b) fits
