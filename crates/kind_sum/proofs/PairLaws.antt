-- Sums of two variables with small coefficients.
use Rattle.std.proofs.Common.{◌≡◌, ℕ, ◌+◌, ◌≤◌, ◌^◌, true, false, List, [], ◌∷◌, max, ℤ, pos, ◌*ℤ◌, int_lt, unsigned_abs, FitsSigned, w8, w64, if◌then◌else◌, subst, sym, ap, ◌∙◌, arith}
use Rattle.std.proofs.Math.Nat.{mul-le-mul}
use Rattle.std.proofs.lemmas.Int.{ints, unsigned_abs-mul}
use Rattle.dom_core.specs.Ends.{Ends, scaled_ends, size_of}
use Rattle.dom_core.specs.declared.arg.Arg.TheVariants.{Var}
use Rattle.kind_sum.specs.SumRelation.{SumRelation, SumFits}
use Rattle.kind_law.specs.Argument.{arg_ends}
use Rattle.kind_sum.specs.Sum.{magnitude}
use Rattle.kind_sum.specs.declared.term.Term.{Term}

both_at_most : (a b n : ℕ) → a ≤ n → b ≤ n → max a b ≤ n
both_at_most a b n h g = omega arith

times_size : (c x : ℤ) → unsigned_abs c ≤ 2 ^ 7 → unsigned_abs x ≤ 2 ^ 63 → unsigned_abs (c *ℤ x) ≤ 2 ^ 70
times_size c x h g = subst (λ (n : ℕ). n ≤ 2 ^ 70) (sym (unsigned_abs-mul c x)) (mul-le-mul h g)

scaled_size : (c : ℤ) (e : Ends) → unsigned_abs c ≤ 2 ^ 7 → unsigned_abs e.lo ≤ 2 ^ 63 → unsigned_abs e.hi ≤ 2 ^ 63 → size_of (scaled_ends c e) ≤ 2 ^ 70
scaled_size c e h low high =
    elim (int_lt c (pos 0)) as (λ t. max (unsigned_abs (if t then c *ℤ e.hi else c *ℤ e.lo)) (unsigned_abs (if t then c *ℤ e.lo else c *ℤ e.hi)) ≤ 2 ^ 70) [
      | true ↦ both_at_most (unsigned_abs (c *ℤ e.hi)) (unsigned_abs (c *ℤ e.lo)) (2 ^ 70) (times_size c e.hi h high) (times_size c e.lo h low)
      | false ↦ both_at_most (unsigned_abs (c *ℤ e.lo)) (unsigned_abs (c *ℤ e.hi)) (2 ^ 70) (times_size c e.lo h low) (times_size c e.hi h high)
    ]

pub byte_size : (c : ℤ) → FitsSigned w8 c → unsigned_abs c ≤ 2 ^ 7
byte_size c f = omega (arith, ints)

-- the ends are numbers of 64 bits
pub record IsWide (e : Ends) : Type 0 where
  pub low : FitsSigned w64 e.lo
  pub high : FitsSigned w64 e.hi

word_size : (x : ℤ) → FitsSigned w64 x → unsigned_abs x ≤ 2 ^ 63
word_size x f = omega (arith, ints)

pub pair_fits : (k : SumRelation) (a b : ℤ) (s : ℕ → Ends) → k.terms ≡ record { coef = a; arg = Var (record { 0 = 0 }) } ∷ record { coef = b; arg = Var (record { 0 = 1 }) } ∷ []
    → FitsSigned w8 a → FitsSigned w8 b → IsWide (s 0) → IsWide (s 1) → SumFits k s
pair_fits k a b s e f g x y =
    let first : size_of (scaled_ends a (s 0)) ≤ 2 ^ 70 = scaled_size a (s 0) (byte_size a f) (word_size (s 0).lo x.low) (word_size (s 0).hi x.high) in
    let second : size_of (scaled_ends b (s 1)) ≤ 2 ^ 70 = scaled_size b (s 1) (byte_size b g) (word_size (s 1).lo y.low) (word_size (s 1).hi y.high) in
    let both : size_of (scaled_ends a (s 0)) + (size_of (scaled_ends b (s 1)) + 0) ≤ 2 ^ 101 = omega arith in
    subst (λ (ts : List Term). magnitude ts (arg_ends s) ≤ 2 ^ 101) (sym e) both

pub pair_terms : (x y a b : ℤ) → x ≡ a → y ≡ b
    → (record { coef = x; arg = Var (record { 0 = 0 }) } ∷ record { coef = y; arg = Var (record { 0 = 1 }) } ∷ [])
    ≡ (let ts : List Term = record { coef = a; arg = Var (record { 0 = 0 }) } ∷ record { coef = b; arg = Var (record { 0 = 1 }) } ∷ [] in ts)
pair_terms x y a b e f =
    ap (λ (z : ℤ). let ts : List Term = record { coef = z; arg = Var (record { 0 = 0 }) } ∷ record { coef = y; arg = Var (record { 0 = 1 }) } ∷ [] in ts) e
    ∙ ap (λ (z : ℤ). let ts : List Term = record { coef = a; arg = Var (record { 0 = 0 }) } ∷ record { coef = z; arg = Var (record { 0 = 1 }) } ∷ [] in ts) f
