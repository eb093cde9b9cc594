-- Products of sizes.
use Rattle.std.proofs.Common.{◌≡◌, ◌==◌, ◌↔◌, Bool, true, ℕ, zero, suc, ◌+◌, ◌*◌, ◌<◌, ◌≤◌, List, [], ◌∷◌, ◌++◌, length, get_or, take, sym, ap, ◌∙◌, arith}
use Rattle.std.specs.List.{All, Any}
use Rattle.std.proofs.Math.Nat.{mul-le-mul_left, mul_assoc, mul-zero, zero-mul}
use Rattle.std.proofs.lemmas.List.{take_more}
use Rattle.std.proofs.lemmas.Bool.{eqb-true, eq-eqb}
use Rattle.dom_index_sets.specs.declared.index_set.IndexSet.{IndexSet}
use Rattle.dom_index_sets.specs.Sizes.{size_of, product_of, IsEmpty, IsFilled}

product_push : (ss : List IndexSet) (s : IndexSet) → product_of (ss ++ s ∷ []) ≡ product_of ss * size_of s
product_push [] s = omega arith
product_push (r ∷ ss) s = ap (λ n. size_of r * n) (product_push ss s) ∙ sym (mul_assoc (size_of r) (product_of ss) (size_of s))

-- one set more
pub product_more : (ss : List IndexSet) (i : ℕ) (d : IndexSet) → i < length ss → product_of (take (i + 1) ss) ≡ product_of (take i ss) * size_of (get_or ss i d)
product_more ss i d lt = ap product_of (take_more ss i d lt) ∙ product_push (take i ss) (get_or ss i d)

rest_filled : (s : IndexSet) (ss : List IndexSet) → All IsFilled (s ∷ ss) → All IsFilled ss
rest_filled s ss all = λ k d lt. all (suc k) d (omega arith)

first_filled : (s : IndexSet) (ss : List IndexSet) → All IsFilled (s ∷ ss) → IsFilled s
first_filled s ss all = all zero s (omega arith)

one_at_least : (ss : List IndexSet) → All IsFilled ss → 1 ≤ product_of ss
one_at_least [] all = omega arith
one_at_least (s ∷ ss) all =
    let first = first_filled s ss all in
    let rest = one_at_least ss (rest_filled s ss all) in
    omega (arith, mul-le-mul_left (size_of s) rest)

-- no product falls
pub product_rises : (n : ℕ) (ss : List IndexSet) → All IsFilled ss → product_of (take n ss) ≤ product_of ss
product_rises zero ss all = one_at_least ss all
product_rises (suc n) [] all = omega arith
product_rises (suc n) (s ∷ ss) all = mul-le-mul_left (size_of s) (product_rises n ss (rest_filled s ss all))

zero_at : (ss : List IndexSet) (k : ℕ) (s : IndexSet) → k < length ss → get_or ss k s ≡ s → IsEmpty s → product_of ss ≡ 0
zero_at [] k s lt is empty = absurd (omega arith)
zero_at (r ∷ ss) zero s lt is empty = ap (λ n. n * product_of ss) (ap size_of is ∙ empty) ∙ zero-mul (product_of ss)
zero_at (r ∷ ss) (suc k) s lt is empty = ap (λ n. size_of r * n) (zero_at ss k s (omega arith) is empty) ∙ mul-zero (size_of r)

-- an empty set makes the product 0
pub empty_zero : (ss : List IndexSet) → Any IsEmpty ss → product_of ss ≡ 0
empty_zero ss any = zero_at ss any.0 any.1 any.2 any.3 any.4

-- the test tells an empty product
pub empty_told : (ss : List IndexSet) (len : ℕ) (b : Bool) → Any IsEmpty ss → b ≡ (len == 0) → (b ≡ true) ↔ (product_of ss ≡ len)
empty_told ss len b any is =
    let zero_product = empty_zero ss any in
    ((λ e. zero_product ∙ sym (eqb-true len 0 (sym is ∙ e))), (λ e. is ∙ eq-eqb len 0 (sym e ∙ zero_product)))

-- two numbers of 64 bits make one of 128
pub fits_product : (p s : ℕ) → p < 18446744073709551616 → s ≤ 18446744073709551616 → p * s < 340282366920938463463374607431768211456
fits_product p s low high = omega (arith, mul-le-mul_left p high)

-- the sizes with one more, as the calls tell them
pub product_next : (ss : List IndexSet) (i : ℕ) (d : IndexSet) (product size : ℕ) → i < length ss → product ≡ product_of (take i ss) → size ≡ size_of (get_or ss i d)
    → product * size ≡ product_of (take (i + 1) ss)
product_next ss i d product size lt so_far is = ap (λ n. n * size) so_far ∙ ap (λ n. product_of (take i ss) * n) is ∙ sym (product_more ss i d lt)

-- a product that is too great already is too great in the end
pub too_great : (ss : List IndexSet) (n len product : ℕ) → All IsFilled ss → product ≡ product_of (take n ss) → len < product → product_of ss ≡ len → ⊥
too_great ss n len product all is great same = absurd (omega (arith, product_rises n ss all))
