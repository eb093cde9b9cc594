-- Each number below the count gives a tuple, and each tuple has such a number.
use Rattle.std.proofs.Common.{◌≡◌, ℕ, zero, suc, inl, inr, ◌+◌, ◌*◌, ◌/◌, ◌%◌, ◌<◌, ◌≤◌, true, List, [], ◌∷◌, length, slice_index_or, refl, sym, ap, arith, pos, ℤ, mul-zero}
use Rattle.std.proofs.lemmas.Nat.{div-mul-add, mod-mul-add}
use Rattle.std.proofs.Math.Nat.{mod-lt, mul-le-mul_right, div-lt_iff_lt-mul}
use Rattle.dom_core.specs.Rises.{is_among}
use Rattle.dom_core.proofs.RisesLaws.{among_cases, among_read}
use Rattle.dom_network.specs.Free.{IsTuple, tuple_count_of}
use Rattle.dom_search.specs.Tuples.{tuple_at}

below_product : (a b i m : ℕ) → i < a → m < b → i * b + m < a * b
below_product a b i m h k =
    let l : (i + 1) * b ≤ a * b = mul-le-mul_right b (omega arith) in
    let e : (i + 1) * b ≡ i * b + b = omega arith in
    omega (arith, l, e)

pub positive_right : (a b n : ℕ) → n < a * b → zero < b
positive_right a zero n h = absurd (let e : a * 0 ≡ 0 = mul-zero a in omega (arith, e))
positive_right a (suc b) n h = omega arith

pub quotient_below : (a b n : ℕ) → n < a * b → n / b < a
quotient_below a b n h = (div-lt_iff_lt-mul {k = b} {x = n} {y = a} (positive_right a b n h)).1 h

-- a number below the count gives a tuple
pub tuple_at_is : (ds : List (List ℤ)) (n : ℕ) → n < tuple_count_of ds → IsTuple ds (tuple_at ds n)
tuple_at_is [] n h = tt
tuple_at_is (d ∷ ds) n h = (
  among_read d (n / tuple_count_of ds) (pos 0) (quotient_below (length d) (tuple_count_of ds) n h),
  tuple_at_is ds (n % tuple_count_of ds) (mod-lt n (positive_right (length d) (tuple_count_of ds) n h)),
)

-- what stands in a list has a place there
among_place : (x : ℤ) (d : List ℤ) → is_among x d ≡ true → (i : ℕ) × (i < length d) × (slice_index_or d i (pos 0) ≡ x)
among_place x [] h = absurd (cc)
among_place x (y ∷ ys) h =
    elim (among_cases x y ys h) [
      | inl e ↦ (0, omega arith, sym e)
      | inr t ↦
          let r : (i : ℕ) × (i < length ys) × (slice_index_or ys i (pos 0) ≡ x) = among_place x ys t in
          (suc r.0, omega (arith, r.1), r.2)
    ]

-- a tuple has a number below the count
pub number_of : (ds : List (List ℤ)) (xs : List ℤ) → IsTuple ds xs → (n : ℕ) × (n < tuple_count_of ds) × (tuple_at ds n ≡ xs)
number_of [] [] t = (0, omega arith, refl)
number_of [] (x ∷ xs) t = absurd t
number_of (d ∷ ds) [] t = absurd t
number_of (d ∷ ds) (x ∷ xs) t =
    let r : (n : ℕ) × (n < tuple_count_of ds) × (tuple_at ds n ≡ xs) = number_of ds xs t.1 in
    let i : (i : ℕ) × (i < length d) × (slice_index_or d i (pos 0) ≡ x) = among_place x d t.0 in
    let n : ℕ = i.0 * tuple_count_of ds + r.0 in (
      n,
      below_product (length d) (tuple_count_of ds) i.0 r.0 i.1 r.1,
      rw (div-mul-add i.0 (tuple_count_of ds) r.0 r.1, mod-mul-add i.0 (tuple_count_of ds) r.0 r.1, i.2, r.2) refl,
    )

pub tuple-length : (ds : List (List ℤ)) (n : ℕ) → length (tuple_at ds n) ≡ length ds
tuple-length [] n = refl
tuple-length (d ∷ ds) n = ap suc (tuple-length ds (n % tuple_count_of ds))
