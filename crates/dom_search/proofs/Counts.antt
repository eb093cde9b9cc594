-- Numbers of tuples.
use Rattle.std.proofs.Common.{◌≡◌, ℕ, zero, suc, ◌+◌, ◌*◌, ◌≤◌, inl, inr, min, List, [], ◌∷◌, ◌++◌, length, take, refl, sym, ◌∙◌, ap, arith, ℤ, add-one, Some}
use Rattle.std.specs.List.{slice_get}
use Rattle.std.proofs.Math.Nat.{mul_assoc, mul-suc, mul-zero, min-eq_left, min-eq_right}
use Rattle.std.proofs.Math.Seq.{take-suc}
use Rattle.std.proofs.lemmas.Bool.{cases_lt}
use Rattle.std.proofs.lemmas.Option.{get_or_from_slice_get, slice_get_within}
use Rattle.dom_model.specs.Least.{width_of}
use Rattle.dom_model.specs.Problem.{Problem}
use Rattle.dom_network.specs.Free.{free_of, tuple_count_of}

count_push : (ds : List (List ℤ)) (d : List ℤ) → tuple_count_of (ds ++ d ∷ []) ≡ tuple_count_of ds * length d
count_push [] d = omega arith
count_push (e ∷ ds) d = ap (λ n. length e * n) (count_push ds d) ∙ sym (mul_assoc (length e) (tuple_count_of ds) (length d))

-- one domain more
count_more : (ds : List (List ℤ)) (i : ℕ) (d : List ℤ) → slice_get ds i ≡ Some d → tuple_count_of (take (i + 1) ds) ≡ tuple_count_of (take i ds) * length d
count_more ds i d e =
    let here = get_or_from_slice_get ds i d d e in
    rw (add-one, take-suc ds i d (slice_get_within ds i d e), here) (count_push (take i ds) d)

high_stays : (n s limit : ℕ) → limit ≤ n → min (limit * s) limit ≡ min (n * s) limit
high_stays n zero limit h = rw (mul-zero limit, mul-zero n) refl
high_stays n (suc s) limit h =
    let one : limit * suc s ≡ limit * s + limit = mul-suc limit s in
    let other : n * suc s ≡ n * s + n = mul-suc n s in
    min-eq_right (omega (arith, one)) ∙ sym (min-eq_right (omega (arith, other, h)))

-- a number that was cut off at a limit may be multiplied in place of the whole
capped_product : (n s limit : ℕ) → min (min n limit * s) limit ≡ min (n * s) limit
capped_product n s limit =
    elim (cases_lt n limit) [
      | inl h ↦ rw (min-eq_left {n = n} {m = limit} (omega (arith, h))) refl
      | inr h ↦ rw (min-eq_right h) (high_stays n s limit h)
    ]

-- so many tuples, cut off at a limit, with one domain more
pub capped_more : (ds : List (List ℤ)) (i count size limit : ℕ) (d : List ℤ) → slice_get ds i ≡ Some d → size ≡ length d
    → count ≡ min (tuple_count_of (take i ds)) limit → min (count * size) limit ≡ min (tuple_count_of (take (i + 1) ds)) limit
capped_more ds i count size limit d e same is =
    rw (is, same, count_more ds i d e) (capped_product (tuple_count_of (take i ds)) (length d) limit)

pub count_within_width : (p : Problem) → tuple_count_of p.network.domains ≤ width_of p
count_within_width p =
    let e : width_of p ≡ length (free_of p.network.definers) * tuple_count_of p.network.domains + tuple_count_of p.network.domains = omega arith in
    omega (arith, e)
