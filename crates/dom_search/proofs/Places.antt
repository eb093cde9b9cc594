-- One domain after the other.
use Rattle.std.proofs.Common.{◌≡◌, ℕ, ◌+◌, ◌*◌, ◌/◌, ◌%◌, ◌<◌, ◌≤◌, List, [], ◌∷◌, ◌++◌, length, take, drop, drop-cons, slice_index_or, refl, sym, ◌∙◌, ap, arith, pos, ℤ, add-one, set, append_assoc, Some}
use Rattle.std.specs.List.{slice_get}
use Rattle.std.proofs.Math.Nat.{mul-div_cancel_left, mod-lt}
use Rattle.std.proofs.Math.Seq.{take-suc-set}
use Rattle.std.proofs.lemmas.Option.{get_or_from_slice_get, slice_get_within}
use Rattle.std.proofs.lemmas.List.{take_all, drop_all, append-nil}
use Rattle.dom_network.specs.Free.{tuple_count_of}
use Rattle.dom_search.specs.Tuples.{tuple_at}
use Rattle.dom_search.proofs.Tuples.{positive_right, quotient_below, tuple-length}

-- what stands from a place on
pub drop_at : (ds : List (List ℤ)) (i : ℕ) (d : List ℤ) → slice_get ds i ≡ Some d → drop i ds ≡ d ∷ drop (i + 1) ds
drop_at ds i d e =
    let here = get_or_from_slice_get ds i d d e in
    rw (add-one, drop-cons ds i d (slice_get_within ds i d e), here) refl

-- the number of tuples from a place on is that of the domain there, times that of the rest
pub first_of_rest : (ds : List (List ℤ)) (i : ℕ) (d : List ℤ) → slice_get ds i ≡ Some d → tuple_count_of (drop i ds) ≡ length d * tuple_count_of (drop (i + 1) ds)
first_of_rest ds i d e = rw (drop_at ds i d e) refl

-- a tuple whose first values are written, with what is left of its number
pub record IsWritten (ds : List (List ℤ)) (number : ℕ) (tuple : List ℤ) (i block rest : ℕ) : Type 0 where
  pub block_is : block ≡ tuple_count_of (drop i ds)
  pub below : rest < block
  pub done : take i tuple ++ tuple_at (drop i ds) rest ≡ tuple_at ds number

-- the block of the next place
pub next_block : (ds : List (List ℤ)) (i block : ℕ) (d : List ℤ) → slice_get ds i ≡ Some d → 0 < length d
    → block ≡ tuple_count_of (drop i ds) → block / length d ≡ tuple_count_of (drop (i + 1) ds)
next_block ds i block d e some is = rw (is, first_of_rest ds i d e) (mul-div_cancel_left (tuple_count_of (drop (i + 1) ds)) some)

pub value_within : (ds : List (List ℤ)) (i block rest : ℕ) (d : List ℤ) → slice_get ds i ≡ Some d → 0 < length d
    → block ≡ tuple_count_of (drop i ds) → rest < block → rest / (block / length d) < length d
value_within ds i block rest d e some is below =
    rw (next_block ds i block d e some is)
    (quotient_below (length d) (tuple_count_of (drop (i + 1) ds)) rest (rw (← first_of_rest ds i d e, ← is) below))

pub one_written : (ds : List (List ℤ)) (number : ℕ) (tuple : List ℤ) (i block rest : ℕ) (d : List ℤ) (v : ℤ)
    → IsWritten ds number tuple i block rest → slice_get ds i ≡ Some d → i < length tuple → 0 < length d
    → slice_get d (rest / (block / length d)) ≡ Some v
    → IsWritten ds number (set tuple i v) (i + 1) (block / length d) (rest % (block / length d))
one_written ds number tuple i block rest d v w e within some is =
    let b : block / length d ≡ tuple_count_of (drop (i + 1) ds) = next_block ds i block d e some w.block_is in
    let bound : rest < length d * tuple_count_of (drop (i + 1) ds) = rw (← first_of_rest ds i d e, ← w.block_is) w.below in
    let here : slice_index_or d (rest / tuple_count_of (drop (i + 1) ds)) (pos 0) ≡ v = get_or_from_slice_get d _ v (pos 0) (rw (← b) is) in
    let front : take (i + 1) (set tuple i v) ≡ take i tuple ++ v ∷ [] = rw add-one (take-suc-set tuple i v within) in
    let whole = rw (drop_at ds i d e, here) at w.done in
    record {
      block_is = b;
      below = rw b (mod-lt rest (positive_right (length d) (tuple_count_of (drop (i + 1) ds)) rest bound));
      done = rw (front, b, append_assoc) whole;
    }

-- before the first place is written
pub none_written : (ds : List (List ℤ)) (number count : ℕ) (tuple : List ℤ) → count ≡ tuple_count_of ds → number < count
    → IsWritten ds number tuple 0 count number
none_written ds number count tuple is below = record { block_is = is; below = below; done = refl }

-- when every place is written
pub all_written : (ds : List (List ℤ)) (number : ℕ) (tuple : List ℤ) (i block rest : ℕ) → IsWritten ds number tuple i block rest
    → length ds ≤ i → length tuple ≤ i → tuple ≡ tuple_at ds number
all_written ds number tuple i block rest w k h =
    let end : drop i ds ≡ [] = drop_all i ds k in
    let whole = rw (take_all i tuple h, end, append-nil) at w.done in
    whole

-- what is written over a whole list is what stands there
written_back : (xs ys : List ℤ) (n : ℕ) → length xs ≡ n → length ys ≡ n → take n (xs ++ drop (length xs) ys) ≡ xs
written_back xs ys n e f =
    let end : drop (length xs) ys ≡ [] = drop_all (length xs) ys (omega (arith, e, f)) in
    rw (end, append-nil) (take_all n xs (omega (arith, e)))

-- so it is with a tuple that is written over another one
pub tuple_written : (ds : List (List ℤ)) (number : ℕ) (xs ys : List ℤ) (n : ℕ) → xs ≡ tuple_at ds number → length ys ≡ length ds → length ys ≡ n
    → take n (xs ++ drop (length xs) ys) ≡ tuple_at ds number
tuple_written ds number xs ys n is e f =
    let as_long : length xs ≡ length ds = ap length is ∙ tuple-length ds number in
    written_back xs ys n (as_long ∙ sym e ∙ f) f ∙ is

-- there are tuples of the domains behind a place that is to be written
pub rest_positive : (ds : List (List ℤ)) (i block rest : ℕ) (d : List ℤ) → slice_get ds i ≡ Some d
    → block ≡ tuple_count_of (drop i ds) → rest < block → 0 < tuple_count_of (drop (i + 1) ds)
rest_positive ds i block rest d e is below =
    positive_right (length d) (tuple_count_of (drop (i + 1) ds)) rest (rw (← first_of_rest ds i d e, ← is) below)

-- so the block of the next place is some
pub next_positive : (ds : List (List ℤ)) (i block rest : ℕ) (d : List ℤ) → slice_get ds i ≡ Some d → 0 < length d
    → block ≡ tuple_count_of (drop i ds) → rest < block → 0 < block / length d
next_positive ds i block rest d e some is below = rw (next_block ds i block d e some is) (rest_positive ds i block rest d e is below)
