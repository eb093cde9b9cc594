-- How many values of a rising list are less than a value.
use Rattle.std.proofs.Common.{◌≡◌, ℕ, ◌+◌, ◌<◌, ◌≤◌, List, length, get_or, ℤ, pos, ◌+ℤ◌, ◌<ℤ◌, ◌≤ℤ◌, arith, inl, inr}
use Rattle.std.proofs.lemmas.Int.{ints}
use Rattle.dom_core.specs.Rises.{Rises, count_of, range_of}
use Rattle.dom_core.specs.Rises.{IsRank}
use Rattle.dom_core.proofs.RisesLaws.{rises_read, less_or_same, range-length, range-get, count_is, less_before}

-- ---- ranks

pub rank_of_range : (lo hi v : ℤ) (k : ℕ) → k ≤ count_of lo hi → ((i : ℕ) → i < k → (lo +ℤ pos i) <ℤ v)
    → ((i : ℕ) → k ≤ i → i < count_of lo hi → v ≤ℤ (lo +ℤ pos i)) → IsRank (range_of lo hi) v k
rank_of_range lo hi v k within below from =
    let n : length (range_of lo hi) ≡ count_of lo hi = range-length lo hi in
    record {
      within = omega arith;
      below = λ i lt. (let h : (lo +ℤ pos i) <ℤ v = below i lt in
          let e : get_or (range_of lo hi) i (pos 0) ≡ (lo +ℤ pos i) = range-get lo hi i (pos 0) (omega arith) in omega (arith, ints));
      from = λ i le lt. (let h : v ≤ℤ (lo +ℤ pos i) = from i le (omega arith) in
          let e : get_or (range_of lo hi) i (pos 0) ≡ (lo +ℤ pos i) = range-get lo hi i (pos 0) lt in omega (arith, ints));
    }

pub rank_before : (lo hi v : ℤ) → v ≤ℤ lo → IsRank (range_of lo hi) v 0
rank_before lo hi v h = rank_of_range lo hi v 0 (omega arith) (λ i lt. absurd (omega arith)) (λ i le lt. omega (arith, ints))

pub rank_beyond : (lo hi v : ℤ) (k : ℕ) → lo ≤ℤ hi → hi <ℤ v → (lo +ℤ pos k) ≡ (hi +ℤ pos 1) → IsRank (range_of lo hi) v k
rank_beyond lo hi v k ends h e =
    let is : (lo +ℤ pos (count_of lo hi)) ≡ (hi +ℤ pos 1) = count_is lo hi ends in
    let same : k ≡ count_of lo hi = omega (arith, ints) in
    rank_of_range lo hi v k (omega arith) (λ i lt. omega (arith, ints)) (λ i le lt. absurd (omega arith))

pub rank_within : (lo hi v : ℤ) (k : ℕ) → lo ≤ℤ hi → v ≤ℤ hi → (lo +ℤ pos k) ≡ v → IsRank (range_of lo hi) v k
rank_within lo hi v k ends h e =
    let is : (lo +ℤ pos (count_of lo hi)) ≡ (hi +ℤ pos 1) = count_is lo hi ends in
    rank_of_range lo hi v k (omega (arith, ints)) (λ i lt. omega (arith, ints)) (λ i le lt. omega (arith, ints))

-- what a halving has found: all before `low` are less, none from `high` on is
pub record Between (xs : List ℤ) (v : ℤ) (low high : ℕ) : Type 0 where
  pub ends : low ≤ high
  pub within : high ≤ length xs
  pub below : (i : ℕ) → i < low → get_or xs i (pos 0) <ℤ v
  pub from : (i : ℕ) → high ≤ i → i < length xs → v ≤ℤ get_or xs i (pos 0)

pub between_first : (xs : List ℤ) (v : ℤ) → Between xs v 0 (length xs)
between_first xs v = record {
  ends = omega arith;
  within = omega arith;
  below = λ i lt. absurd (omega arith);
  from = λ i le lt. absurd (omega arith);
}

pub between_up : (xs : List ℤ) (v : ℤ) (low high middle : ℕ) → Rises xs → Between xs v low high → low ≤ middle → middle < high
    → get_or xs middle (pos 0) <ℤ v → Between xs v (middle + 1) high
between_up xs v low high middle r b le lt h = record {
  ends = omega arith;
  within = b.within;
  below = less_before xs middle (pos 0) v r (omega arith) h;
  from = b.from;
}

pub from_middle : (xs : List ℤ) (middle : ℕ) (v : ℤ) → Rises xs → v ≤ℤ get_or xs middle (pos 0)
    → (k : ℕ) → middle ≤ k → k < length xs → v ≤ℤ get_or xs k (pos 0)
from_middle xs middle v r h k above lt =
    elim (less_or_same middle k above) [
      | inl less ↦ (let up : get_or xs middle (pos 0) <ℤ get_or xs k (pos 0) = rises_read xs middle k (pos 0) r less lt in omega (arith, ints))
      | inr same ↦ rw (← same) h
    ]

pub between_down : (xs : List ℤ) (v : ℤ) (low high middle : ℕ) → Rises xs → Between xs v low high → low ≤ middle → middle < high
    → v ≤ℤ get_or xs middle (pos 0) → Between xs v low middle
between_down xs v low high middle r b le lt h = record {
  ends = le;
  within = (let w : high ≤ length xs = b.within in omega arith);
  below = b.below;
  from = from_middle xs middle v r h;
}

pub between_done : (xs : List ℤ) (v : ℤ) (low high : ℕ) → Between xs v low high → high ≤ low → IsRank xs v low
between_done xs v low high b le =
    let e : low ≤ high = b.ends in
    let w : high ≤ length xs = b.within in
    record { within = omega arith; below = b.below; from = λ i up lt. b.from i (omega arith) lt }
