-- How many places are unseen.
use Rattle.std.proofs.Common.{◌≡◌, ℕ, zero, suc, ◌+◌, ◌<◌, ◌≤◌, List, [], ◌∷◌, length, get_or, set, arith}
use Rattle.chains.specs.declared.marks.Mark.{Mark}
use Rattle.chains.specs.declared.marks.Mark.TheVariants.{Unseen, Endless, EndsAt}

abbrev pub one_if_unseen : Mark → ℕ
one_if_unseen Unseen = 1
one_if_unseen Endless = 0
one_if_unseen (EndsAt e) = 0

abbrev pub unseen : List Mark → ℕ
unseen [] = 0
unseen (m ∷ ms) = one_if_unseen m + unseen ms

at_most_one : (m : Mark) → one_if_unseen m ≤ 1
at_most_one Unseen = omega arith
at_most_one Endless = omega arith
at_most_one (EndsAt e) = omega arith

pub unseen_below : (ms : List Mark) → unseen ms ≤ length ms
unseen_below [] = omega arith
unseen_below (m ∷ ms) = omega (arith, at_most_one m, unseen_below ms)

-- a place that is marked is one less
pub unseen_put : (ms : List Mark) (k : ℕ) → get_or ms k Endless ≡ Unseen → unseen (set ms k Endless) + 1 ≡ unseen ms
unseen_put [] k e = absurd cc
unseen_put (m ∷ ms) zero e = let is : m ≡ Unseen = e in rw is (omega arith)
unseen_put (m ∷ ms) (suc k) e = omega (arith, unseen_put ms k e)

pub unseen_some : (ms : List Mark) (k : ℕ) → get_or ms k Endless ≡ Unseen → 0 < unseen ms
unseen_some ms k e = omega (arith, unseen_put ms k e)
