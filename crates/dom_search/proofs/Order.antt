-- Being better is an order.
use Rattle.std.proofs.Common.{List, ℤ}
use Rattle.std.specs.Cmp.{IsTotalOrder}
use Rattle.std.specs.Cmp.Lexicographic.{slice_cmp}
use Rattle.std.specs.Ordering.{int_cmp}
use Rattle.std.proofs.lemmas.Cmp.{lists_total, int_cmp_total, tied_itself}
use Rattle.dom_model.specs.Problem.{Problem}
use Rattle.dom_model.specs.Least.{key_of, IsBetter}

keys_total : IsTotalOrder (slice_cmp int_cmp)
keys_total = lists_total int_cmp_total

-- what is better than a better one is better
pub better_trans : (p : Problem) (a b c : List ℤ) → IsBetter p a b → IsBetter p b c → IsBetter p a c
better_trans p a b c h k = keys_total.trans (key_of p a) (key_of p b) (key_of p c) h k

-- no assignment is better than itself
pub never_better : (p : Problem) (a : List ℤ) → IsBetter p a a → ⊥
never_better p a h = let e = tied_itself keys_total (key_of p a) in cc
