-- Sums of terms that are not too great.
use Rattle.std.proofs.Common.{◌≡◌, ℕ, zero, suc, ◌*◌, ◌≤◌, List, [], ◌∷◌, length, slice_get, Some, refl, arith}
use Rattle.std.specs.List.{sum_by}
use Rattle.std.proofs.Math.Nat.{suc-mul}
use Rattle.std.proofs.lemmas.List.Sums.{sum_by-cons}

pub bounded : {X : Type 0} (f : X → ℕ) (xs : List X) (most : ℕ) → ((k : ℕ) (x : X) → slice_get xs k ≡ Some x → f x ≤ most) → sum_by f xs ≤ length xs * most
bounded f [] most each = omega arith
bounded f (x ∷ xs) most each =
    omega (arith, sum_by-cons f x xs, suc-mul (length xs) most, each zero x refl, bounded f xs most (λ k. each (suc k)))
