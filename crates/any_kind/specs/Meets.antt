-- Assignments that satisfy constraints.
use Rattle.std.specs.Prelude.{◌≡◌, true, List, [], ◌∷◌, ℤ}
use Rattle.any_kind.specs.Any.{any_met}
use Rattle.any_kind.specs.declared.any.AnyKind.{AnyKind}

-- the assignment satisfies each of the constraints
abbrev pub MeetsEach : List AnyKind → List ℤ → Type 0
MeetsEach [] a = Unit {0}
MeetsEach (k ∷ ks) a = (any_met k a ≡ true) × MeetsEach ks a
