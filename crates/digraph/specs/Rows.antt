-- Successors kept in one list, with the place at which those of each node begin.
use Rattle.std.specs.Prelude.{ℕ, ◌≤◌, ◌-◌, List, [], ◌∷◌, length, take, drop, slice_index_or}

-- the successors of each node; those of the last go to the end
abbrev pub rows_of : List ℕ → List ℕ → List (List ℕ)
rows_of [] targets = []
rows_of (s ∷ ss) targets = take (slice_index_or ss 0 (length targets) - s) (drop s targets) ∷ rows_of ss targets

-- each place is at most the next, and the last at most this
abbrev pub Rises : List ℕ → ℕ → Type 0
Rises [] len = Unit {0}
Rises (s ∷ ss) len = (s ≤ slice_index_or ss 0 len) × Rises ss len
