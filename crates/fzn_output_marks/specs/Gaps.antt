-- Gaps among integers that stand in order.
use Rattle.std.specs.Prelude.{ℕ, ◌+◌, ◌<◌, List, length, ℤ, pos, ◌+ℤ◌, ◌≤ℤ◌, slice_index_or}
use Rattle.dom_index_sets.specs.declared.index_set.IndexSet.{IndexSet}
use Rattle.fzn_output_marks.specs.Sets.{IsWhole}

-- each is at most one more than the one before it
abbrev pub IsGapless : List ℤ → Type 0
IsGapless ns = (k : ℕ) → k + 1 < length ns → slice_index_or ns (k + 1) (pos 0) ≤ℤ (slice_index_or ns k (pos 0) +ℤ pos 1)

-- these integers have a gap, or there are none
abbrev pub IsNotWhole : List ℤ → Type 0
IsNotWhole ns = (s : IndexSet) → IsWhole ns s → ⊥
