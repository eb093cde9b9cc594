-- Words of 64 bits as a list of truth values.
use Rattle.std.specs.Prelude.{◌≡◌, ◌≤◌, ◌<◌, ◌-◌, ◌/◌, ◌%◌, ◌==◌, Bool, List, map, ℕ, slice_index_or}
use Rattle.std.specs.Int.{bit_at}
use Rattle.std.specs.List.{range_with_len}

-- whether the bit at this place is set, counted from the lowest bit of the first word
abbrev pub is_set : List ℕ → ℕ → Bool
is_set words i = bit_at (slice_index_or words (i / 64) 0) (i % 64) == 1

-- the first bits of the words, so many of them
unfoldable pub flags_of : List ℕ → ℕ → List Bool
flags_of words count = map (is_set words) (range_with_len 0 count)

-- the first place of the word from this one on with a bit that is set, or the limit
pub record IsFirstBit (word begin limit at : ℕ) : Type 0 where
  pub within : at ≤ limit
  pub after : begin ≤ at
  pub clear : (i : ℕ) → begin ≤ i → i < at → bit_at word i ≡ 0
  pub set : at < limit → bit_at word at ≡ 1

-- the place after the last bit of the word that is set before this place, or 0
pub record IsLastBit (word below after : ℕ) : Type 0 where
  pub within : after ≤ below
  pub clear : (i : ℕ) → after ≤ i → i < below → bit_at word i ≡ 0
  pub set : 0 < after → bit_at word (after - 1) ≡ 1
