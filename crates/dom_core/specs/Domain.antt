-- What a domain is, and what building one answers.
use Rattle.std.specs.Prelude.{◌≡◌, ◌<◌, ◌≤◌, List, [], length, ℤ, ◌<ℤ◌, Result, Ok, Err}
use Rattle.dom_core.specs.Rises.{Rises, count_of, range_of, IsSortedOf, IsDistinctCount}
use Rattle.dom_core.specs.declared.domain.DomainError.{DomainError}
use Rattle.dom_core.specs.declared.domain.DomainError.TheVariants.{Empty, TooLarge, Memory}
use Rattle.dom_core.specs.declared.domain.Kept.{Kept}
use Rattle.dom_core.specs.declared.domain.Kept.TheVariants.{Range, Listed}

-- 1 to 4096 distinct values in rising order
pub record IsDomain (xs : List ℤ) : Type 0 where
  pub rises : Rises xs
  pub some : 0 < length xs
  pub few : length xs ≤ 4096

-- the values that are kept
abbrev pub kept_values : Kept → List ℤ
kept_values (Range lo hi) = range_of lo hi
kept_values (Listed values) = values.items

-- the domain of all integers between two ends: it is refused as empty exactly where there are none, and as
-- too large exactly where there are more than 4096
abbrev pub IsRange : ℤ → ℤ → Result (List ℤ) DomainError → Type 0
IsRange lo hi (Ok d) = IsDomain d × (d ≡ range_of lo hi)
IsRange lo hi (Err Empty) = hi <ℤ lo
IsRange lo hi (Err (TooLarge count)) = (4096 < count) × (count ≡ count_of lo hi)
IsRange lo hi (Err Memory) = ⊥

-- the domain of the values of a list: it is refused as empty exactly where there are none, and as too large exactly
-- where more than 4096 are distinct
abbrev pub IsOfValues : List ℤ → Result (List ℤ) DomainError → Type 0
IsOfValues xs (Ok d) = IsDomain d × IsSortedOf xs d
IsOfValues xs (Err Empty) = xs ≡ []
IsOfValues xs (Err (TooLarge count)) = (4096 < count) × IsDistinctCount xs count
IsOfValues xs (Err Memory) = Unit {0}
