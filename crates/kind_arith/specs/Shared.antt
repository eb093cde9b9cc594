-- The least and the greatest value that a set and a cell have in common, and the ends that they give.
use Rattle.std.specs.Prelude.{◌≡◌, true, false, if◌then◌else◌, List, [], ◌∷◌, ◌++◌, Option, MatchOption, ℤ, ◌≤ℤ◌, ◌<ℤ◌, int_lt}
use Rattle.dom_core.specs.declared.literal.Literal.{Literal}
use Rattle.dom_core.specs.declared.literal.Rel.TheVariants.{Le, Ge}
use Rattle.dom_core.specs.declared.set.Set.{Set}
use Rattle.dom_core.specs.declared.var_id.VarId.{VarId}
use Rattle.dom_cells.specs.Cell.{lo_of, hi_of, has_of}
use Rattle.dom_cells.specs.Flagged.{IsFloor, IsCeiling}
use Rattle.dom_cells.specs.declared.start.Start.{Start}
use Rattle.kind_parts.specs.Set.{set_has, set_meets}

-- the value is the least that the set and the cell have in common
pub record IsLeastShared (s : Set) (c : Start) (v : ℤ) : Type 0 where
  pub in_set : set_has s v ≡ true
  pub in_cell : has_of c v ≡ true
  pub least : (x : ℤ) → set_has s x ≡ true → has_of c x ≡ true → v ≤ℤ x

-- the value is the greatest that the set and the cell have in common
pub record IsGreatestShared (s : Set) (c : Start) (v : ℤ) : Type 0 where
  pub in_set : set_has s v ≡ true
  pub in_cell : has_of c v ≡ true
  pub greatest : (x : ℤ) → set_has s x ≡ true → has_of c x ≡ true → x ≤ℤ v

-- what is found is the least value that the set and the cell share, and nothing where they share none
abbrev pub IsLeastFound : Set → Start → Option ℤ → Type 0
IsLeastFound s c r = MatchOption r (set_meets s c ≡ false) (IsLeastShared s c)

-- what is found is the greatest value that the set and the cell share, and nothing where they share none
abbrev pub IsGreatestFound : Set → Start → Option ℤ → Type 0
IsGreatestFound s c r = MatchOption r (set_meets s c ≡ false) (IsGreatestShared s c)

-- what is found is the least value of the cell from the number on, and nothing where it has none
abbrev pub IsCeilingFound : Start → ℤ → Option ℤ → Type 0
IsCeilingFound c v r = MatchOption r (hi_of c <ℤ v) (IsCeiling (has_of c) v)

-- what is found is the greatest value of the cell up to the number, and nothing where it has none
abbrev pub IsFloorFound : Start → ℤ → Option ℤ → Type 0
IsFloorFound c v r = MatchOption r (v <ℤ lo_of c) (IsFloor (has_of c) v)

-- the lower end, where the cell reaches below it
abbrev pub low_ends : VarId → Start → ℤ → List Literal
low_ends u c v = if int_lt (lo_of c) v then record { var = u; rel = Ge; value = v } ∷ [] else []

-- the upper end, where the cell reaches above it
abbrev pub high_ends : VarId → Start → ℤ → List Literal
high_ends u c v = if int_lt v (hi_of c) then record { var = u; rel = Le; value = v } ∷ [] else []

-- both ends, as far as the cell reaches beyond them
abbrev pub shared_ends : VarId → Start → ℤ → ℤ → List Literal
shared_ends u c lo hi = low_ends u c lo ++ high_ends u c hi
