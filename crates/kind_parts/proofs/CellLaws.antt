-- How the ends of a cell tell what it has in common with a range.
use Rattle.std.proofs.Common.{◌≡◌, ◌||◌, Bool, false, List, [], ◌∷◌, ℤ, ◌<ℤ◌, ◌≤ℤ◌, int_le, refl, ap, arith}
use Rattle.std.proofs.lemmas.Int.{ints}
use Rattle.std.specs.List.{list_any}
use Rattle.std.specs.Ordering.{int_eq}
use Rattle.dom_core.specs.Rises.{is_among}
use Rattle.dom_core.specs.declared.set.Set.TheVariants.{Range}
use Rattle.dom_core.proofs.RisesLaws.{same_test}
use Rattle.dom_core.proofs.TestLaws.{le_true, true_le}
use Rattle.dom_cells.specs.Cell.{has_of, lo_of, hi_of, IsSane, IsCell}
use Rattle.dom_cells.specs.Flagged.{IsCeiling}
use Rattle.dom_cells.specs.declared.start.Start.{Start}
use Rattle.dom_cells.proofs.BoxLaws.{sane-cell}
use Rattle.kind_parts.specs.Set.{range_meets}
use Rattle.kind_parts.proofs.SetLaws.{Common, between, from_low, to_high, meets_common, common_meets}

pub any_among : (x : ℤ) (xs : List ℤ) → list_any (int_eq x) xs ≡ is_among x xs
any_among x [] = refl
any_among x (y ∷ ys) = ap (λ (b : Bool). int_eq x y || b) (any_among x ys)

-- the least value of a cell that lies above the lower end decides
pub meets_from_least : (lo hi : ℤ) (c : Start) → IsSane c → lo ≤ℤ lo_of c → int_le (lo_of c) hi ≡ range_meets lo hi c
meets_from_least lo hi c s low =
    let k : IsCell c = sane-cell c s in
    same_test _ _
    (λ h. common_meets (Range lo hi) c (record { value = lo_of c; in_set = between lo (lo_of c) hi low (le_true (lo_of c) hi h); in_cell = k.least }))
    (λ h. let m : Common (Range lo hi) c = meets_common (Range lo hi) c h in
    let a : lo_of c ≤ℤ m.value = k.low m.value m.in_cell in
    let b : m.value ≤ℤ hi = to_high lo m.value hi m.in_set in
    true_le (lo_of c) hi (omega (arith, ints)))

-- a cell below the lower end has nothing in common
pub meets_not_below : (lo hi : ℤ) (c : Start) → IsSane c → hi_of c <ℤ lo → false ≡ range_meets lo hi c
meets_not_below lo hi c s below =
    let k : IsCell c = sane-cell c s in
    same_test _ _
    (λ h. absurd (cc))
    (λ h. let m : Common (Range lo hi) c = meets_common (Range lo hi) c h in
    let a : m.value ≤ℤ hi_of c = k.high m.value m.in_cell in
    let b : lo ≤ℤ m.value = from_low lo m.value hi m.in_set in
    absurd (omega (arith, ints)))

-- the least value from the lower end on decides
pub meets_from_next : (lo hi : ℤ) (c : Start) (r : ℤ) → IsCeiling (has_of c) lo r → int_le r hi ≡ range_meets lo hi c
meets_from_next lo hi c r f =
    same_test _ _
    (λ h. common_meets (Range lo hi) c (record { value = r; in_set = between lo r hi f.at_least (le_true r hi h); in_cell = f.has }))
    (λ h. let m : Common (Range lo hi) c = meets_common (Range lo hi) c h in
    let a : r ≤ℤ m.value = f.least m.value m.in_cell (from_low lo m.value hi m.in_set) in
    let b : m.value ≤ℤ hi = to_high lo m.value hi m.in_set in
    true_le r hi (omega (arith, ints)))
