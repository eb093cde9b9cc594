-- The least and the greatest value that a set and a cell have in common.
use Rattle.std.proofs.Common.{◌≡◌, ◌⊎◌, inl, inr, true, false, List, length, get_or, ℕ, ◌<◌, ◌≤◌, ◌+◌, ◌-◌, ℤ, pos, ◌<ℤ◌, ◌≤ℤ◌, sym, ◌∙◌, ap, subst, arith}
use Rattle.std.proofs.lemmas.Int.{ints}
use Rattle.dom_core.specs.Rises.{Rises}
use Rattle.dom_core.specs.declared.set.Set.TheVariants.{Range, Values as Listed}
use Rattle.dom_core.proofs.RisesLaws.{among_read, rises_read}
use Rattle.dom_core.proofs.TestLaws.{true_or_false, not_both}
use Rattle.dom_cells.specs.Cell.{lo_of, hi_of, has_of, IsSane, IsCell}
use Rattle.dom_cells.specs.Flagged.{IsFloor, IsCeiling}
use Rattle.dom_cells.specs.declared.start.Start.{Start}
use Rattle.dom_cells.proofs.BoxLaws.{sane-cell}
use Rattle.kind_law.proofs.ReasonLaws.{among_place}
use Rattle.kind_parts.specs.Set.{range_meets, list_meets}
use Rattle.kind_parts.proofs.SetLaws.{Common, Found, between, from_low, to_high, any_found, meets_common}
use Rattle.kind_arith.specs.Shared.{IsLeastShared, IsGreatestShared}

-- ---- ranges

pub ceiling_at_low : (c : Start) (v : ℤ) → IsSane c → v ≤ℤ lo_of c → IsCeiling (has_of c) v (lo_of c)
ceiling_at_low c v s le = let k : IsCell c = sane-cell c s in record { has = k.least; at_least = le; least = λ x h g. k.low x h }

pub floor_at_high : (c : Start) (v : ℤ) → IsSane c → hi_of c ≤ℤ v → IsFloor (has_of c) v (hi_of c)
floor_at_high c v s le = let k : IsCell c = sane-cell c s in record { has = k.greatest; at_most = le; greatest = λ x h g. k.high x h }

pub least_of_range : (lo hi : ℤ) (c : Start) (r : ℤ) → IsCeiling (has_of c) lo r → r ≤ℤ hi → IsLeastShared (Range lo hi) c r
least_of_range lo hi c r f le = record {
  in_set = between lo r hi f.at_least le;
  in_cell = f.has;
  least = λ x i h. f.least x h (from_low lo x hi i);
}

pub greatest_of_range : (lo hi : ℤ) (c : Start) (r : ℤ) → IsFloor (has_of c) hi r → lo ≤ℤ r → IsGreatestShared (Range lo hi) c r
greatest_of_range lo hi c r f le = record {
  in_set = between lo r hi le f.at_most;
  in_cell = f.has;
  greatest = λ x i h. f.greatest x h (to_high lo x hi i);
}

-- a range and a cell without a common value
apart_range : (lo hi : ℤ) (c : Start) → ((x : ℤ) → lo ≤ℤ x → x ≤ℤ hi → has_of c x ≡ true → ⊥) → range_meets lo hi c ≡ false
apart_range lo hi c none = elim (true_or_false (range_meets lo hi c)) [
  | inl t ↦ (let m : Common (Range lo hi) c = meets_common (Range lo hi) c t in
      absurd (none m.value (from_low lo m.value hi m.in_set) (to_high lo m.value hi m.in_set) m.in_cell))
  | inr f ↦ f
]

pub range_above : (lo hi : ℤ) (c : Start) → IsSane c → hi_of c <ℤ lo → range_meets lo hi c ≡ false
range_above lo hi c s lt =
    apart_range lo hi c (λ x a b h. (let last : x ≤ℤ hi_of c = (sane-cell c s).high x h in omega (arith, ints)))

pub range_below : (lo hi : ℤ) (c : Start) → IsSane c → hi <ℤ lo_of c → range_meets lo hi c ≡ false
range_below lo hi c s lt =
    apart_range lo hi c (λ x a b h. (let first : lo_of c ≤ℤ x = (sane-cell c s).low x h in omega (arith, ints)))

pub range_before : (lo hi : ℤ) (c : Start) (r : ℤ) → IsCeiling (has_of c) lo r → hi <ℤ r → range_meets lo hi c ≡ false
range_before lo hi c r f lt = apart_range lo hi c (λ x a b h. (let first : r ≤ℤ x = f.least x h a in omega (arith, ints)))

pub range_behind : (lo hi : ℤ) (c : Start) (r : ℤ) → IsFloor (has_of c) hi r → r <ℤ lo → range_meets lo hi c ≡ false
range_behind lo hi c r f lt = apart_range lo hi c (λ x a b h. (let last : x ≤ℤ r = f.greatest x h b in omega (arith, ints)))

-- ---- lists

-- the cell has none of the list's values from the one place up to the other
abbrev pub HasNone : List ℤ → Start → ℕ → ℕ → Type 0
HasNone xs c begin end = (k : ℕ) → begin ≤ k → k < end → has_of c (get_or xs k (pos 0)) ≡ false

pub none_yet : (xs : List ℤ) (c : Start) (at : ℕ) → HasNone xs c at at
none_yet xs c at k from to = absurd (omega arith)

at_or_other : (k at : ℕ) → (k ≡ at) ⊎ (k ≡ at → ⊥)
at_or_other k at = grind arith

pub none_up : (xs : List ℤ) (c : Start) (begin at : ℕ) → HasNone xs c begin at → has_of c (get_or xs at (pos 0)) ≡ false → HasNone xs c begin (at + 1)
none_up xs c begin at h here k from to = elim (at_or_other k at) [
  | inl same ↦ subst (λ (j : ℕ). has_of c (get_or xs j (pos 0)) ≡ false) (sym same) here
  | inr other ↦ h k from (omega arith)
]

pub none_down : (xs : List ℤ) (c : Start) (at end : ℕ) → 0 < at → HasNone xs c at end → has_of c (get_or xs (at - 1) (pos 0)) ≡ false
    → HasNone xs c (at - 1) end
none_down xs c at end some h here k from to = elim (at_or_other k (at - 1)) [
  | inl same ↦ subst (λ (j : ℕ). has_of c (get_or xs j (pos 0)) ≡ false) (sym same) here
  | inr other ↦ h k (omega arith) to
]

pub none_listed : (xs : List ℤ) (c : Start) → HasNone xs c 0 (length xs) → list_meets xs c ≡ false
none_listed xs c h = elim (true_or_false (list_meets xs c)) [
  | inl t ↦ (let f : Found (has_of c) xs = any_found (has_of c) xs t in
      let p = among_place f.value xs f.among in
      absurd (not_both (has_of c f.value) f.passes (subst (λ (x : ℤ). has_of c x ≡ false) p.2 (h p.0 (omega arith) p.1))))
  | inr f ↦ f
]

place_order : (k at : ℕ) → (k < at) ⊎ (k ≡ at) ⊎ (at < k)
place_order k at = grind arith

pub first_is_least : (xs : List ℤ) (c : Start) (at : ℕ) → Rises xs → at < length xs → HasNone xs c 0 at → has_of c (get_or xs at (pos 0)) ≡ true
    → IsLeastShared (Listed xs) c (get_or xs at (pos 0))
first_is_least xs c at rises lt none here = record {
  in_set = among_read xs at (pos 0) lt;
  in_cell = here;
  least = λ x i h. (let p = among_place x xs i in
      let is : get_or xs p.0 (pos 0) ≡ x = p.2 in
      elim (place_order p.0 at) [
        | inl before ↦ absurd (not_both (has_of c x) h (subst (λ (y : ℤ). has_of c y ≡ false) is (none p.0 (omega arith) before)))
        | inr rest ↦ elim rest [
          | inl same ↦ (let own : get_or xs at (pos 0) ≡ x = ap (λ (j : ℕ). get_or xs j (pos 0)) (sym same) ∙ is in omega (arith, ints))
          | inr after ↦ (let less : get_or xs at (pos 0) <ℤ get_or xs p.0 (pos 0) = rises_read xs at p.0 (pos 0) rises after p.1 in omega (arith, ints))
        ]
      ]);
}

pub last_is_greatest : (xs : List ℤ) (c : Start) (at : ℕ) → Rises xs → at < length xs → HasNone xs c (at + 1) (length xs)
    → has_of c (get_or xs at (pos 0)) ≡ true → IsGreatestShared (Listed xs) c (get_or xs at (pos 0))
last_is_greatest xs c at rises lt none here = record {
  in_set = among_read xs at (pos 0) lt;
  in_cell = here;
  greatest = λ x i h. (let p = among_place x xs i in
      let is : get_or xs p.0 (pos 0) ≡ x = p.2 in
      elim (place_order p.0 at) [
        | inl before ↦ (let less : get_or xs p.0 (pos 0) <ℤ get_or xs at (pos 0) = rises_read xs p.0 at (pos 0) rises before lt in omega (arith, ints))
        | inr rest ↦ elim rest [
          | inl same ↦ (let own : get_or xs at (pos 0) ≡ x = ap (λ (j : ℕ). get_or xs j (pos 0)) (sym same) ∙ is in omega (arith, ints))
          | inr after ↦ absurd (not_both (has_of c x) h (subst (λ (y : ℤ). has_of c y ≡ false) is (none p.0 (omega arith) p.1)))
        ]
      ]);
}
