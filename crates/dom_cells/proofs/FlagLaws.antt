-- Values of a rising list and the flags beside them.
use Rattle.std.proofs.Common.{◌≡◌, ℕ, zero, suc, ◌-◌, ◌<◌, ◌≤◌, Bool, true, false, ◌&&◌, List, [], ◌∷◌, length, get_or, ℤ, pos, ◌+ℤ◌, ◌<ℤ◌, ◌≤ℤ◌, sym, ◌∙◌, ap, arith, inl, inr, Some, slice_get}
use Rattle.std.proofs.lemmas.Int.{ints}
use Rattle.std.proofs.lemmas.Option.{get_or_from_slice_get}
use Rattle.std.specs.Ordering.{int_eq}
use Rattle.dom_core.specs.Rises.{Rises}
use Rattle.dom_core.specs.Rises.{IsRank}
use Rattle.dom_cells.specs.Flagged.{is_kept, IsLastUp, IsFirstUp, IsFloor, IsCeiling}
use Rattle.dom_core.proofs.RisesLaws.{same_test, int_eq_same, int_eq_refl, or_true, or_left, or_right, rises_read, less_or_same, before_or_after}
use Rattle.dom_core.proofs.TestLaws.{and_first, and_second, and_both, not_both}

-- ---- flags

pub down_past : (bs : List Bool) (k : ℕ) → get_or bs k false ≡ true → k < length bs
down_past [] k h = absurd (cc)
down_past (b ∷ bs) zero h = omega arith
down_past (b ∷ bs) (suc k) h = let lt : k < length bs = down_past bs k h in omega arith

-- where a kept value stands
pub record Place (x : ℤ) (xs : List ℤ) (bs : List Bool) : Type 0 where
  pub at : ℕ
  pub within : at < length xs
  pub reads : get_or xs at (pos 0) ≡ x
  pub up : get_or bs at false ≡ true

pub place_after : (x y : ℤ) (ys : List ℤ) (b : Bool) (bs : List Bool) → Place x ys bs → Place x (y ∷ ys) (b ∷ bs)
place_after x y ys b bs p =
    let w : p.at < length ys = p.within in
    record { at = suc p.at; within = omega arith; reads = p.reads; up = p.up }

pub place_of : (x : ℤ) (xs : List ℤ) (bs : List Bool) → is_kept x xs bs ≡ true → Place x xs bs
place_of x [] bs h = absurd (cc)
place_of x (y ∷ ys) [] h = absurd (cc)
place_of x (y ∷ ys) (b ∷ bs) h =
    elim (or_true (b && int_eq x y) (is_kept x ys bs) h) [
      | inl here ↦ record { at = zero; within = omega arith; reads = sym (int_eq_same x y (and_second b (int_eq x y) here)); up = and_first b (int_eq x y) here }
      | inr later ↦ place_after x y ys b bs (place_of x ys bs later)
    ]

pub kept_at : (xs : List ℤ) (bs : List Bool) (k : ℕ) → k < length xs → get_or bs k false ≡ true → is_kept (get_or xs k (pos 0)) xs bs ≡ true
kept_at [] bs k lt up = absurd (omega arith)
kept_at (y ∷ ys) [] k lt up = absurd (cc)
kept_at (y ∷ ys) (b ∷ bs) zero lt up = or_left (b && int_eq y y) (is_kept y ys bs) (and_both b (int_eq y y) up (int_eq_refl y))
kept_at (y ∷ ys) (b ∷ bs) (suc k) lt up =
    or_right (b && int_eq (get_or ys k (pos 0)) y) (is_kept (get_or ys k (pos 0)) ys bs) (kept_at ys bs k (omega arith) up)

pub kept_from_place : (x : ℤ) (xs : List ℤ) (bs : List Bool) → Place x xs bs → is_kept x xs bs ≡ true
kept_from_place x xs bs p = rw (← p.reads) (kept_at xs bs p.at p.within p.up)

-- equal values of a rising list stand at one place
pub same_place : (xs : List ℤ) (i j : ℕ) → Rises xs → i < length xs → j < length xs → get_or xs i (pos 0) ≡ get_or xs j (pos 0) → i ≡ j
same_place xs i j r li lj e =
    elim (before_or_after i j) [
      | inl before ↦ (let up : get_or xs i (pos 0) <ℤ get_or xs j (pos 0) = rises_read xs i j (pos 0) r before lj in absurd (omega (arith, ints)))
      | inr after ↦ elim (less_or_same j i after) [
        | inl less ↦ (let up : get_or xs j (pos 0) <ℤ get_or xs i (pos 0) = rises_read xs j i (pos 0) r less li in absurd (omega (arith, ints)))
        | inr same ↦ sym same
      ]
    ]

-- the place of a value of which the rank is known
pub place_is_rank : (xs : List ℤ) (v : ℤ) (k i : ℕ) → IsRank xs v k → i < length xs → get_or xs i (pos 0) ≡ v → Rises xs → i ≡ k
place_is_rank xs v k i rank lt e r =
    elim (before_or_after i k) [
      | inl before ↦ (let h : get_or xs i (pos 0) <ℤ v = rank.below i before in absurd (omega (arith, ints)))
      | inr after ↦ elim (less_or_same k i after) [
        | inl less ↦ (let h : v ≤ℤ get_or xs k (pos 0) = rank.from k (omega arith) (omega arith) in
            let up : get_or xs k (pos 0) <ℤ get_or xs i (pos 0) = rises_read xs k i (pos 0) r less lt in absurd (omega (arith, ints)))
        | inr same ↦ sym same
      ]
    ]

-- the test for a kept value at its rank
pub kept_by_rank : (xs : List ℤ) (bs : List Bool) (v : ℤ) (k : ℕ) → Rises xs → IsRank xs v k
    → (r : Bool) → (r ≡ true → (k < length xs) × (get_or xs k (pos 0) ≡ v) × (get_or bs k false ≡ true))
    → ((k < length xs) × (get_or xs k (pos 0) ≡ v) × (get_or bs k false ≡ true) → r ≡ true) → r ≡ is_kept v xs bs
kept_by_rank xs bs v k rises rank r f g = same_test r (is_kept v xs bs)
    (λ h. let t = f h in kept_from_place v xs bs (record { at = k; within = t.0; reads = t.1; up = t.2 }))
    (λ h. let p : Place v xs bs = place_of v xs bs h in
    let e : p.at ≡ k = place_is_rank xs v k p.at rank p.within p.reads rises in
    g (rw (← e) (p.within, p.reads, p.up)))

pub kept_beyond : (xs : List ℤ) (bs : List Bool) (v : ℤ) (k : ℕ) → Rises xs → IsRank xs v k → length xs ≤ k → false ≡ is_kept v xs bs
kept_beyond xs bs v k rises rank h = kept_by_rank xs bs v k rises rank false (λ e. absurd (cc)) (λ t. absurd (let lt : k < length xs = t.0 in omega arith))

pub kept_other : (xs : List ℤ) (bs : List Bool) (v x : ℤ) (k : ℕ) → Rises xs → IsRank xs v k → slice_get xs k ≡ Some x → (x ≡ v → ⊥) → false ≡ is_kept v xs bs
kept_other xs bs v x k rises rank read other =
    kept_by_rank xs bs v k rises rank false (λ e. absurd (cc))
    (λ t. absurd (other (sym (get_or_from_slice_get xs k x (pos 0) read) ∙ t.1)))

pub kept_here : (xs : List ℤ) (bs : List Bool) (v x : ℤ) (k : ℕ) → Rises xs → IsRank xs v k → k < length xs → slice_get xs k ≡ Some x → x ≡ v
    → get_or bs k false ≡ is_kept v xs bs
kept_here xs bs v x k rises rank lt read same =
    kept_by_rank xs bs v k rises rank (get_or bs k false) (λ e. (lt, get_or_from_slice_get xs k x (pos 0) read ∙ same, e)) (λ t. t.2)

-- ---- the kept value next to a number

pub floor_after : (xs : List ℤ) (bs : List Bool) (v low : ℤ) (below after : ℕ) → Rises xs → length bs ≡ length xs
    → IsRank xs (v +ℤ pos 1) below → IsLastUp bs below after → is_kept low xs bs ≡ true → low ≤ℤ v → 0 < after
floor_after xs bs v low below after r n rank last has le =
    let p : Place low xs bs = place_of low xs bs has in
    elim (before_or_after p.at below) [
      | inl before ↦ elim (before_or_after p.at after) [
        | inl first ↦ omega arith
        | inr beyond ↦ absurd (not_both (get_or bs p.at false) p.up (last.down p.at beyond before))
      ]
      | inr above ↦ (let h : (v +ℤ pos 1) ≤ℤ get_or xs p.at (pos 0) = rank.from p.at above p.within in
          let e : get_or xs p.at (pos 0) ≡ low = p.reads in absurd (omega (arith, ints)))
    ]

pub floor_is : (xs : List ℤ) (bs : List Bool) (v low : ℤ) (below after : ℕ) → Rises xs → length bs ≡ length xs
    → IsRank xs (v +ℤ pos 1) below → IsLastUp bs below after → is_kept low xs bs ≡ true → low ≤ℤ v
    → IsFloor (λ x. is_kept x xs bs) v (get_or xs (after - 1) (pos 0))
floor_is xs bs v low below after r n rank last has le =
    let some : 0 < after = floor_after xs bs v low below after r n rank last has le in
    let up : get_or bs (after - 1) false ≡ true = last.up some in
    let in_below : after ≤ below = last.within in
    let in_list : below ≤ length xs = rank.within in
    record {
      has = kept_at xs bs (after - 1) (omega arith) up;
      at_most = (let h : get_or xs (after - 1) (pos 0) <ℤ (v +ℤ pos 1) = rank.below (after - 1) (omega arith) in omega (arith, ints));
      greatest = λ x h most.
          (let p : Place x xs bs = place_of x xs bs h in
          let e : get_or xs p.at (pos 0) ≡ x = p.reads in
          elim (before_or_after p.at below) [
            | inl before ↦ elim (before_or_after p.at after) [
              | inl first ↦ elim (less_or_same p.at (after - 1) (omega arith)) [
                | inl less ↦ (let lt : get_or xs p.at (pos 0) <ℤ get_or xs (after - 1) (pos 0) = rises_read xs p.at (after - 1) (pos 0) r less (omega arith) in omega (arith, ints))
                | inr same ↦ (let s : get_or xs p.at (pos 0) ≡ get_or xs (after - 1) (pos 0) = ap (λ (k : ℕ). get_or xs k (pos 0)) same in omega (arith, ints))
              ]
              | inr beyond ↦ absurd (not_both (get_or bs p.at false) p.up (last.down p.at beyond before))
            ]
            | inr above ↦ (let g : (v +ℤ pos 1) ≤ℤ get_or xs p.at (pos 0) = rank.from p.at above p.within in absurd (omega (arith, ints)))
          ]);
    }

pub ceiling_before : (xs : List ℤ) (bs : List Bool) (v high : ℤ) (begin at : ℕ) → Rises xs → length bs ≡ length xs
    → IsRank xs v begin → IsFirstUp bs begin at → is_kept high xs bs ≡ true → v ≤ℤ high → at < length xs
ceiling_before xs bs v high begin at r n rank first has le =
    let p : Place high xs bs = place_of high xs bs has in
    let e : get_or xs p.at (pos 0) ≡ high = p.reads in
    elim (before_or_after p.at begin) [
      | inl before ↦ (let h : get_or xs p.at (pos 0) <ℤ v = rank.below p.at before in absurd (omega (arith, ints)))
      | inr after ↦ elim (before_or_after p.at at) [
        | inl skipped ↦ absurd (not_both (get_or bs p.at false) p.up (first.down p.at after skipped))
        | inr beyond ↦ (let w : p.at < length xs = p.within in omega arith)
      ]
    ]

pub ceiling_is : (xs : List ℤ) (bs : List Bool) (v high : ℤ) (begin at : ℕ) → Rises xs → length bs ≡ length xs
    → IsRank xs v begin → IsFirstUp bs begin at → is_kept high xs bs ≡ true → v ≤ℤ high
    → IsCeiling (λ x. is_kept x xs bs) v (get_or xs at (pos 0))
ceiling_is xs bs v high begin at r n rank first has le =
    let some : at < length xs = ceiling_before xs bs v high begin at r n rank first has le in
    let up : get_or bs at false ≡ true = first.up (omega arith) in
    record {
      has = kept_at xs bs at some up;
      at_least = rank.from at first.after some;
      least = λ x h least.
          (let p : Place x xs bs = place_of x xs bs h in
          let e : get_or xs p.at (pos 0) ≡ x = p.reads in
          elim (before_or_after p.at begin) [
            | inl before ↦ (let g : get_or xs p.at (pos 0) <ℤ v = rank.below p.at before in absurd (omega (arith, ints)))
            | inr after ↦ elim (before_or_after p.at at) [
              | inl skipped ↦ absurd (not_both (get_or bs p.at false) p.up (first.down p.at after skipped))
              | inr beyond ↦ elim (less_or_same at p.at beyond) [
                | inl less ↦ (let lt : get_or xs at (pos 0) <ℤ get_or xs p.at (pos 0) = rises_read xs at p.at (pos 0) r less p.within in omega (arith, ints))
                | inr same ↦ (let s : get_or xs at (pos 0) ≡ get_or xs p.at (pos 0) = ap (λ (k : ℕ). get_or xs k (pos 0)) same in omega (arith, ints))
              ]
            ]
          ]);
    }
