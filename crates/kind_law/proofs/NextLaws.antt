-- The deepest refuted step is the implied end.
use Rattle.std.proofs.Common.{◌≡◌, ℕ, ◌+◌, ◌-◌, ◌<◌, ◌≤◌, Bool, true, false, List, length, take, ℤ, pos, ◌+ℤ◌, ◌-ℤ◌, ◌<ℤ◌, ◌≤ℤ◌, ◌⊎◌, inl, inr, refl, sym, ◌∙◌, ap, subst, arith, Option, Some, None, is_some, slice_get}
use Rattle.std.proofs.lemmas.Int.{ints}
use Rattle.dom_cells.specs.Box.{kept}
use Rattle.dom_cells.specs.Cell.{IsSane, lo_of, hi_of}
use Rattle.dom_core.specs.Rises.{natural_of}
use Rattle.dom_core.specs.declared.literal.Literal.{Literal}
use Rattle.dom_core.specs.declared.literal.Rel.{Rel}
use Rattle.dom_cells.specs.declared.start.Start.{Start}
use Rattle.dom_core.specs.declared.var_id.VarId.{VarId}
use Rattle.dom_core.proofs.TestLaws.{true_or_false, not_both}
use Rattle.dom_core.proofs.RisesLaws.{natural_is}
use Rattle.kind_law.specs.Laws.{AllBelow, AllSane, ShrinkLaw, Each}
use Rattle.kind_law.specs.Next.{below, above, size_of, steps_refuted, IsDeepest, IsLowEnd, IsHighEnd, IsSideEnd, end_literal, IsEndOf, IsFirstEnd, IsNext, HasNoEnd}
use Rattle.kind_law.specs.declared.side.Side.{Side}
use Rattle.kind_law.specs.declared.side.Side.TheVariants.{Low, High}
use Rattle.kind_law.proofs.BoundLaws.{size_is, fewer}

-- the test fails beyond where it fails
pub record Falls (test : ℕ → Bool) (size : ℕ) : Type 0 where
  pub falls : (few many : ℕ) → 0 < few → few ≤ many → many ≤ size → test many ≡ true → test few ≡ true

pub steps_fall : (refuted : (ℕ → Start) → Bool) (inside : ℕ → Bool) (vars : List VarId) (b : ℕ → Start) (n : ℕ) (u : VarId) (side : Side)
    → ShrinkLaw inside vars refuted → AllBelow n vars → AllSane b vars → IsSane (b u.0) → Falls (steps_refuted refuted b u side) (size_of (b u.0))
steps_fall refuted inside vars b n u side law h all s =
    record { falls = λ few many some le top r. fewer refuted inside vars b n u side few many law h all s some le r }

-- what a halving has found
pub record Found (test : ℕ → Bool) (size known gap : ℕ) : Type 0 where
  pub ends : known + gap ≤ size
  pub some : 0 < known
  pub here : test known ≡ true
  pub beyond : (m : ℕ) → known + gap < m → m ≤ size → test m ≡ false

pub fails_beyond : (test : ℕ → Bool) (size k : ℕ) → Falls test size → 0 < k → test k ≡ false → (m : ℕ) → k ≤ m → m ≤ size → test m ≡ false
fails_beyond test size k f some fails m le top =
    elim (true_or_false (test m)) [ inl t ↦ absurd (not_both (test k) (f.falls k m some le top t) fails) | inr e ↦ e ]

pub none_deep : (test : ℕ → Bool) → IsDeepest test 0 0
none_deep test = record { within = omega arith; here = λ h. absurd (omega arith); beyond = λ m h g. absurd (omega arith) }

pub first_fails : (test : ℕ → Bool) (size : ℕ) → Falls test size → test 1 ≡ false → IsDeepest test size 0
first_fails test size f fails =
    record { within = omega arith; here = λ h. absurd (omega arith); beyond = λ m h g. fails_beyond test size 1 f (omega arith) fails m (omega arith) g }

pub found_first : (test : ℕ → Bool) (size : ℕ) → 0 < size → test 1 ≡ true → Found test size 1 (size - 1)
found_first test size some h = record { ends = omega arith; some = omega arith; here = h; beyond = λ m g k. absurd (omega arith) }

pub found_up : (test : ℕ → Bool) (size known gap half : ℕ) → Found test size known gap → half ≤ gap → test (known + half) ≡ true → Found test size (known + half) (gap - half)
found_up test size known gap half f le h =
    let ends : known + gap ≤ size = f.ends in
    let some : 0 < known = f.some in
    record { ends = omega arith; some = omega arith; here = h; beyond = λ m g k. f.beyond m (omega arith) k }

pub found_down : (test : ℕ → Bool) (size known gap half : ℕ) → Falls test size → Found test size known gap → 0 < half → half ≤ gap → test (known + half) ≡ false
    → Found test size known (half - 1)
found_down test size known gap half falls f some le h =
    let ends : known + gap ≤ size = f.ends in
    record { ends = omega arith; some = f.some; here = f.here; beyond = λ m g k. fails_beyond test size (known + half) falls (omega arith) h m (omega arith) k }

pub found_done : (test : ℕ → Bool) (size known gap : ℕ) → Found test size known gap → gap ≡ 0 → IsDeepest test size known
found_done test size known gap f e =
    let ends : known + gap ≤ size = f.ends in
    record { within = omega arith; here = λ h. f.here; beyond = λ m g k. f.beyond m (omega arith) k }

order : (m n : ℕ) → (m ≤ n) ⊎ (n < m)
order m n = grind arith

-- ---- from steps to ends

-- the step of a lower end
low_step : (refuted : (ℕ → Start) → Bool) (b : ℕ → Start) (u : VarId) (v : ℤ) → IsSane (b u.0) → IsLowEnd refuted b u v
    → (n : ℕ) × ((lo_of (b u.0) +ℤ pos n) ≡ v) × (0 < n) × (n ≤ size_of (b u.0)) × (steps_refuted refuted b u Low n ≡ true)
low_step refuted b u v s e =
    let low : lo_of (b u.0) <ℤ v = e.low in
    let high : v ≤ℤ hi_of (b u.0) = e.high in
    let size : (lo_of (b u.0) +ℤ pos (size_of (b u.0))) ≡ hi_of (b u.0) = size_is (b u.0) s in
    let n : pos (natural_of (v -ℤ lo_of (b u.0))) ≡ (v -ℤ lo_of (b u.0)) = natural_is (v -ℤ lo_of (b u.0)) (omega (arith, ints)) in
    let at : (lo_of (b u.0) +ℤ pos (natural_of (v -ℤ lo_of (b u.0)))) ≡ v = omega (arith, ints) in (
      natural_of (v -ℤ lo_of (b u.0)),
      at,
      omega (arith, ints),
      omega (arith, ints),
      ap (λ (w : ℤ). refuted (kept b (below u w))) at ∙ e.refutes,
    )

high_step : (refuted : (ℕ → Start) → Bool) (b : ℕ → Start) (u : VarId) (v : ℤ) → IsSane (b u.0) → IsHighEnd refuted b u v
    → (n : ℕ) × ((hi_of (b u.0) -ℤ pos n) ≡ v) × (0 < n) × (n ≤ size_of (b u.0)) × (steps_refuted refuted b u High n ≡ true)
high_step refuted b u v s e =
    let low : lo_of (b u.0) ≤ℤ v = e.low in
    let high : v <ℤ hi_of (b u.0) = e.high in
    let size : (lo_of (b u.0) +ℤ pos (size_of (b u.0))) ≡ hi_of (b u.0) = size_is (b u.0) s in
    let n : pos (natural_of (hi_of (b u.0) -ℤ v)) ≡ (hi_of (b u.0) -ℤ v) = natural_is (hi_of (b u.0) -ℤ v) (omega (arith, ints)) in
    let at : (hi_of (b u.0) -ℤ pos (natural_of (hi_of (b u.0) -ℤ v))) ≡ v = omega (arith, ints) in (
      natural_of (hi_of (b u.0) -ℤ v),
      at,
      omega (arith, ints),
      omega (arith, ints),
      ap (λ (w : ℤ). refuted (kept b (above u w))) at ∙ e.refutes,
    )

pub no_end : (refuted : (ℕ → Start) → Bool) (b : ℕ → Start) (u : VarId) (side : Side) → IsSane (b u.0)
    → IsDeepest (steps_refuted refuted b u side) (size_of (b u.0)) 0 → IsSideEnd refuted b u side None
no_end refuted b u Low s d = λ v e. (let n = low_step refuted b u v s e in
    not_both (steps_refuted refuted b u Low n.0) n.4 (d.beyond n.0 n.2 n.3))
no_end refuted b u High s d = λ v e. (let n = high_step refuted b u v s e in
    not_both (steps_refuted refuted b u High n.0) n.4 (d.beyond n.0 n.2 n.3))

pub some_end : (refuted : (ℕ → Start) → Bool) (b : ℕ → Start) (u : VarId) (side : Side) (n : ℕ) → IsSane (b u.0)
    → IsDeepest (steps_refuted refuted b u side) (size_of (b u.0)) n → 0 < n
    → IsSideEnd refuted b u side (Some (end_literal side u (lo_of (b u.0)) (hi_of (b u.0)) n))
some_end refuted b u Low n s d some =
    let size : (lo_of (b u.0) +ℤ pos (size_of (b u.0))) ≡ hi_of (b u.0) = size_is (b u.0) s in
    let within : n ≤ size_of (b u.0) = d.within in (
      refl,
      refl,
      record { low = omega (arith, ints); high = omega (arith, ints); refutes = d.here some },
      λ w e. (let m = low_step refuted b u w s e in let at : (lo_of (b u.0) +ℤ pos m.0) ≡ w = m.1 in
          elim (order m.0 n) [
            | inl le ↦ (let k : m.0 ≤ n = le in omega (arith, ints))
            | inr gt ↦ absurd (not_both (steps_refuted refuted b u Low m.0) m.4 (d.beyond m.0 gt m.3))
          ]),
    )
some_end refuted b u High n s d some =
    let size : (lo_of (b u.0) +ℤ pos (size_of (b u.0))) ≡ hi_of (b u.0) = size_is (b u.0) s in
    let within : n ≤ size_of (b u.0) = d.within in (
      refl,
      refl,
      record { low = omega (arith, ints); high = omega (arith, ints); refutes = d.here some },
      λ w e. (let m = high_step refuted b u w s e in let at : (hi_of (b u.0) -ℤ pos m.0) ≡ w = m.1 in
          elim (order m.0 n) [
            | inl le ↦ (let k : m.0 ≤ n = le in omega (arith, ints))
            | inr gt ↦ absurd (not_both (steps_refuted refuted b u High m.0) m.4 (d.beyond m.0 gt m.3))
          ]),
    )

-- ---- the first end of a variable

pub low_first : (refuted : (ℕ → Start) → Bool) (b : ℕ → Start) (u : VarId) (l : Literal) → IsSideEnd refuted b u Low (Some l) → IsFirstEnd refuted b u (Some l)
low_first refuted b u l e = (e.0, subst (λ (r : Rel). IsEndOf refuted b u r l.value) (sym e.1) (e.2, e.3))

pub high_first : (refuted : (ℕ → Start) → Bool) (b : ℕ → Start) (u : VarId) (high : Option Literal) → IsSideEnd refuted b u Low None
    → IsSideEnd refuted b u High high → IsFirstEnd refuted b u high
high_first refuted b u None none e = record { low = none; high = e }
high_first refuted b u (Some l) none e = (e.0, subst (λ (r : Rel). IsEndOf refuted b u r l.value) (sym e.1) (e.2, e.3, none))

pub first_none : (refuted : (ℕ → Start) → Bool) (b : ℕ → Start) (u : VarId) (r : Option Literal) → r ≡ None → IsFirstEnd refuted b u r → HasNoEnd refuted b u
first_none refuted b u r e h = subst (IsFirstEnd refuted b u) e h

pub next_found : (refuted : (ℕ → Start) → Bool) (vars : List VarId) (b : ℕ → Start) (i : ℕ) (u : VarId) (r : Option Literal) → is_some r ≡ true
    → slice_get vars i ≡ Some u → i < length vars → Each (HasNoEnd refuted b) (take i vars) → IsFirstEnd refuted b u r → IsNext refuted vars b r
next_found refuted vars b i u None some e lt none f = absurd (cc)
next_found refuted vars b i u (Some l) some e lt none f =
    (i, lt, e ∙ ap Some (sym f.0), none, subst (λ (w : VarId). IsEndOf refuted b w l.rel l.value) (sym f.0) f.1)

pub not_some : (r : Option Literal) → is_some r ≡ false → r ≡ None
not_some None e = refl
not_some (Some l) e = absurd (cc)
