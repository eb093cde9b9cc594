-- The refuted box, and ends that are told at a bound.
use Rattle.std.proofs.Common.{◌≡◌, ℕ, ◌<◌, true, List, [], ◌∷◌, ◌++◌, length, ℤ, pos, ◌+ℤ◌, ◌-ℤ◌, ◌<ℤ◌, ◌≤ℤ◌, ◌⊎◌, refl, sym, ap, subst, arith, inl, inr, Option, Some, None}
use Rattle.std.proofs.lemmas.Int.{ints}
use Rattle.dom_core.specs.Literal.{holds_at, is_end}
use Rattle.dom_core.specs.declared.literal.Literal.{Literal}
use Rattle.dom_core.specs.declared.literal.Rel.TheVariants.{Le, Ge}
use Rattle.dom_core.specs.declared.var_id.VarId.{VarId}
use Rattle.dom_core.proofs.LiteralLaws.{holds_le, fails_le, holds_ge, fails_ge}
use Rattle.dom_core.proofs.TestLaws.{not_both}
use Rattle.dom_cells.specs.Box.{Box, start_at, cell_of, kept, IsBox}
use Rattle.dom_cells.specs.Cell.{has_of, lo_of, hi_of, IsSane, IsCell}
use Rattle.dom_cells.proofs.BoxLaws.{sane-cell}
use Rattle.dom_cells.proofs.KeptLaws.{suits_end}
use Rattle.kind_law.specs.Asked.{CoversBound, SurvivorsWithin}
use Rattle.kind_law.specs.Next.{below, above}
use Rattle.kind_law.specs.Reason.{IsFine, is_bound_or_none, cut_by, asked, CoversBetween, IsLowBound, IsHighBound}
use Rattle.kind_law.specs.declared.side.Side.TheVariants.{Low, High}
use Rattle.kind_law.proofs.ReasonLaws.{survives-last}

-- ---- the refuted box

pub cut_none : (m : Box) (denied : Option Literal) (v : ℕ) → denied ≡ None → cell_of m v ≡ cut_by m denied v
cut_none m denied v e = ap (λ (r : Option Literal). cut_by m r v) (sym e)

pub cut_some : (m : Box) (denied : Option Literal) (l : Literal) (v : ℕ) → denied ≡ Some l → kept (cell_of m) l v ≡ cut_by m denied v
cut_some m denied l v e = ap (λ (r : Option Literal). cut_by m r v) (sym e)

pub bound_is : (denied : Option Literal) (l : Literal) → is_bound_or_none denied ≡ true → denied ≡ Some l → is_end l.rel ≡ true
bound_is denied l h e = subst (λ (r : Option Literal). is_bound_or_none r ≡ true) e h

-- ---- bounds that are told

pub below_fine : (m : Box) (u : VarId) (bound : ℤ) → IsBox m → u.0 < length m.starts → bound ≤ℤ lo_of (cell_of m u.0)
    → lo_of (start_at m.starts u.0) <ℤ bound → IsFine m (below u bound)
below_fine m u bound s lt at moved =
    let k : IsCell (cell_of m u.0) = sane-cell (cell_of m u.0) (s.cells u.0 lt) in
    let t : IsCell (start_at m.starts u.0) = sane-cell (start_at m.starts u.0) (s.starts u.0 lt) in
    record {
      var = lt;
      fails = record {
        none = λ x h. (let low : lo_of (cell_of m u.0) ≤ℤ x = k.low x h in
            fails_le (below u bound) x refl (omega (arith, ints)));
      };
      possible = record {
        value = lo_of (start_at m.starts u.0);
        has = t.least;
        holds = holds_le (below u bound) (lo_of (start_at m.starts u.0)) refl (omega (arith, ints));
      };
      suit = suits_end (start_at m.starts u.0) Le refl;
    }

pub above_fine : (m : Box) (u : VarId) (bound : ℤ) → IsBox m → u.0 < length m.starts → hi_of (cell_of m u.0) ≤ℤ bound
    → bound <ℤ hi_of (start_at m.starts u.0) → IsFine m (above u bound)
above_fine m u bound s lt at moved =
    let k : IsCell (cell_of m u.0) = sane-cell (cell_of m u.0) (s.cells u.0 lt) in
    let t : IsCell (start_at m.starts u.0) = sane-cell (start_at m.starts u.0) (s.starts u.0 lt) in
    record {
      var = lt;
      fails = record {
        none = λ x h. (let high : x ≤ℤ hi_of (cell_of m u.0) = k.high x h in
            fails_ge (above u bound) x refl (omega (arith, ints)));
      };
      possible = record {
        value = hi_of (start_at m.starts u.0);
        has = t.greatest;
        holds = holds_ge (above u bound) (hi_of (start_at m.starts u.0)) refl (omega (arith, ints));
      };
      suit = suits_end (start_at m.starts u.0) Ge refl;
    }

within_low : (x bound : ℤ) → (x ≤ℤ (bound -ℤ pos 1) → ⊥) → bound ≤ℤ x
within_low x bound h = grind (arith, ints)

within_high : (x bound : ℤ) → ((bound +ℤ pos 1) ≤ℤ x → ⊥) → x ≤ℤ bound
within_high x bound h = grind (arith, ints)

pub below_told : (m : Box) (u : VarId) (bound : ℤ) (ls : List Literal) → SurvivorsWithin Low m (ls ++ below u bound ∷ []) u.0 bound
below_told m u bound ls x has s =
    within_low x bound (λ h. not_both (holds_at (below u bound) x) (holds_le (below u bound) x refl h) (survives-last u.0 ls (below u bound) x s refl))

pub above_told : (m : Box) (u : VarId) (bound : ℤ) (ls : List Literal) → SurvivorsWithin High m (ls ++ above u bound ∷ []) u.0 bound
above_told m u bound ls x has s =
    within_high x bound (λ h. not_both (holds_at (above u bound) x) (holds_ge (above u bound) x refl h) (survives-last u.0 ls (above u bound) x s refl))

pub below_still : (m : Box) (v : ℕ) (bound : ℤ) (ls : List Literal) → IsBox m → v < length m.starts → bound ≤ℤ lo_of (start_at m.starts v)
    → SurvivorsWithin Low m ls v bound
below_still m v bound ls s lt le x has h =
    let t : IsCell (start_at m.starts v) = sane-cell (start_at m.starts v) (s.starts v lt) in
    let low : lo_of (start_at m.starts v) ≤ℤ x = t.low x has in
    omega (arith, ints)

pub above_still : (m : Box) (v : ℕ) (bound : ℤ) (ls : List Literal) → IsBox m → v < length m.starts → hi_of (start_at m.starts v) ≤ℤ bound
    → SurvivorsWithin High m ls v bound
above_still m v bound ls s lt le x has h =
    let t : IsCell (start_at m.starts v) = sane-cell (start_at m.starts v) (s.starts v lt) in
    let high : x ≤ℤ hi_of (start_at m.starts v) = t.high x has in
    omega (arith, ints)

pub low_bound_told : (m : Box) (implied : Option Literal) (ls : List Literal) (v : ℕ) (bound : ℤ) → SurvivorsWithin Low m ls v bound
    → CoversBound Low m implied ls v bound
low_bound_told m implied ls v bound c x left = c x left.first left.lives

pub high_bound_told : (m : Box) (implied : Option Literal) (ls : List Literal) (v : ℕ) (bound : ℤ) → SurvivorsWithin High m ls v bound
    → CoversBound High m implied ls v bound
high_bound_told m implied ls v bound c x left = c x left.first left.lives

less_or_not : (x y : ℤ) → (x <ℤ y) ⊎ (y ≤ℤ x)
less_or_not x y = grind (arith, ints)

-- what the failing of the implied end leaves open is told value by value
pub low_between_told : (m : Box) (implied : Option Literal) (ls : List Literal) (v : ℕ) (own bound : ℤ) → IsSane (cell_of m v) → IsLowBound m implied v own
    → bound ≤ℤ lo_of (asked m implied v) → CoversBetween m ls v own bound → CoversBound Low m implied ls v bound
low_between_told m implied ls v own bound s b at told x left =
    let k : IsCell (cell_of m v) = sane-cell (cell_of m v) s in
    let low : own ≤ℤ x = b.left ls x left in
    let first : lo_of (cell_of m v) <ℤ own = b.low in
    let last : lo_of (asked m implied v) ≤ℤ hi_of (cell_of m v) = b.reached (hi_of (cell_of m v)) k.greatest b.high in
    elim (less_or_not x bound) [
      | inl less ↦ (let has : has_of (cell_of m v) x ≡ true = told x left.first low less left.lives (omega (arith, ints)) (omega (arith, ints)) in
          let reached : lo_of (asked m implied v) ≤ℤ x = b.reached x has low in
          omega (arith, ints))
      | inr more ↦ more
    ]

pub high_between_told : (m : Box) (implied : Option Literal) (ls : List Literal) (v : ℕ) (own bound : ℤ) → IsSane (cell_of m v) → IsHighBound m implied v own
    → hi_of (asked m implied v) ≤ℤ bound → CoversBetween m ls v (bound +ℤ pos 1) (own +ℤ pos 1) → CoversBound High m implied ls v bound
high_between_told m implied ls v own bound s b at told x left =
    let k : IsCell (cell_of m v) = sane-cell (cell_of m v) s in
    let high : x ≤ℤ own = b.left ls x left in
    let last : own <ℤ hi_of (cell_of m v) = b.high in
    let first : lo_of (cell_of m v) ≤ℤ hi_of (asked m implied v) = b.reached (lo_of (cell_of m v)) k.least b.low in
    elim (less_or_not bound x) [
      | inl less ↦ (let has : has_of (cell_of m v) x ≡ true = told x left.first (omega (arith, ints)) (omega (arith, ints)) left.lives (omega (arith, ints)) (omega (arith, ints)) in
          let reached : x ≤ℤ hi_of (asked m implied v) = b.reached x has high in
          omega (arith, ints))
      | inr more ↦ more
    ]

-- nothing need be told where the failing of the implied end leaves nothing beyond the bound
pub high_within_told : (m : Box) (implied : Option Literal) (ls : List Literal) (v : ℕ) (own bound : ℤ) → IsHighBound m implied v own → own ≤ℤ bound
    → CoversBound High m implied ls v bound
high_within_told m implied ls v own bound b le x left =
    let high : x ≤ℤ own = b.left ls x left in
    omega (arith, ints)
