-- Boxes that lie in one another, or agree, and what follows for every kind from its laws.
use Rattle.std.specs.Prelude.{◌≡◌, ◌<◌, Bool, true, not, List, ℕ, ℤ, Option}
use Rattle.dom_core.specs.Literal.{is_satisfied, negation}
use Rattle.dom_core.specs.declared.literal.Literal.{Literal}
use Rattle.dom_core.specs.declared.var_id.VarId.{VarId}
use Rattle.dom_cells.specs.Box.{Box, start_at}
use Rattle.dom_cells.specs.Cell.{has_of, IsFalse, IsPossible, IsSane}
use Rattle.dom_cells.specs.declared.start.Start.{Start}
use Rattle.kind_law.specs.DefineLaws.{AreFixed}
use Rattle.kind_law.specs.Laws.{Each, AllBelow, AllSane, IsWithin}
use Rattle.kind_law.specs.Next.{HasNoEnd}
use Rattle.kind_law.specs.Reason.{IsImplied, IsReason}

-- each of so many cells has a value
pub record AreSane (n : ℕ) (b : ℕ → Start) : Type 0 where
  pub cells : (v : ℕ) → v < n → IsSane (b v)

-- the first box has no value that the second one lacks
pub record IsInside (n : ℕ) (small large : ℕ → Start) : Type 0 where
  pub values : (v : ℕ) → v < n → (x : ℤ) → has_of (small v) x ≡ true → has_of (large v) x ≡ true

-- the boxes have the same cell at each of the variables
abbrev pub AgreeAt : (ℕ → Start) → (ℕ → Start) → List VarId → Type 0
AgreeAt a b vars = Each (λ u. a u.0 ≡ b u.0) vars

-- boxes that agree at the variables are refuted alike, and where the one implies no end of them, the other implies none
abbrev pub AgreeLaw : List VarId → ((ℕ → Start) → Bool) → Type 0
AgreeLaw vars refuted = (a b : ℕ → Start) → AllSane b vars → AgreeAt a b vars → (refuted a ≡ refuted b) × (Each (HasNoEnd refuted b) vars → Each (HasNoEnd refuted a) vars)

-- where each of the variables is fixed, the box is refuted exactly where their values don't meet the kind
abbrev pub AllFixedLaw : List VarId → ((ℕ → Start) → Bool) → (List ℤ → Bool) → Type 0
AllFixedLaw vars refuted met = (b : ℕ → Start) (a : List ℤ) → AllSane b vars → AreFixed b vars a → refuted b ≡ not (met a)

-- a reason holds at each assignment within the starts that meets its kind
abbrev pub HoldsLaw : List VarId → ((ℕ → Start) → Bool) → (List ℤ → Bool) → Type 0
HoldsLaw vars refuted met = (m : Box) (implied : Option Literal) (ls : List Literal) → AllSane (start_at m.starts) vars → IsReason refuted m implied ls
    → (a : List ℤ) → IsWithin (start_at m.starts) vars a → met a ≡ true → is_satisfied ls a ≡ true

-- what is implied of a box stays implied in a box inside it, where it may still hold and may still fail there; where it
-- can't hold any more, the box inside is refuted
abbrev pub StaysLaw : List VarId → ((ℕ → Start) → Bool) → Type 0
StaysLaw vars refuted = (n : ℕ) (small large : ℕ → Start) (l : Literal) → AllBelow n vars → AreSane n small → AreSane n large → IsInside n small large → IsImplied refuted large l
    → (IsPossible (small l.var.0) l → IsPossible (small l.var.0) (negation l) → IsImplied refuted small l) × (IsFalse (small l.var.0) l → refuted small ≡ true)
