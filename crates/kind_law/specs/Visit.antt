-- Visits: what a kind tells of a box at once.
use Rattle.std.specs.Prelude.{◌≡◌, ◌<◌, Bool, true, false, List, [], ◌∷◌, ℕ}
use Rattle.dom_core.specs.declared.literal.Literal.{Literal}
use Rattle.dom_core.specs.declared.var_id.VarId.{VarId}
use Rattle.dom_cells.specs.Box.{cut_all}
use Rattle.dom_cells.specs.declared.start.Start.{Start}
use Rattle.kind_law.specs.Laws.{Each}
use Rattle.kind_law.specs.Next.{HasNoEnd}
use Rattle.kind_law.specs.Reason.{IsImplied}
use Rattle.kind_law.specs.declared.visited.Visited.{Visited}
use Rattle.kind_law.specs.declared.visited.Visited.TheVariants.{Refuted, Ends}

-- each of the literals is implied, and on one of so many variables
abbrev pub AllImplied : ((ℕ → Start) → Bool) → (ℕ → Start) → ℕ → List Literal → Type 0
AllImplied refuted b n [] = Unit {0}
AllImplied refuted b n (l ∷ ls) = (l.var.0 < n) × IsImplied refuted b l × AllImplied refuted b n ls

-- implied literals, and none only where no end of the variables is implied
pub record AreEnds (refuted : (ℕ → Start) → Bool) (vars : List VarId) (b : ℕ → Start) (n : ℕ) (ls : List Literal) : Type 0 where
  pub implied : AllImplied refuted b n ls
  pub none : ls ≡ [] → Each (HasNoEnd refuted b) vars

-- the box cut by each of the literals
abbrev pub cut_box : (ℕ → Start) → List Literal → ℕ → Start
cut_box b ls v = cut_all v (b v) ls

-- the kind doesn't give up the box and implies no end of it
pub record IsQuiet (refuted : (ℕ → Start) → Bool) (vars : List VarId) (b : ℕ → Start) : Type 0 where
  pub stands : refuted b ≡ false
  pub ends : Each (HasNoEnd refuted b) vars

-- implied ends of a box that isn't given up, after which nothing follows unless more may
pub record IsBatch (refuted : (ℕ → Start) → Bool) (vars : List VarId) (b : ℕ → Start) (n : ℕ) (more : Bool) (ls : List Literal) : Type 0 where
  pub stands : refuted b ≡ false
  pub ends : AreEnds refuted vars b n ls
  pub last : more ≡ false → IsQuiet refuted vars (cut_box b ls)

-- what a visit tells: that the box is given up, or the ends that it implies
abbrev pub IsVisited : ((ℕ → Start) → Bool) → List VarId → (ℕ → Start) → ℕ → Visited → List Literal → Type 0
IsVisited refuted vars b n Refuted ls = (refuted b ≡ true) × (ls ≡ [])
IsVisited refuted vars b n (Ends more) ls = IsBatch refuted vars b n more ls
