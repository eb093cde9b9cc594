-- Ends that are told, so that no value beyond them is left.
use Rattle.std.specs.Prelude.{◌≡◌, Bool, true, List, ℕ, ℤ, ◌≤ℤ◌}
use Rattle.dom_cells.specs.Cell.{has_of}
use Rattle.dom_cells.specs.declared.start.Start.{Start}
use Rattle.dom_core.specs.declared.literal.Literal.{Literal}
use Rattle.dom_core.specs.declared.var_id.VarId.{VarId}
use Rattle.kind_law.specs.Laws.{Each}
use Rattle.kind_law.specs.Next.{IsLowEnd, IsHighEnd, HasNoLowEnd}
use Rattle.kind_law.specs.Visit.{AreEnds, cut_box}

-- the values that the literals leave lie within each implied end, within an upper one where no lower one is implied
pub record IsTold (refuted : (ℕ → Start) → Bool) (b : ℕ → Start) (ls : List Literal) (u : VarId) : Type 0 where
  pub low : (v x : ℤ) → IsLowEnd refuted b u v → has_of (cut_box b ls u.0) x ≡ true → v ≤ℤ x
  pub high : (v x : ℤ) → HasNoLowEnd refuted b u → IsHighEnd refuted b u v → has_of (cut_box b ls u.0) x ≡ true → x ≤ℤ v

-- implied ends, all of which are told
pub record AreTold (refuted : (ℕ → Start) → Bool) (vars : List VarId) (b : ℕ → Start) (n : ℕ) (ls : List Literal) : Type 0 where
  pub ends : AreEnds refuted vars b n ls
  pub told : Each (IsTold refuted b ls) vars
