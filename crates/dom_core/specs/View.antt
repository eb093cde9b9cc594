-- Views: for each variable its values before and after and the changes between them.
use Rattle.std.specs.Prelude.{◌≡◌, true, List, ℕ, ℤ, pos, ◌-ℤ◌, slice_index_or}
use Rattle.dom_core.specs.Assignment.{entry_at}
use Rattle.dom_core.specs.Ends.{lies_in, only}
use Rattle.dom_core.specs.declared.view.Movement.{Movement}

-- a variable that stays at 0
abbrev pub still : Movement
still = record { before = only (pos 0); after = only (pos 0); change = only (pos 0) }

-- the movement of the variable with this number
abbrev pub movement_at : List Movement → ℕ → Movement
movement_at view v = slice_index_or view v still

-- the variable has a value before, a value after and a change that the view allows
pub record IsCovered (view : List Movement) (a b : List ℤ) (v : ℕ) : Type 0 where
  pub before : lies_in (entry_at a v) (movement_at view v).before ≡ true
  pub after : lies_in (entry_at b v) (movement_at view v).after ≡ true
  pub change : lies_in (entry_at b v -ℤ entry_at a v) (movement_at view v).change ≡ true
