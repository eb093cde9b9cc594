-- Sums of variables whose values are digits.
use Rattle.std.specs.Prelude.{◌≡◌, ◌<◌, ◌+◌, ◌++◌, List, length, ℕ, pos}
use Rattle.std.specs.List.{All}
use Rattle.dom_core.specs.Ends.{Ends}
use Rattle.dom_core.specs.Rises.{range_of}
use Rattle.dom_core.specs.declared.literal.Literal.{Literal}
use Rattle.dom_core.specs.declared.view.Movement.{Movement}
use Rattle.dom_cells.specs.Box.{CellsView}
use Rattle.dom_cells.specs.declared.start.Start.{Start}
use Rattle.dom_cells.specs.declared.start.Start.TheVariants.{Values}
use Rattle.kind_law.specs.Laws.{AllBelow, EndsIn, IsTrueChange}
use Rattle.kind_sum.specs.SumRelation.{SumRelation, sum_vars, SumFits}

-- from the first digit to the last
abbrev pub digit_ends : Ends
digit_ends = record { lo = pos 0; hi = pos 9 }

-- all digits
abbrev pub IsDigits : Start → Type 0
IsDigits s = s ≡ Values (range_of (pos 0) (pos 9))

-- so many variables, each with all digits
pub record AreDigits (n : ℕ) (starts : List Start) : Type 0 where
  pub width : length starts ≡ n
  pub each : All IsDigits starts

-- a sum of so many variables, which stays small over digits
pub record IsDigitSum (n : ℕ) (k : SumRelation) : Type 0 where
  pub below : AllBelow n (sum_vars k)
  pub fits : SumFits k (λ v. digit_ends)

-- for how many literals there is room, with those in force
abbrev pub room_of : CellsView → ℕ
room_of m = m.spare + length m.state.literals

-- the list has the other one at its start
pub record Extends (old new : List Literal) : Type 0 where
  pub more : List Literal
  pub is : new ≡ old ++ more

-- the variable moves from digits to digits
pub record IsDigitMove (m : Movement) : Type 0 where
  pub before : EndsIn m.before digit_ends
  pub after : EndsIn m.after digit_ends
  pub change : IsTrueChange m

-- so many variables, each of which moves from digits to digits
pub record IsDigitView (n : ℕ) (view : List Movement) : Type 0 where
  pub width : length view ≡ n
  pub each : All IsDigitMove view

-- each literal is on one of so many variables
abbrev pub AreOn : ℕ → List Literal → Type 0
AreOn n ls = All (λ l. l.var.0 < n) ls
