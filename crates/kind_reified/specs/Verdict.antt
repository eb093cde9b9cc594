-- Reasons of truths of sums: one end of the output, and one of the sum.
use Rattle.std.specs.Prelude.{◌≡◌, true, List, pos, ◌-ℤ◌, ◌≤ℤ◌, Option}
use Rattle.dom_core.specs.Ends.{Ends}
use Rattle.dom_core.specs.declared.arg.Arg.{Arg}
use Rattle.dom_core.specs.declared.literal.Literal.{Literal}
use Rattle.dom_cells.specs.Box.{Box}
use Rattle.kind_law.specs.Function.{have_none}
use Rattle.kind_law.specs.Reason.{CoversEnd}
use Rattle.kind_law.specs.declared.side.Side.{Side}
use Rattle.kind_sum.specs.SumRelation.{SumRelation}
use Rattle.kind_parts.specs.Relation.{truth_over}
use Rattle.kind_law.specs.Argument.{ArgHas}
use Rattle.kind_sum.specs.Explained.{edge, EdgeNear}
use Rattle.kind_reified.specs.declared.argued.Verdict.{Verdict}

-- the end of the refuted box is told of the argument, where that is a variable
abbrev pub ArgCovers : Side → Box → Option Literal → List Literal → Arg → Type 0
ArgCovers side m implied ls x = ArgHas (λ u. CoversEnd side m implied ls u.0) x

-- the truths of a sum whose edge lies so near have no integer in common with an interval within this end of the output's
abbrev pub IsVerdict : SumRelation → Ends → Ends → Verdict → Type 0
IsVerdict k t y v =
    (u o : Ends) → (edge v.excess.turned t -ℤ pos v.excess.slack) ≤ℤ edge v.excess.turned u → EdgeNear v.side y o (pos 0) → have_none (truth_over k.relation u k.bound) o ≡ true
