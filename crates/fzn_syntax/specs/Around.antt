-- The brackets that are open.
use Rattle.std.specs.Prelude.{List}
use Rattle.fzn_syntax.specs.declared.bracket.Bracket.{Bracket}

-- the innermost one, and those around it, the nearest first
pub record Around : Type 0 where
  pub bracket : Bracket
  pub below : List Bracket
