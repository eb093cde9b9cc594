-- Where reading stands among nested brackets.
use Rattle.std.specs.Prelude.{Bool, List}
use Rattle.fzn_syntax.specs.declared.turn.Place.{Place}

-- the place, whether the innermost open bracket is a parenthesis, and which stand around it, the nearest first
pub record Position : Type 0 where
  pub place : Place
  pub paren : Bool
  pub below : List Bool
