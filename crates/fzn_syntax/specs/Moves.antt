-- What a machine tells of a step.
use Rattle.std.specs.Prelude.{◌≡◌, Option, Some, None}
use Rattle.fzn_syntax.specs.declared.turn.Moved.{Moved}
use Rattle.fzn_syntax.specs.declared.turn.Moved.TheVariants as moves

-- the step with the new state, where there is one
abbrev pub IsMoved : {Q : Type 0} → Moved → Option (Option Q) → Q → Type 0
IsMoved moves.Stop stepped new = stepped ≡ None
IsMoved moves.Done stepped new = stepped ≡ Some None
IsMoved moves.On stepped new = stepped ≡ Some (Some new)
