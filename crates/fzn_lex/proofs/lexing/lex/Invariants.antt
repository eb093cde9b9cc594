-- The text is cut up to this place.
use Rattle.std.proofs.Common.{◌-◌, ◌≤◌, length}
use Rattle.fzn_lex.specs.Cutting.{limit}
use Rattle.fzn_lex.proofs.Fronts.{Front}
use Rattle.fzn_lex.proofs.lexing.lex.Given as goal

abbrev pub invariant-pieces : goal.invariant-pieces
invariant-pieces l = record { front : Front l.bytes l.at l.tokens.items; within : l.at ≤ length l.bytes; short : length l.bytes ≤ limit }

abbrev pub decreases-pieces : goal.decreases-pieces
decreases-pieces l = length l.bytes - l.at
