-- The digits left, behind the number so far, write what all the digits write.
use Rattle.std.proofs.Common.{◌≡◌, ◌^◌, ◌≤◌, drop}
use Rattle.fzn_lex.specs.Classes.{value_after}
use Rattle.fzn_lex.proofs.numbers.value.Given as goal

abbrev pub invariant-loop-b : goal.invariant-loop-b
invariant-loop-b l = record { small : l.total ≤ 2 ^ 62; same : value_after l.base l.total (drop l.b-index l.digits) ≡ value_after l.base 0 l.digits }
