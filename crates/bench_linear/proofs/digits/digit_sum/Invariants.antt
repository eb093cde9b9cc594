use Rattle.std.proofs.Common.{◌≡◌, length}
use Rattle.std.specs.List.{All}
use Rattle.bench_linear.proofs.DigitLaws.{IsSlight, IsVarBelow}
use Rattle.bench_linear.proofs.digits.digit_sum.Given as goal

abbrev pub invariant-loop-at : goal.invariant-loop-at
invariant-loop-at l = record {
  coefs : length l.coefs.items ≡ l.at;
  args : length l.args.items ≡ l.at;
  slight : All IsSlight l.coefs.items;
  vars : All (IsVarBelow l.fn.width) l.args.items;
}
