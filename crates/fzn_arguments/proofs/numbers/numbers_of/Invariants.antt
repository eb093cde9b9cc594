-- The declarations so far are numbered.
use Rattle.std.proofs.Common.{◌≡◌, ◌<◌, ℕ, length, Some, slice_get}
use Rattle.fzn_arguments.specs.Numbers.{number_at}
use Rattle.fzn_arguments.proofs.numbers.numbers_of.Given as goal

abbrev pub invariant-loop-declaration : goal.invariant-loop-declaration
invariant-loop-declaration l = record {
  counted : l.count ≡ number_at l.declarations l.declaration-index;
  size : length l.numbers.items ≡ l.declaration-index;
  at : (k : ℕ) → k < l.declaration-index → slice_get l.numbers.items k ≡ Some (number_at l.declarations k);
}
