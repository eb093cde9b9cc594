-- The arguments so far are of their types.
use Rattle.std.proofs.Common.{◌≡◌, ◌<◌, ℕ, length, slice_get, Some}
use Rattle.fzn_signatures.specs.declared.argument_type.ArgumentType.{ArgumentType}
use Rattle.fzn_check.specs.Arguments.{IsArgumentAt}
use Rattle.fzn_check.proofs.argument.are_arguments.Given as goal

abbrev pub invariant-loop-place : goal.invariant-loop-place
invariant-loop-place l = record {
  size : length l.arguments ≡ length l.wanted;
  right : (k : ℕ) (x : ArgumentType) → k < l.place → slice_get l.wanted k ≡ Some x → IsArgumentAt l.scope x l.arguments k;
}
