-- The arguments so far are what the expressions so far stand for.
use Rattle.std.proofs.Common.{◌≡◌, length, take}
use Rattle.fzn_forms.specs.Reading.{AreReadAs}
use Rattle.fzn_forms.proofs.typed.read_all.Given as goal

abbrev pub invariant-loop-place : goal.invariant-loop-place
invariant-loop-place l = record {
  same : length l.wanted ≡ length l.expressions;
  read : AreReadAs l.values (take l.place l.wanted) (take l.place l.expressions) l.arguments.items;
}
