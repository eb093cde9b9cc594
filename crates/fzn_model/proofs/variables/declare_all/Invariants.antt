-- The declarations so far are built, and their variables put together.
use Rattle.std.proofs.Common.{◌≡◌, ◌≤◌, take, All}
use Rattle.fzn_limits.specs.Sizes.{limit, variables_in}
use Rattle.fzn_model.specs.Variables.{declared_draft, IsBuilt}
use Rattle.fzn_model.proofs.variables.declare_all.Given as goal

abbrev pub invariant-loop-declaration : goal.invariant-loop-declaration
invariant-loop-declaration l = record {
  few : variables_in l.declarations ≤ limit;
  built : All IsBuilt (take l.declaration-index l.declarations);
  draft_is : l.builder ≡ declared_draft (take l.declaration-index l.declarations);
}
