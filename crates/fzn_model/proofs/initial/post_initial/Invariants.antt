-- The equations of the declarations so far are put behind the rest.
use Rattle.std.proofs.Common.{◌≡◌, ◌≤◌, List, length, take}
use Rattle.dom_definers.specs.declared.posted.Posted.{Posted}
use Rattle.fzn_limits.specs.Sizes.{variables_in}
use Rattle.fzn_model.specs.Posting.{IsInitial}
use Rattle.fzn_model.specs.Steps.{with_constraints}
use Rattle.fzn_model.proofs.Folding.{Continues}
use Rattle.fzn_model.proofs.initial.post_initial.Given as goal

abbrev pub invariant-loop-place : goal.invariant-loop-place
invariant-loop-place l = record {
  done : (ps : List Posted) × Continues (IsInitial l.declarations) l.declarations l.place ps × (l.builder ≡ with_constraints l.initial.builder ps)
      × (length ps ≤ variables_in (take l.place l.declarations));
}
