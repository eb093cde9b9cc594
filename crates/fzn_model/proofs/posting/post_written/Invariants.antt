-- What the constraints so far post is put behind the rest.
use Rattle.std.proofs.Common.{◌≡◌, List, length}
use Rattle.dom_definers.specs.declared.posted.Posted.{Posted}
use Rattle.fzn_limits.specs.Sizes.{variables_in}
use Rattle.fzn_model.specs.Steps.{with_constraints}
use Rattle.fzn_model.proofs.Postings.{PostsOn}
use Rattle.fzn_model.proofs.posting.post_written.Given as goal

abbrev pub invariant-loop-constraint : goal.invariant-loop-constraint
invariant-loop-constraint l = record {
  whole : length l.defined.items ≡ variables_in l.values;
  done : (ps : List Posted) × PostsOn l.values l.constraints l.constraint-index l.defined.items ps × (l.builder ≡ with_constraints l.initial.builder ps) × (length ps ≡ l.constraint-index);
}
