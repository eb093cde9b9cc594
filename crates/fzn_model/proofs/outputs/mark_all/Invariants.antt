-- What is printed of the declarations so far is put behind the rest.
use Rattle.std.proofs.Common.{◌≡◌, List}
use Rattle.dom_model.specs.declared.output.Output.{Output}
use Rattle.fzn_model.specs.Outputs.{IsOutput}
use Rattle.fzn_model.specs.Steps.{with_outputs}
use Rattle.fzn_model.proofs.Folding.{Continues}
use Rattle.fzn_model.proofs.outputs.mark_all.Given as goal

abbrev pub invariant-loop-place : goal.invariant-loop-place
invariant-loop-place l = record {
  done : (os : List Output) × Continues (IsOutput l.declarations) l.declarations l.place os × (l.builder ≡ with_outputs l.initial.builder os);
}
