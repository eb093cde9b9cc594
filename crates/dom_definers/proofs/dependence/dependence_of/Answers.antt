-- One node more.
use Rattle.std.proofs.Common.{◌∙◌, ◌++◌, [], ◌∷◌, List, ℕ, ap, sym, take, None}
use Rattle.dom_core.specs.declared.var_id.VarId.{VarId}
use Rattle.dom_definers.specs.Definers.{dependence, numbers}
use Rattle.dom_definers.proofs.DependenceLaws.{next_node}
use Rattle.dom_definers.proofs.dependence.dependence_of.Goals as goal

pub loop-definer-preserved : goal.loop-definer-preserved
loop-definer-preserved c = record {
  nodes =
      c.in_ok-add_node.ensures
      ∙ ap (λ (rows : List (List ℕ)). rows ++ numbers c.reads_at.result.now ∷ []) c.loop-definer.invariant.nodes
      ∙ ap (λ (reads : List VarId). dependence c.args.constraints.now (take c.loop-definer.definer-index c.args.definers.now) ++ numbers reads ∷ []) c.reads_at.ensures
      ∙ sym (next_node c.args.constraints.now c.args.definers.now c.loop-definer.definer-index None c.loop-definer-test.true);
}
