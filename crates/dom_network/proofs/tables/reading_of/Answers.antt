-- One node more.
use Rattle.std.proofs.Common.{◌∙◌, ◌++◌, [], ◌∷◌, List, ℕ, ap, sym, take, None}
use Rattle.dom_definers.specs.Definers.{numbers}
use Rattle.dom_network.specs.Completion.{reading_of}
use Rattle.dom_network.proofs.TableLaws.{reading_next}
use Rattle.dom_network.proofs.tables.reading_of.Goals as goal

pub loop-definer-preserved : goal.loop-definer-preserved
loop-definer-preserved c = record {
  reading =
      c.in_ok-add_node.ensures
      ∙ ap (λ (rows : List (List ℕ)). rows ++ numbers c.inputs_at.result.now ∷ []) c.loop-definer.invariant.reading
      ∙ ap (λ (row : List ℕ). reading_of c.args.constraints.now (take c.loop-definer.definer-index c.args.definers.now) ++ row ∷ []) c.inputs_at.ensures
      ∙ sym (reading_next c.args.constraints.now c.args.definers.now c.loop-definer.definer-index None c.loop-definer-test.true);
}
