use Rattle.std.proofs.Common.{◌≡◌, ◌==◌, ◌↔◌, List, true, subst, refl, ◌∙◌}
use Rattle.dom_index_sets.specs.declared.index_set.IndexSet.{IndexSet}
use Rattle.dom_index_sets.specs.Sizes.{product_of}
use Rattle.dom_index_sets.proofs.SizeLaws.{empty_told}
use Rattle.dom_index_sets.proofs.index_set.IndexSets.count_is.Goals as goal

pub returns-then-has_empty : goal.returns-then-has_empty
returns-then-has_empty c =
    let same : c.deref.result.now ≡ c.args.self.now = c.deref.ensures.value ∙ c.self.view_is in
    subst (λ (ss : List IndexSet). ((c.args.length == 0) ≡ true) ↔ (product_of ss ≡ c.args.length)) same (empty_told c.deref.result.now c.args.length (c.args.length == 0) c.if-has_empty.ensures refl)
