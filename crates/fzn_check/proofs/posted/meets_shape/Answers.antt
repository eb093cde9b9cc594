use Rattle.std.proofs.Common.{List, ◌∙◌, subst}
use Rattle.fzn_syntax.specs.declared.declaration.Declaration.{Declaration}
use Rattle.fzn_check.specs.Shapes.{HaveOneLengthAt, HasDifferentAt}
use Rattle.fzn_check.proofs.Told.{both_told}
use Rattle.fzn_check.proofs.posted.meets_shape.Goals as goal

pub returns-then-have_one_length_at : goal.returns-then-have_one_length_at
returns-then-have_one_length_at c =
    let ds = c.args.distinct.now in
    let es = c.args.arguments.now in
    let one : HaveOneLengthAt ds es 1 2 = subst (λ (x : List Declaration). HaveOneLengthAt x es 1 2) (c.scope-scope.ensures ∙ c.values.ensures) (c.have_one_length_at-in-Cardinality.ensures.0 c.if-have_one_length_at.true) in
    rw c.in-Cardinality.is (both_told (HaveOneLengthAt ds es 1 2) (HasDifferentAt ds es 1) c.has_different_at.result one c.has_different_at.ensures)
