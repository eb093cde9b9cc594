use Rattle.std.proofs.Common.{◌≡◌, [], ◌∷◌, ◌++◌, w64}
use Rattle.std.proofs.lemmas.Int.{to_z-of_z}
use Rattle.dom_core.specs.declared.literal.Rel.TheVariants.{Eq}
use Rattle.kind_law.proofs.ReasonLaws.{hole_told}
use Rattle.kind_law.proofs.reason.explain_value.Goals as goal

pub returns-clause-covers : goal.returns-clause-covers
returns-clause-covers c =
    let grown : c.push.new.self ≡ c.args.out.now ++ record { var = c.args.var; rel = Eq; value = c.args.value } ∷ [] =
    rw (to_z-of_z w64 c.args.value c.ranges.value) at c.in_ok-push.ensures.ok in
    rw grown (hole_told c.args.cells.now.state c.args.var c.args.out.now c.args.value)
