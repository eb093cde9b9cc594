use Rattle.std.proofs.Common.{rules, ◌∙◌, w64, FitsSigned, to_z, of_z}
use Rattle.std.proofs.lemmas.Int.{to_z-of_z}
use Rattle.kind_reified.proofs.ArguedLaws.{certain_verdict_of}
use Rattle.kind_reified.proofs.argued.certain_verdict.Goals as goal

pub returns : goal.returns
returns c =
    let bound_fits : FitsSigned w64 c.bound-2.result = search rules in
    certain_verdict_of c.args.linear.now c.args.total c.args.output c.certain_excess.result c.relation-relation.result (to_z w64 (of_z w64 c.bound-2.result))
    c.relation-relation.ensures (to_z-of_z w64 c.bound-2.result bound_fits ∙ c.bound-2.ensures) c.requires.output c.certain_excess.ensures
