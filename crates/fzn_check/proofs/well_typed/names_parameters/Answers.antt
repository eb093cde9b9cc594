use Rattle.std.proofs.Common.{◌↔◌, IsTrue, ℤ, w64, FitsSigned, rules, subst}
use Rattle.std.proofs.lemmas.Int.{to_z-of_z}
use Rattle.fzn_check.specs.WellTyped.{IsParameters}
use Rattle.fzn_check.proofs.FoundLaws.{no_such, one_such}
use Rattle.fzn_check.proofs.well_typed.names_parameters.Goals as goal

pub returns-in-None : goal.returns-in-None
returns-in-None c = no_such (IsParameters c.args.base c.args.last) c.args.scope.now c.args.name.now c.in-None.ensures

pub returns-in-Some : goal.returns-in-Some
returns-in-Some c =
    let d = c.in-Some.declaration.now in
    let fits : FitsSigned w64 c.args.last = search rules in
    let told = subst (λ (z : ℤ). IsTrue c.is_parameters.result ↔ IsParameters c.args.base z d) (to_z-of_z w64 c.args.last fits) c.is_parameters.ensures in
    one_such (IsParameters c.args.base c.args.last) c.args.scope.now c.args.name.now d c.is_parameters.result c.in-Some.ensures told
