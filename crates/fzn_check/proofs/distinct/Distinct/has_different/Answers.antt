use Rattle.std.proofs.Common.{List, ◌≡◌, subst}
use Rattle.fzn_syntax.specs.declared.declaration.Declaration.{Declaration}
use Rattle.fzn_syntax.specs.declared.expression.Basic.{Basic}
use Rattle.fzn_values.specs.Constants.{IsListOf, IsListAt}
use Rattle.fzn_check.proofs.Marked.{told_by_mark}
use Rattle.fzn_check.proofs.distinct.Distinct.has_different.Goals as goal

pub returns-in-Some : goal.returns-in-Some
returns-in-Some c =
    let at : IsListAt c.args.self.now c.args.expression.now c.in-Some.place = subst (λ (ds : List Declaration). IsListAt ds c.args.expression.now c.in-Some.place) c.values-values.ensures c.in-Some.ensures.is in
    let only : (bs cs : List Basic) → IsListOf c.args.self.now c.args.expression.now bs → IsListOf c.args.self.now c.args.expression.now cs → cs ≡ bs =
    subst (λ (ds : List Declaration). (bs cs : List Basic) → IsListOf ds c.args.expression.now bs → IsListOf ds c.args.expression.now cs → cs ≡ bs) c.values-values.ensures c.in-Some.ensures.only in
    told_by_mark c.args.self.now c.args.expression.now c.in-Some.place c.mark.result at only c.mark.ensures
