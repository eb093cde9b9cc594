use Rattle.std.proofs.Common.{rules, ◌≡◌, ◌∙◌, sym, ap, not, FitsSigned, w64}
use Rattle.std.proofs.lemmas.Int.{to_z-of_z}
use Rattle.dom_core.specs.declared.set.Set.{Set}
use Rattle.kind_arith.specs.InSet.{Restriction}
use Rattle.kind_parts.specs.Set.{set_has}
use Rattle.kind_arith.proofs.ArgumentLaws.{refuted_const}
use Rattle.kind_arith.proofs.in_set.InSetKind.refutes_in.Goals as goal

pub returns-in-Const : goal.returns-in-Const
returns-in-Const g c =
    let fits : FitsSigned w64 c.in-Const.value = search rules in
    let arg : c.self.inside.arg ≡ c.args.self.now.arg = ap (λ (k : Restriction). k.arg) c.self.view_is in
    let set : c.self.inside.set ≡ c.args.self.now.set = ap (λ (k : Restriction). k.set) c.self.view_is in
    let here : c.set_has.result ≡ set_has c.self.inside.set c.in-Const.value = rw (to_z-of_z w64 c.in-Const.value fits) at c.set_has.ensures in
    ap not (here ∙ ap (λ (s : Set). set_has s c.in-Const.value) set)
    ∙ refuted_const c.args.self.now (g.R.Region.cells c.args.cells.now) c.in-Const.value (sym arg ∙ c.in-Const.is)
