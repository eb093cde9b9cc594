use Rattle.std.proofs.Common.{rules, ◌≡◌, ◌∙◌, sym, ap, false, ◌≤◌, ◌+◌, arith, FitsSigned, w64}
use Rattle.std.proofs.lemmas.Int.{to_z-of_z}
use Rattle.dom_core.specs.Ends.{Ends, difference_ends}
use Rattle.kind_law.specs.Laws.{EndsIn, befores, afters, changes}
use Rattle.kind_sum.specs.SumRelation.{SumRelation, sum_vars, stays_by}
use Rattle.kind_parts.specs.Relation.{certain_by}
use Rattle.kind_law.specs.Argument.{arg_span}
use Rattle.kind_sum.specs.Sum.{total, magnitude, vars_of}
use Rattle.kind_law.proofs.ArgumentLaws.{each_listed}
use Rattle.kind_sum.specs.SumLaws.{each_unit, magnitude_change}
use Rattle.kind_law.specs.declared.argument.Reading.TheVariants.{Values, Changes}
use Rattle.kind_sum.proofs.KeepLaws.{stays_kept, certain_kept}
use Rattle.kind_sum.proofs.sum_relation.SumRelationKind.keeps.Goals as goal

pub total-change-requires-clause-ready : goal.total-change-requires-clause-ready
total-change-requires-clause-ready c = each_unit (sum_vars c.args.self.now)

pub total-change-requires-clause-fits : goal.total-change-requires-clause-fits
total-change-requires-clause-fits c =
    let m : magnitude c.args.self.now.terms (arg_span Changes (changes c.args.view.now)) ≤ magnitude c.args.self.now.terms (arg_span Values (afters c.args.view.now)) + magnitude c.args.self.now.terms (arg_span Values (befores c.args.view.now)) =
    magnitude_change c.args.self.now.terms (changes c.args.view.now) (afters c.args.view.now) (befores c.args.view.now)
    (each_listed (λ u. EndsIn (changes c.args.view.now u.0) (difference_ends (afters c.args.view.now u.0) (befores c.args.view.now u.0))) (vars_of c.args.self.now.terms) c.requires.change) in
    omega (arith, m, c.requires.before, c.requires.after)

pub returns-then-stays : goal.returns-then-stays
returns-then-stays c =
    let relation : c.self.inside.relation ≡ c.args.self.now.relation = ap (λ (k : SumRelation). k.relation) c.self.view_is in
    stays_kept c.args.self.now.relation (total c.args.self.now.terms (arg_span Changes (changes c.args.view.now))) (total c.args.self.now.terms (arg_span Values (afters c.args.view.now))) c.args.self.now.bound
    (ap (λ (e : Ends). stays_by c.args.self.now.relation e) (sym c.total-change.ensures) ∙ ap (λ r. stays_by r c.total-change.result) (sym relation) ∙ sym c.stays.ensures ∙ c.if-stays.true)

pub total-after-requires-clause-ready : goal.total-after-requires-clause-ready
total-after-requires-clause-ready c = each_unit (sum_vars c.args.self.now)

pub returns : goal.returns
returns c =
    let relation : c.self.inside.relation ≡ c.args.self.now.relation = ap (λ (k : SumRelation). k.relation) c.self.view_is in
    let bound : c.self.inside.bound ≡ c.args.self.now.bound = ap (λ (k : SumRelation). k.bound) c.self.view_is in
    let bound_fits : FitsSigned w64 c.self.inside.bound = search rules in
    let moves : stays_by c.args.self.now.relation (total c.args.self.now.terms (arg_span Changes (changes c.args.view.now))) ≡ false =
    ap (λ (e : Ends). stays_by c.args.self.now.relation e) (sym c.total-change.ensures) ∙ ap (λ r. stays_by r c.total-change.result) (sym relation) ∙ sym c.stays.ensures ∙ c.if-stays.false in
    let certain : c.is_certain.result ≡ certain_by c.self.inside.relation c.total-after.result c.self.inside.bound =
    rw (to_z-of_z w64 c.self.inside.bound bound_fits) at c.is_certain.ensures.certain in
    certain ∙ ap (λ r. certain_by r c.total-after.result c.self.inside.bound) relation
    ∙ ap (λ (e : Ends). certain_by c.args.self.now.relation e c.self.inside.bound) c.total-after.ensures
    ∙ ap (certain_by c.args.self.now.relation (total c.args.self.now.terms (arg_span Values (afters c.args.view.now)))) bound
    ∙ certain_kept c.args.self.now.relation (total c.args.self.now.terms (arg_span Changes (changes c.args.view.now))) (total c.args.self.now.terms (arg_span Values (afters c.args.view.now))) c.args.self.now.bound moves
