use Rattle.std.proofs.Common.{◌≡◌, ap, sym, subst, ℕ, ◌≤◌, ◌+◌, ◌^◌, arith}
use Rattle.dom_core.specs.Ends.{difference_ends}
use Rattle.kind_law.specs.Laws.{EndsIn, befores, afters, changes}
use Rattle.kind_sum.specs.SumRelation.{SumRelation, sum_vars}
use Rattle.kind_reified.specs.LinearReified.{LinearReified}
use Rattle.kind_law.specs.Argument.{arg_span}
use Rattle.kind_sum.specs.Sum.{magnitude, vars_of}
use Rattle.kind_law.proofs.ArgumentLaws.{each_listed}
use Rattle.kind_sum.specs.SumLaws.{each_unit, magnitude_change}
use Rattle.kind_law.specs.declared.argument.Reading.TheVariants.{Values, Changes}
use Rattle.kind_reified.proofs.reified.LinearReified.sum_change.Goals as goal

sum_fits : (a b c : ℕ) → a ≤ b + c → b ≤ 2 ^ 101 → c ≤ 2 ^ 101 → a ≤ 2 ^ 102
sum_fits a b c h f g = omega arith

pub total-requires-clause-fits : goal.total-requires-clause-fits
total-requires-clause-fits c =
    let form : c.self.inside.linear ≡ c.args.self.now.sum = ap (λ (k : LinearReified). k.sum) c.self.view_is in
    let m : magnitude c.args.self.now.sum.terms (arg_span Changes (changes c.args.view.now)) ≤ magnitude c.args.self.now.sum.terms (arg_span Values (afters c.args.view.now)) + magnitude c.args.self.now.sum.terms (arg_span Values (befores c.args.view.now)) =
    magnitude_change c.args.self.now.sum.terms (changes c.args.view.now) (afters c.args.view.now) (befores c.args.view.now)
    (each_listed (λ u. EndsIn (changes c.args.view.now u.0) (difference_ends (afters c.args.view.now u.0) (befores c.args.view.now u.0))) (vars_of c.args.self.now.sum.terms) c.requires.change) in
    subst (λ (k : SumRelation). magnitude k.terms (arg_span Changes (changes c.args.view.now)) ≤ 2 ^ 102) (sym form)
    (sum_fits _ _ _ m c.requires.after c.requires.before)

pub total-requires-clause-ready : goal.total-requires-clause-ready
total-requires-clause-ready c = each_unit (sum_vars c.self.inside.linear)
