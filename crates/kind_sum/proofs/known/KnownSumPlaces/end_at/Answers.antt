use Rattle.std.proofs.Common.{rules, ◌≡◌, ◌∙◌, sym, ap, subst, ◌<◌, length, get_or, List, ℤ, pos, FitsSigned, w64}
use Rattle.std.proofs.lemmas.Int.{to_z-of_z}
use Rattle.dom_cells.specs.Box.{cell_of}
use Rattle.dom_core.specs.declared.arg.Arg.TheVariants.{Var}
use Rattle.kind_sum.specs.Slack.{IsSlack}
use Rattle.kind_sum.specs.declared.term.Term.{Term}
use Rattle.kind_sum.proofs.SlackLaws.{args_count, slack_here, own_has}
use Rattle.kind_sum.proofs.known.KnownSumPlaces.end_at.Goals as goal

-- what reads beyond the terms would give
abbrev none : Term
none = record { coef = pos 0; arg = Var (record { 0 = 0 }) }

pub first_end-requires-clause-var : goal.first_end-requires-clause-var
first_end-requires-clause-var c =
    let lt : c.args.place < length c.args.self.now.sum.now.terms = subst (λ n. c.args.place < n) (args_count c.args.self.now.sum.now.terms) c.requires.place in
    own_has (λ u. u.0 < length c.args.cells.now.state.starts) c.args.self.now.sum.now (get_or c.args.self.now.sum.now.terms c.args.place none).coef c.args.self.now.total (cell_of c.args.cells.now.state) c.in-Var.var
    (slack_here c.args.self.now.sum.now c.args.place none c.in-Var.var c.args.self.now.total (cell_of c.args.cells.now.state) lt
    (ap (λ (ts : List Term). (get_or ts c.args.place none).arg) (sym c.terms.ensures) ∙ c.in-Var.is) c.requires.answers.single c.requires.answers.sum c.requires.answers.fits) c.requires.answers.below

pub first_end-requires-clause-slack : goal.first_end-requires-clause-slack
first_end-requires-clause-slack c =
    let lt : c.args.place < length c.args.self.now.sum.now.terms = subst (λ n. c.args.place < n) (args_count c.args.self.now.sum.now.terms) c.requires.place in
    let fits : FitsSigned w64 (get_or c.terms.result.now c.args.place none).coef = search rules in
    subst (λ (x : ℤ). IsSlack c.args.self.now.sum.now x c.args.self.now.total (cell_of c.args.cells.now.state) c.in-Var.var)
    (ap (λ (ts : List Term). (get_or ts c.args.place none).coef) (sym c.terms.ensures) ∙ sym (to_z-of_z w64 (get_or c.terms.result.now c.args.place none).coef fits))
    (slack_here c.args.self.now.sum.now c.args.place none c.in-Var.var c.args.self.now.total (cell_of c.args.cells.now.state) lt
    (ap (λ (ts : List Term). (get_or ts c.args.place none).arg) (sym c.terms.ensures) ∙ c.in-Var.is) c.requires.answers.single c.requires.answers.sum c.requires.answers.fits)
