use Rattle.std.proofs.Common.{rules, ◌∙◌, sym, ap, subst, ◌<◌, length, get_or, List, ℤ, pos, FitsSigned, w64}
use Rattle.std.proofs.lemmas.Int.{to_z-of_z}
use Rattle.dom_cells.specs.Box.{cell_of}
use Rattle.dom_core.specs.declared.arg.Arg.TheVariants.{Var}
use Rattle.kind_reified.specs.TruthNext.{IsTruthSlack}
use Rattle.kind_sum.specs.declared.term.Term.{Term}
use Rattle.kind_sum.proofs.SlackLaws.{args_count}
use Rattle.kind_reified.proofs.TruthNextLaws.{term_read, truth_slack_here}
use Rattle.kind_reified.proofs.truth_next.TruthSpansPlaces.end_at.Goals as goal

-- what reads beyond the terms would give
abbrev none : Term
none = record { coef = pos 0; arg = Var (record { 0 = 0 }) }

pub first_end-requires-clause-var : goal.first_end-requires-clause-var
first_end-requires-clause-var c =
    let lt : c.args.place < length c.args.self.now.linear.now.terms = subst (λ n. c.args.place < n) (args_count c.args.self.now.linear.now.terms) c.requires.place in
    term_read (record { sum = c.args.self.now.linear.now; output = c.args.self.now.output }) (length c.args.cells.now.state.starts) c.args.place none c.in-Var.var c.requires.answers.single lt
    (ap (λ (ts : List Term). (get_or ts c.args.place none).arg) (sym c.terms.ensures) ∙ c.in-Var.is) c.requires.answers.below

pub first_end-requires-clause-answers : goal.first_end-requires-clause-answers
first_end-requires-clause-answers c =
    let lt : c.args.place < length c.args.self.now.linear.now.terms = subst (λ n. c.args.place < n) (args_count c.args.self.now.linear.now.terms) c.requires.place in
    let fits : FitsSigned w64 (get_or c.terms.result.now c.args.place none).coef = search rules in
    subst (λ (x : ℤ). IsTruthSlack (record { sum = c.args.self.now.linear.now; output = c.args.self.now.output }) x c.args.self.now.total c.args.self.now.span (cell_of c.args.cells.now.state) c.in-Var.var)
    (ap (λ (ts : List Term). (get_or ts c.args.place none).coef) (sym c.terms.ensures) ∙ sym (to_z-of_z w64 (get_or c.terms.result.now c.args.place none).coef fits))
    (truth_slack_here (record { sum = c.args.self.now.linear.now; output = c.args.self.now.output }) c.args.place none c.in-Var.var c.args.self.now.total c.args.self.now.span (cell_of c.args.cells.now.state) c.requires.answers.single lt
    (ap (λ (ts : List Term). (get_or ts c.args.place none).arg) (sym c.terms.ensures) ∙ c.in-Var.is) c.requires.answers.spans)
