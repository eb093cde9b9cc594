use Rattle.std.proofs.Common.{◌∙◌, ap, sym, subst}
use Rattle.dom_cells.specs.Box.{cell_of}
use Rattle.kind_law.specs.Next.{IsNext}
use Rattle.kind_parts.specs.Walk.{IsArgEnd}
use Rattle.kind_sum.specs.SumRelation.{sum_vars}
use Rattle.kind_reified.specs.LinearReified.{LinearReified, reified_refuted}
use Rattle.kind_reified.specs.TruthNext.{AreSingle}
use Rattle.kind_reified.proofs.TruthNextLaws.{spans_of, stands_as, term_end_first, output_end_last}
use Rattle.kind_reified.proofs.reified.LinearReifiedPropagate.next.Goals as goal

pub term_end-end-requires : goal.term_end-end-requires
term_end-end-requires c =
    stands_as (record { sum = c.self.inside.linear; output = c.self.inside.output }) c.args.self.now c.total.result c.span.result c.args.cells.now.state c.self.view_is (c.self.invariant.singles c.if-not-self.false) c.requires.below
    (spans_of (record { sum = c.self.inside.linear; output = c.self.inside.output }) c.args.self.now c.total.result c.span.result c.args.cells.now.state c.self.view_is c.requires.fits c.total.ensures c.span.ensures)
    (ap (λ (k : LinearReified). reified_refuted k (cell_of c.args.cells.now.state)) c.self.view_is ∙ c.requires.quiet)

pub output_end-requires : goal.output_end-requires
output_end-requires c =
    stands_as (record { sum = c.self.inside.linear; output = c.self.inside.output }) c.args.self.now c.total.result c.span.result c.args.cells.now.state c.self.view_is (c.self.invariant.singles c.if-not-self.false) c.requires.below
    (spans_of (record { sum = c.self.inside.linear; output = c.self.inside.output }) c.args.self.now c.total.result c.span.result c.args.cells.now.state c.self.view_is c.requires.fits c.total.ensures c.span.ensures)
    (ap (λ (k : LinearReified). reified_refuted k (cell_of c.args.cells.now.state)) c.self.view_is ∙ c.requires.quiet)

pub returns-then-is_some : goal.returns-then-is_some
returns-then-is_some c =
    term_end_first c.args.self.now (cell_of c.args.cells.now.state) c.term_end-end.result (subst AreSingle c.self.view_is (c.self.invariant.singles c.if-not-self.false))
    (sym c.is_some.ensures ∙ c.if-is_some.true)
    (subst (λ (k : LinearReified). IsNext (reified_refuted k) (sum_vars k.sum) (cell_of c.args.cells.now.state) c.term_end-end.result) c.self.view_is c.term_end-end.ensures)

pub returns : goal.returns
returns c =
    output_end_last c.args.self.now (cell_of c.args.cells.now.state) c.term_end-end.result c.output_end.result (subst AreSingle c.self.view_is (c.self.invariant.singles c.if-not-self.false))
    (sym c.is_some.ensures ∙ c.if-is_some.false)
    (subst (λ (k : LinearReified). IsNext (reified_refuted k) (sum_vars k.sum) (cell_of c.args.cells.now.state) c.term_end-end.result) c.self.view_is c.term_end-end.ensures)
    (subst (λ (k : LinearReified). IsArgEnd (reified_refuted k) (cell_of c.args.cells.now.state) k.output c.output_end.result) c.self.view_is c.output_end.ensures)
