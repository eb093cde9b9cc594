use Rattle.std.proofs.Common.{◌∙◌, ap, sym, subst, length}
use Rattle.dom_cells.specs.Box.{cell_of}
use Rattle.kind_law.specs.Visit.{IsVisited}
use Rattle.kind_reified.specs.LinearReified.{LinearReified, reified_refuted, reified_vars}
use Rattle.kind_reified.proofs.TruthNextLaws.{spans_of, spans_answer, stands_as}
use Rattle.kind_reified.proofs.reified.LinearReifiedPropagate.visit.Goals as goal

pub returns-then-are_apart-clause-visited : goal.returns-then-are_apart-clause-visited
returns-then-are_apart-clause-visited c =
    let spans = spans_of (record { sum = c.self.inside.linear; output = c.self.inside.output }) c.args.self.now c.total.result c.span.result c.args.cells.now.state c.self.view_is c.requires.fits c.total.ensures c.span.ensures in
    let answer = c.are_apart.ensures ∙ spans_answer (record { sum = c.self.inside.linear; output = c.self.inside.output }) c.total.result c.span.result c.truth.result (cell_of c.args.cells.now.state) spans c.truth.ensures.truth
    ∙ ap (λ (k : LinearReified). reified_refuted k (cell_of c.args.cells.now.state)) c.self.view_is in
    (sym answer ∙ c.if-are_apart.true, c.clear.ensures)

pub tell_ends-requires-clause-standing : goal.tell_ends-requires-clause-standing
tell_ends-requires-clause-standing c =
    let spans = spans_of (record { sum = c.self.inside.linear; output = c.self.inside.output }) c.args.self.now c.total.result c.span.result c.args.cells.now.state c.self.view_is c.requires.fits c.total.ensures c.span.ensures in
    let answer = c.are_apart.ensures ∙ spans_answer (record { sum = c.self.inside.linear; output = c.self.inside.output }) c.total.result c.span.result c.truth.result (cell_of c.args.cells.now.state) spans c.truth.ensures.truth in
    stands_as (record { sum = c.self.inside.linear; output = c.self.inside.output }) c.args.self.now c.total.result c.span.result c.args.cells.now.state c.self.view_is (c.self.invariant.singles c.if-not-self.false) c.requires.below spans
    (sym answer ∙ c.if-are_apart.false)
