use Rattle.std.proofs.Common.{rules, ◌≡◌, ◌∙◌, ap, FitsSigned, w64, ℤ, to_z, of_z}
use Rattle.std.proofs.lemmas.Int.{to_z-of_z}
use Rattle.dom_core.specs.Ends.{scaled_ends}
use Rattle.dom_cells.specs.Box.{cell_of, kept}
use Rattle.dom_cells.specs.Cell.{ends_of}
use Rattle.kind_reified.proofs.ReplacedLaws.{own_size, term_below, term_sane, term_kept, kept_part, other_parts, truth_answer}
use Rattle.kind_sum.proofs.SlackLaws.{known_size}
use Rattle.kind_reified.proofs.truth_probe.TruthProbeProbe.is_refuted_within.Goals as goal

pub part-old-requires-clause-below : goal.part-old-requires-clause-below
part-old-requires-clause-below c =
    term_below c.args.cells.now.state (record { sum = c.args.self.now.linear.now; output = c.args.self.now.output }) c.args.self.now.coef c.args.self.now.total c.args.self.now.span c.args.literal c.requires.answers c.requires.bound c.requires.sound

pub part-old-requires-clause-ready : goal.part-old-requires-clause-ready
part-old-requires-clause-ready c =
    term_sane c.args.cells.now.state (record { sum = c.args.self.now.linear.now; output = c.args.self.now.output }) c.args.self.now.coef c.args.self.now.total c.args.self.now.span c.args.literal c.requires.answers c.requires.bound c.requires.sound

pub part-old-requires-clause-bits : goal.part-old-requires-clause-bits
part-old-requires-clause-bits c =
    let fits : FitsSigned w64 c.args.self.now.coef = search rules in
    let coef : to_z w64 (of_z w64 c.args.self.now.coef) ≡ c.args.self.now.coef = to_z-of_z w64 c.args.self.now.coef fits in
    rw coef (own_size c.args.self.now.linear.now c.args.self.now.coef c.args.self.now.total (cell_of c.args.cells.now.state) c.args.literal.var c.requires.answers.slack)

pub part-new-requires-clause-below : goal.part-new-requires-clause-below
part-new-requires-clause-below c =
    term_below c.args.cells.now.state (record { sum = c.args.self.now.linear.now; output = c.args.self.now.output }) c.args.self.now.coef c.args.self.now.total c.args.self.now.span c.args.literal c.requires.answers c.requires.bound c.requires.sound

pub part-new-requires-clause-ready : goal.part-new-requires-clause-ready
part-new-requires-clause-ready c =
    term_kept c.args.cells.now.state (record { sum = c.args.self.now.linear.now; output = c.args.self.now.output }) c.args.self.now.coef c.args.self.now.total c.args.self.now.span c.args.literal c.requires.answers c.requires.bound c.requires.sound

pub part-new-requires-clause-bits : goal.part-new-requires-clause-bits
part-new-requires-clause-bits c =
    let fits : FitsSigned w64 c.args.self.now.coef = search rules in
    let coef : to_z w64 (of_z w64 c.args.self.now.coef) ≡ c.args.self.now.coef = to_z-of_z w64 c.args.self.now.coef fits in
    rw coef (kept_part c.args.cells.now.state (record { sum = c.args.self.now.linear.now; output = c.args.self.now.output }) c.args.self.now.coef c.args.self.now.total c.args.self.now.span c.args.literal c.requires.answers c.requires.bound c.requires.sound)

pub replaced-total-requires-clause-total : goal.replaced-total-requires-clause-total
replaced-total-requires-clause-total c =
    known_size c.args.self.now.linear.now c.args.self.now.coef c.args.self.now.total (cell_of c.args.cells.now.state) c.args.literal.var c.requires.answers.slack

pub replaced-total-requires-clause-old : goal.replaced-total-requires-clause-old
replaced-total-requires-clause-old c =
    let fits : FitsSigned w64 c.args.self.now.coef = search rules in
    let coef : to_z w64 (of_z w64 c.args.self.now.coef) ≡ c.args.self.now.coef = to_z-of_z w64 c.args.self.now.coef fits in
    let old : c.part-old.result ≡ scaled_ends c.args.self.now.coef (ends_of (cell_of c.args.cells.now.state c.args.literal.var.0)) = c.part-old.ensures ∙ ap (λ (k : ℤ). scaled_ends k (ends_of (cell_of c.args.cells.now.state c.args.literal.var.0))) coef in
    rw old (own_size c.args.self.now.linear.now c.args.self.now.coef c.args.self.now.total (cell_of c.args.cells.now.state) c.args.literal.var c.requires.answers.slack)

pub replaced-total-requires-clause-new : goal.replaced-total-requires-clause-new
replaced-total-requires-clause-new c =
    let fits : FitsSigned w64 c.args.self.now.coef = search rules in
    let coef : to_z w64 (of_z w64 c.args.self.now.coef) ≡ c.args.self.now.coef = to_z-of_z w64 c.args.self.now.coef fits in
    let new : c.part-new.result ≡ scaled_ends c.args.self.now.coef (ends_of (kept (cell_of c.args.cells.now.state) c.args.literal c.args.literal.var.0)) = c.part-new.ensures ∙ ap (λ (k : ℤ). scaled_ends k (ends_of (kept (cell_of c.args.cells.now.state) c.args.literal c.args.literal.var.0))) coef in
    rw new (kept_part c.args.cells.now.state (record { sum = c.args.self.now.linear.now; output = c.args.self.now.output }) c.args.self.now.coef c.args.self.now.total c.args.self.now.span c.args.literal c.requires.answers c.requires.bound c.requires.sound)

pub replaced-total-requires-clause-rest : goal.replaced-total-requires-clause-rest
replaced-total-requires-clause-rest c =
    let fits : FitsSigned w64 c.args.self.now.coef = search rules in
    let coef : to_z w64 (of_z w64 c.args.self.now.coef) ≡ c.args.self.now.coef = to_z-of_z w64 c.args.self.now.coef fits in
    let old : c.part-old.result ≡ scaled_ends c.args.self.now.coef (ends_of (cell_of c.args.cells.now.state c.args.literal.var.0)) = c.part-old.ensures ∙ ap (λ (k : ℤ). scaled_ends k (ends_of (cell_of c.args.cells.now.state c.args.literal.var.0))) coef in
    rw old (other_parts c.args.cells.now.state (record { sum = c.args.self.now.linear.now; output = c.args.self.now.output }) c.args.self.now.coef c.args.self.now.total c.args.self.now.span c.args.literal c.requires.answers c.requires.bound c.requires.sound)

pub returns : goal.returns
returns c =
    let fits : FitsSigned w64 c.args.self.now.coef = search rules in
    let coef : to_z w64 (of_z w64 c.args.self.now.coef) ≡ c.args.self.now.coef = to_z-of_z w64 c.args.self.now.coef fits in
    let old : c.part-old.result ≡ scaled_ends c.args.self.now.coef (ends_of (cell_of c.args.cells.now.state c.args.literal.var.0)) = c.part-old.ensures ∙ ap (λ (k : ℤ). scaled_ends k (ends_of (cell_of c.args.cells.now.state c.args.literal.var.0))) coef in
    let new : c.part-new.result ≡ scaled_ends c.args.self.now.coef (ends_of (kept (cell_of c.args.cells.now.state) c.args.literal c.args.literal.var.0)) = c.part-new.ensures ∙ ap (λ (k : ℤ). scaled_ends k (ends_of (kept (cell_of c.args.cells.now.state) c.args.literal c.args.literal.var.0))) coef in
    c.are_apart.ensures ∙ truth_answer (record { sum = c.args.self.now.linear.now; output = c.args.self.now.output }) c.args.self.now.coef c.args.self.now.total c.args.self.now.span (cell_of c.args.cells.now.state) c.args.literal c.part-old.result c.part-new.result c.replaced-total.result c.truth.result c.requires.answers old new c.replaced-total.ensures c.truth.ensures.truth
