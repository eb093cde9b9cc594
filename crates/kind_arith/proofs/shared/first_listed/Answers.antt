use Rattle.std.proofs.Common.{rules, ◌≡◌, true, sym, ◌∙◌, get_or, pos, arith, FitsSigned, w64}
use Rattle.std.proofs.lemmas.Int.{to_z-of_z}
use Rattle.dom_cells.specs.Box.{cell_of}
use Rattle.dom_cells.specs.Cell.{has_of}
use Rattle.kind_arith.proofs.SharedLaws.{first_is_least, none_listed}
use Rattle.kind_arith.proofs.shared.first_listed.Goals as goal

pub returns-then-has : goal.returns-then-has
returns-then-has c =
    let fits : FitsSigned w64 (get_or c.args.values.now c.loop-value.value-index (pos 0)) = search rules in
    let here : has_of (cell_of c.args.cells.now.state c.args.var.0) (get_or c.args.values.now c.loop-value.value-index (pos 0)) ≡ true =
    rw (to_z-of_z w64 (get_or c.args.values.now c.loop-value.value-index (pos 0)) fits) at (sym c.has.ensures ∙ c.if-has.true) in
    rw (to_z-of_z w64 (get_or c.args.values.now c.loop-value.value-index (pos 0)) fits)
    (first_is_least c.args.values.now (cell_of c.args.cells.now.state c.args.var.0) c.loop-value.value-index c.requires.rises c.loop-value-test.true c.loop-value.invariant here)

pub returns : goal.returns
returns c = none_listed c.args.values.now (cell_of c.args.cells.now.state c.args.var.0) (λ k from to. c.loop-value.invariant k from (omega arith))
