use Rattle.std.proofs.Common.{rules, ◌≡◌, ◌∙◌, ap, ◌+ℤ◌, pos, [], ◌∷◌, ◌++◌, arith, FitsSigned, w64, to_z, of_z, ◌<ℤ◌}
use Rattle.std.proofs.lemmas.Int.{ints}
use Rattle.dom_cells.specs.Cell.{hi_of}
use Rattle.dom_cells.specs.Box.{cell_of, start_at}
use Rattle.dom_core.specs.declared.literal.Rel.TheVariants.{Ge}
use Rattle.kind_law.proofs.ReasonLaws.{adds-push, high_fine, high_told, high_still}
use Rattle.kind_law.proofs.reason.explain_high.Goals as goal

pub returns-clause-fine : goal.returns-clause-fine
returns-clause-fine c =
    let end_is : c.hi-hi.result ≡ hi_of (cell_of c.args.cells.now.state c.args.var.0) = c.hi-hi.ensures.hi in
    let start_is : c.hi-start.result ≡ hi_of (start_at c.args.cells.now.state.starts c.args.var.0) = c.hi-start.ensures ∙ ap hi_of c.start.ensures.start in
    let end_fits : FitsSigned w64 c.hi-hi.result = search rules in
    let start_fits : FitsSigned w64 c.hi-start.result = search rules in
    let moved : hi_of (cell_of c.args.cells.now.state c.args.var.0) <ℤ hi_of (start_at c.args.cells.now.state.starts c.args.var.0) = omega (arith, ints) in
    let value : to_z w64 (of_z w64 (to_z w64 (of_z w64 c.hi-hi.result) +ℤ pos 1)) ≡ (hi_of (cell_of c.args.cells.now.state c.args.var.0) +ℤ pos 1) = omega (arith, ints) in
    let grown : c.push.new.self ≡ c.args.out.now ++ record { var = c.args.var; rel = Ge; value = hi_of (cell_of c.args.cells.now.state c.args.var.0) +ℤ pos 1 } ∷ [] = rw value at c.in_ok-push.ensures.ok in
    adds-push c.args.cells.now.state c.args.out.now c.push.new.self (record { var = c.args.var; rel = Ge; value = hi_of (cell_of c.args.cells.now.state c.args.var.0) +ℤ pos 1 }) grown (high_fine c.args.cells.now.state c.args.var c.hi-hi.ensures.sound c.requires moved)

pub returns-clause-covers : goal.returns-clause-covers
returns-clause-covers c =
    let end_is : c.hi-hi.result ≡ hi_of (cell_of c.args.cells.now.state c.args.var.0) = c.hi-hi.ensures.hi in
    let start_is : c.hi-start.result ≡ hi_of (start_at c.args.cells.now.state.starts c.args.var.0) = c.hi-start.ensures ∙ ap hi_of c.start.ensures.start in
    let end_fits : FitsSigned w64 c.hi-hi.result = search rules in
    let start_fits : FitsSigned w64 c.hi-start.result = search rules in
    let moved : hi_of (cell_of c.args.cells.now.state c.args.var.0) <ℤ hi_of (start_at c.args.cells.now.state.starts c.args.var.0) = omega (arith, ints) in
    let value : to_z w64 (of_z w64 (to_z w64 (of_z w64 c.hi-hi.result) +ℤ pos 1)) ≡ (hi_of (cell_of c.args.cells.now.state c.args.var.0) +ℤ pos 1) = omega (arith, ints) in
    let grown : c.push.new.self ≡ c.args.out.now ++ record { var = c.args.var; rel = Ge; value = hi_of (cell_of c.args.cells.now.state c.args.var.0) +ℤ pos 1 } ∷ [] = rw value at c.in_ok-push.ensures.ok in
    rw grown (high_told c.args.cells.now.state c.args.var c.args.out.now)

pub returns-then-start-hi-clause-covers : goal.returns-then-start-hi-clause-covers
returns-then-start-hi-clause-covers c =
    let end_is : c.hi-hi.result ≡ hi_of (cell_of c.args.cells.now.state c.args.var.0) = c.hi-hi.ensures.hi in
    let start_is : c.hi-start.result ≡ hi_of (start_at c.args.cells.now.state.starts c.args.var.0) = c.hi-start.ensures ∙ ap hi_of c.start.ensures.start in
    let end_fits : FitsSigned w64 c.hi-hi.result = search rules in
    let start_fits : FitsSigned w64 c.hi-start.result = search rules in
    high_still c.args.cells.now.state c.args.var.0 c.args.out.now c.hi-hi.ensures.sound c.requires (omega (arith, ints))
