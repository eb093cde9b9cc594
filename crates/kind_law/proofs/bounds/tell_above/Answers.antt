use Rattle.std.proofs.Common.{rules, ◌≡◌, ◌∙◌, ap, ◌+ℤ◌, pos, [], ◌∷◌, ◌++◌, arith, FitsSigned, w64, to_z, of_z, ◌<ℤ◌, ◌≤ℤ◌}
use Rattle.std.proofs.lemmas.Int.{ints}
use Rattle.dom_cells.specs.Cell.{hi_of}
use Rattle.dom_cells.specs.Box.{start_at}
use Rattle.kind_law.specs.Next.{above}
use Rattle.kind_law.proofs.ReasonLaws.{adds-push}
use Rattle.kind_law.proofs.AskedLaws.{above_fine, above_told, above_still}
use Rattle.kind_law.proofs.bounds.tell_above.Goals as goal

pub returns-clause-fine : goal.returns-clause-fine
returns-clause-fine c =
    let start_is : c.hi-start.result ≡ hi_of (start_at c.args.cells.now.state.starts c.args.var.0) = c.hi-start.ensures ∙ ap hi_of c.start.ensures.start in
    let start_fits : FitsSigned w64 c.hi-start.result = search rules in
    let bound_fits : FitsSigned w64 c.args.bound = c.ranges.bound in
    let moved : c.args.bound <ℤ hi_of (start_at c.args.cells.now.state.starts c.args.var.0) = omega (arith, ints) in
    let value : to_z w64 (of_z w64 (to_z w64 (of_z w64 c.args.bound) +ℤ pos 1)) ≡ (c.args.bound +ℤ pos 1) = omega (arith, ints) in
    let grown : c.push.new.self ≡ c.args.out.now ++ above c.args.var c.args.bound ∷ [] = rw value at c.in_ok-push.ensures.ok in
    adds-push c.args.cells.now.state c.args.out.now c.push.new.self (above c.args.var c.args.bound) grown (above_fine c.args.cells.now.state c.args.var c.args.bound c.hi-hi.ensures.sound c.requires.var c.requires.bound moved)

pub returns-clause-covers : goal.returns-clause-covers
returns-clause-covers c =
    let start_is : c.hi-start.result ≡ hi_of (start_at c.args.cells.now.state.starts c.args.var.0) = c.hi-start.ensures ∙ ap hi_of c.start.ensures.start in
    let start_fits : FitsSigned w64 c.hi-start.result = search rules in
    let bound_fits : FitsSigned w64 c.args.bound = c.ranges.bound in
    let value : to_z w64 (of_z w64 (to_z w64 (of_z w64 c.args.bound) +ℤ pos 1)) ≡ (c.args.bound +ℤ pos 1) = omega (arith, ints) in
    let grown : c.push.new.self ≡ c.args.out.now ++ above c.args.var c.args.bound ∷ [] = rw value at c.in_ok-push.ensures.ok in
    rw grown (above_told c.args.cells.now.state c.args.var c.args.bound c.args.out.now)

pub returns-then-start-bound-clause-covers : goal.returns-then-start-bound-clause-covers
returns-then-start-bound-clause-covers c =
    let start_is : c.hi-start.result ≡ hi_of (start_at c.args.cells.now.state.starts c.args.var.0) = c.hi-start.ensures ∙ ap hi_of c.start.ensures.start in
    let start_fits : FitsSigned w64 c.hi-start.result = search rules in
    let bound_fits : FitsSigned w64 c.args.bound = c.ranges.bound in
    let within : hi_of (start_at c.args.cells.now.state.starts c.args.var.0) ≤ℤ c.args.bound = omega (arith, ints) in
    above_still c.args.cells.now.state c.args.var.0 c.args.bound c.args.out.now c.hi-hi.ensures.sound c.requires.var within
