use Rattle.std.proofs.Common.{rules, ◌≡◌, ◌∙◌, ap, ◌-ℤ◌, pos, [], ◌∷◌, ◌++◌, arith, FitsSigned, w64, to_z, of_z, ◌<ℤ◌}
use Rattle.std.proofs.lemmas.Int.{ints}
use Rattle.dom_cells.specs.Cell.{lo_of}
use Rattle.dom_cells.specs.Box.{start_at}
use Rattle.kind_law.specs.Next.{below}
use Rattle.kind_law.proofs.ReasonLaws.{adds-push}
use Rattle.kind_law.proofs.AskedLaws.{below_fine, below_told}
use Rattle.kind_law.proofs.bounds.tell_below.Goals as goal

pub returns-clause-fine : goal.returns-clause-fine
returns-clause-fine c =
    let start_is : c.lo-start.result ≡ lo_of (start_at c.args.cells.now.state.starts c.args.var.0) = c.lo-start.ensures ∙ ap lo_of c.start.ensures.start in
    let start_fits : FitsSigned w64 c.lo-start.result = search rules in
    let bound_fits : FitsSigned w64 c.args.bound = c.ranges.bound in
    let moved : lo_of (start_at c.args.cells.now.state.starts c.args.var.0) <ℤ c.args.bound = omega (arith, ints) in
    let value : to_z w64 (of_z w64 (to_z w64 (of_z w64 c.args.bound) -ℤ pos 1)) ≡ (c.args.bound -ℤ pos 1) = omega (arith, ints) in
    let grown : c.push.new.self ≡ c.args.out.now ++ below c.args.var c.args.bound ∷ [] = rw value at c.in_ok-push.ensures.ok in
    adds-push c.args.cells.now.state c.args.out.now c.push.new.self (below c.args.var c.args.bound) grown (below_fine c.args.cells.now.state c.args.var c.args.bound c.lo-lo.ensures.sound c.requires.var c.requires.bound moved)

pub returns-clause-covers : goal.returns-clause-covers
returns-clause-covers c =
    let start_is : c.lo-start.result ≡ lo_of (start_at c.args.cells.now.state.starts c.args.var.0) = c.lo-start.ensures ∙ ap lo_of c.start.ensures.start in
    let start_fits : FitsSigned w64 c.lo-start.result = search rules in
    let bound_fits : FitsSigned w64 c.args.bound = c.ranges.bound in
    let value : to_z w64 (of_z w64 (to_z w64 (of_z w64 c.args.bound) -ℤ pos 1)) ≡ (c.args.bound -ℤ pos 1) = omega (arith, ints) in
    let grown : c.push.new.self ≡ c.args.out.now ++ below c.args.var c.args.bound ∷ [] = rw value at c.in_ok-push.ensures.ok in
    rw grown (below_told c.args.cells.now.state c.args.var c.args.bound c.args.out.now)
