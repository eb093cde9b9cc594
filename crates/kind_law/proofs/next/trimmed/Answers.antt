use Rattle.std.proofs.Common.{rules, ◌≡◌, ap, ◌+ℤ◌, ◌-ℤ◌, ℤ, pos, arith, FitsSigned, w64, to_z, of_z}
use Rattle.std.proofs.lemmas.Int.{ints}
use Rattle.std.specs.Int.{w128}
use Rattle.dom_cells.specs.Cell.{lo_of, hi_of}
use Rattle.dom_cells.specs.Box.{cell_of}
use Rattle.dom_core.specs.declared.literal.Literal.{Literal}
use Rattle.dom_core.specs.declared.literal.Rel.TheVariants.{Le, Ge}
use Rattle.kind_law.specs.Next.{size_of}
use Rattle.kind_law.proofs.BoundLaws.{size_is}
use Rattle.kind_law.proofs.next.trimmed.Goals as goal

pub returns-in-Low : goal.returns-in-Low
returns-in-Low c =
    let lo_is : c.lo-lo.result ≡ lo_of (cell_of c.args.cells.now.state c.args.var.0) = c.lo-lo.ensures.lo in
    let hi_is : c.hi-hi.result ≡ hi_of (cell_of c.args.cells.now.state c.args.var.0) = c.hi-hi.ensures.hi in
    let lo_fits : FitsSigned w64 c.lo-lo.result = search rules in
    let hi_fits : FitsSigned w64 c.hi-hi.result = search rules in
    let size : (lo_of (cell_of c.args.cells.now.state c.args.var.0) +ℤ pos (size_of (cell_of c.args.cells.now.state c.args.var.0))) ≡ hi_of (cell_of c.args.cells.now.state c.args.var.0) = size_is (cell_of c.args.cells.now.state c.args.var.0) (c.hi-hi.ensures.sound.cells c.args.var.0 c.requires.var) in
    let value : to_z w64 (of_z w64 (to_z w128 (of_z w128 (to_z w128 (of_z w128 (to_z w128 (of_z w128 (to_z w64 (of_z w64 c.lo-lo.result))) +ℤ to_z w128 c.args.steps)) -ℤ pos 1))))
    ≡ ((lo_of (cell_of c.args.cells.now.state c.args.var.0) +ℤ pos c.args.steps) -ℤ pos 1) = omega (arith, ints, c.requires.some, c.requires.few) in
    rw (c.in-Low.is) (ap (λ (v : ℤ). let l : Literal = record { var = c.args.var; rel = Le; value = v } in l) value)

pub returns-in-High : goal.returns-in-High
returns-in-High c =
    let lo_is : c.lo-lo.result ≡ lo_of (cell_of c.args.cells.now.state c.args.var.0) = c.lo-lo.ensures.lo in
    let hi_is : c.hi-hi.result ≡ hi_of (cell_of c.args.cells.now.state c.args.var.0) = c.hi-hi.ensures.hi in
    let lo_fits : FitsSigned w64 c.lo-lo.result = search rules in
    let hi_fits : FitsSigned w64 c.hi-hi.result = search rules in
    let size : (lo_of (cell_of c.args.cells.now.state c.args.var.0) +ℤ pos (size_of (cell_of c.args.cells.now.state c.args.var.0))) ≡ hi_of (cell_of c.args.cells.now.state c.args.var.0) = size_is (cell_of c.args.cells.now.state c.args.var.0) (c.hi-hi.ensures.sound.cells c.args.var.0 c.requires.var) in
    let value : to_z w64 (of_z w64 (to_z w128 (of_z w128 (to_z w128 (of_z w128 (to_z w128 (of_z w128 (to_z w64 (of_z w64 c.hi-hi.result))) -ℤ to_z w128 c.args.steps)) +ℤ pos 1))))
    ≡ ((hi_of (cell_of c.args.cells.now.state c.args.var.0) -ℤ pos c.args.steps) +ℤ pos 1) = omega (arith, ints, c.requires.some, c.requires.few) in
    rw (c.in-High.is) (ap (λ (v : ℤ). let l : Literal = record { var = c.args.var; rel = Ge; value = v } in l) value)
