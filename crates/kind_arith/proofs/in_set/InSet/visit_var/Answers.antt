use Rattle.std.proofs.Common.{rules, ◌≡◌, ap, subst, length, FitsSigned, w64}
use Rattle.std.proofs.lemmas.Int.{to_z-of_z}
use Rattle.dom_core.specs.declared.set.Set.{Set}
use Rattle.dom_cells.specs.Box.{cell_of}
use Rattle.kind_arith.specs.InSet.{Restriction}
use Rattle.kind_arith.specs.Shared.{IsLeastShared, IsGreatestShared, shared_ends}
use Rattle.kind_arith.proofs.VisitLaws.{both_visited}
use Rattle.kind_arith.proofs.in_set.InSet.visit_var.Goals as goal

pub returns-clause-visited : goal.returns-clause-visited
returns-clause-visited c =
    let lo_fits : FitsSigned w64 c.in-Some.lo = search rules in
    let hi_fits : FitsSigned w64 c.in-Some-greatest.hi = search rules in
    let set : c.self.inside.set ≡ c.args.self.now.set = ap (λ (k : Restriction). k.set) c.self.view_is in
    let least : IsLeastShared c.args.self.now.set (cell_of c.args.cells.now.state c.args.var.0) c.in-Some.lo =
    subst (λ (s : Set). IsLeastShared s (cell_of c.args.cells.now.state c.args.var.0) c.in-Some.lo) set c.in-Some.ensures in
    let greatest : IsGreatestShared c.args.self.now.set (cell_of c.args.cells.now.state c.args.var.0) c.in-Some-greatest.hi =
    subst (λ (s : Set). IsGreatestShared s (cell_of c.args.cells.now.state c.args.var.0) c.in-Some-greatest.hi) set c.in-Some-greatest.ensures in
    let written : c.write_ends.new.out ≡ shared_ends c.args.var (cell_of c.args.cells.now.state c.args.var.0) c.in-Some.lo c.in-Some-greatest.hi =
    rw (to_z-of_z w64 c.in-Some.lo lo_fits, to_z-of_z w64 c.in-Some-greatest.hi hi_fits) at c.in_default-write_ends.ensures in
    both_visited c.args.self.now c.args.var (cell_of c.args.cells.now.state) (length c.args.cells.now.state.starts) c.in-Some.lo c.in-Some-greatest.hi c.write_ends.new.out
    c.requires.arg c.requires.below (c.width-width.ensures.sound.cells c.args.var.0 c.requires.below) least greatest written
