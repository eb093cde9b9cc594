use Rattle.std.proofs.Common.{rules, ◌≡◌, ap, subst, ◌<ℤ◌, ◌≤ℤ◌, arith, FitsSigned, w64}
use Rattle.std.proofs.lemmas.Int.{ints, to_z-of_z}
use Rattle.dom_core.specs.declared.literal.Rel.TheVariants.{Le, Ge}
use Rattle.dom_core.specs.declared.set.Set.{Set}
use Rattle.dom_cells.specs.Box.{cell_of}
use Rattle.dom_cells.specs.Cell.{lo_of, hi_of}
use Rattle.kind_arith.specs.InSet.{Restriction}
use Rattle.kind_arith.specs.Shared.{IsLeastShared, IsGreatestShared}
use Rattle.kind_arith.proofs.VisitLaws.{next_low, next_high, next_none}
use Rattle.kind_arith.proofs.in_set.InSet.next_of_var.Goals as goal

pub returns-then-lo : goal.returns-then-lo
returns-then-lo c =
    let fits : FitsSigned w64 c.in-Some.lo = search rules in
    let end_fits : FitsSigned w64 c.lo.result = search rules in
    let set : c.self.inside.set ≡ c.args.self.now.set = ap (λ (k : Restriction). k.set) c.self.view_is in
    let least : IsLeastShared c.args.self.now.set (cell_of c.args.cells.now.state c.args.var.0) c.in-Some.lo =
    subst (λ (s : Set). IsLeastShared s (cell_of c.args.cells.now.state c.args.var.0) c.in-Some.lo) set c.in-Some.ensures in
    let under : lo_of (cell_of c.args.cells.now.state c.args.var.0) <ℤ c.in-Some.lo = rw (← c.lo.ensures.lo) (omega (arith, ints)) in
    let same : c.lower.result ≡ record { var = c.args.var; rel = Ge; value = c.in-Some.lo } = rw (to_z-of_z w64 c.in-Some.lo fits) at c.lower.ensures in
    next_low c.args.self.now c.args.var (cell_of c.args.cells.now.state) c.in-Some.lo c.lower.result c.requires.arg
    (c.lo.ensures.sound.cells c.args.var.0 c.requires.below) least under same

pub returns-then-hi : goal.returns-then-hi
returns-then-hi c =
    let lo_fits : FitsSigned w64 c.in-Some.lo = search rules in
    let hi_fits : FitsSigned w64 c.in-Some-greatest.hi = search rules in
    let low_fits : FitsSigned w64 c.lo.result = search rules in
    let high_fits : FitsSigned w64 c.hi.result = search rules in
    let set : c.self.inside.set ≡ c.args.self.now.set = ap (λ (k : Restriction). k.set) c.self.view_is in
    let least : IsLeastShared c.args.self.now.set (cell_of c.args.cells.now.state c.args.var.0) c.in-Some.lo =
    subst (λ (s : Set). IsLeastShared s (cell_of c.args.cells.now.state c.args.var.0) c.in-Some.lo) set c.in-Some.ensures in
    let greatest : IsGreatestShared c.args.self.now.set (cell_of c.args.cells.now.state c.args.var.0) c.in-Some-greatest.hi =
    subst (λ (s : Set). IsGreatestShared s (cell_of c.args.cells.now.state c.args.var.0) c.in-Some-greatest.hi) set c.in-Some-greatest.ensures in
    let at : c.in-Some.lo ≤ℤ lo_of (cell_of c.args.cells.now.state c.args.var.0) = rw (← c.lo.ensures.lo) (omega (arith, ints)) in
    let over : c.in-Some-greatest.hi <ℤ hi_of (cell_of c.args.cells.now.state c.args.var.0) = rw (← c.hi.ensures.hi) (omega (arith, ints)) in
    let same : c.upper.result ≡ record { var = c.args.var; rel = Le; value = c.in-Some-greatest.hi } =
    rw (to_z-of_z w64 c.in-Some-greatest.hi hi_fits) at c.upper.ensures in
    next_high c.args.self.now c.args.var (cell_of c.args.cells.now.state) c.in-Some.lo c.in-Some-greatest.hi c.upper.result c.requires.arg
    (c.lo.ensures.sound.cells c.args.var.0 c.requires.below) least greatest at over same

pub returns : goal.returns
returns c =
    let lo_fits : FitsSigned w64 c.in-Some.lo = search rules in
    let hi_fits : FitsSigned w64 c.in-Some-greatest.hi = search rules in
    let low_fits : FitsSigned w64 c.lo.result = search rules in
    let high_fits : FitsSigned w64 c.hi.result = search rules in
    let set : c.self.inside.set ≡ c.args.self.now.set = ap (λ (k : Restriction). k.set) c.self.view_is in
    let least : IsLeastShared c.args.self.now.set (cell_of c.args.cells.now.state c.args.var.0) c.in-Some.lo =
    subst (λ (s : Set). IsLeastShared s (cell_of c.args.cells.now.state c.args.var.0) c.in-Some.lo) set c.in-Some.ensures in
    let greatest : IsGreatestShared c.args.self.now.set (cell_of c.args.cells.now.state c.args.var.0) c.in-Some-greatest.hi =
    subst (λ (s : Set). IsGreatestShared s (cell_of c.args.cells.now.state c.args.var.0) c.in-Some-greatest.hi) set c.in-Some-greatest.ensures in
    let at : c.in-Some.lo ≤ℤ lo_of (cell_of c.args.cells.now.state c.args.var.0) = rw (← c.lo.ensures.lo) (omega (arith, ints)) in
    let to : hi_of (cell_of c.args.cells.now.state c.args.var.0) ≤ℤ c.in-Some-greatest.hi = rw (← c.hi.ensures.hi) (omega (arith, ints)) in
    next_none c.args.self.now c.args.var (cell_of c.args.cells.now.state) c.in-Some.lo c.in-Some-greatest.hi c.requires.arg least greatest at to
