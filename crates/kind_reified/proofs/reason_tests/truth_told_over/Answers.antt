use Rattle.std.proofs.Common.{rules, ◌≡◌, ◌∙◌, ap, subst, [], ◌∷◌, FitsSigned, w8, w64, arith}
use Rattle.std.proofs.lemmas.Int.{ints}
use Rattle.dom_cells.specs.Box.{cell_of}
use Rattle.dom_core.specs.declared.arg.Arg.TheVariants.{Var}
use Rattle.kind_law.specs.Laws.{hulls}
use Rattle.kind_sum.proofs.PairLaws.{pair_fits, pair_terms}
use Rattle.kind_reified.specs.LinearReified.{LinearReified}
use Rattle.kind_reified.proofs.reason_tests.truth_told_over.Goals as goal

pub why-requires-clause-fits : goal.why-requires-clause-fits
why-requires-clause-fits c =
    let a_fits : FitsSigned w8 c.args.one = search rules in
    let b_fits : FitsSigned w8 c.args.other = search rules in
    let x_low : FitsSigned w64 c.lo.result = search rules in
    let x_high : FitsSigned w64 c.hi.result = search rules in
    let y_low : FitsSigned w64 c.lo-2.result = search rules in
    let y_high : FitsSigned w64 c.hi-2.result = search rules in
    let terms : c.in_ok-kind.kind.sum.terms ≡ record { coef = c.args.one; arg = Var (record { 0 = 0 }) } ∷ record { coef = c.args.other; arg = Var (record { 0 = 1 }) } ∷ [] =
    ap (λ (k : LinearReified). k.sum.terms) c.in_ok-kind.ensures ∙ pair_terms _ _ c.args.one c.args.other (omega (arith, ints)) (omega (arith, ints)) in
    pair_fits c.in_ok-kind.kind.sum c.args.one c.args.other (hulls (cell_of c.args.cells.now.state)) terms a_fits b_fits
    (record { low = subst (FitsSigned w64) c.lo.ensures.lo x_low; high = subst (FitsSigned w64) c.hi.ensures.hi x_high })
    (record { low = subst (FitsSigned w64) c.lo-2.ensures.lo y_low; high = subst (FitsSigned w64) c.hi-2.ensures.hi y_high })
