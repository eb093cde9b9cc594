use Rattle.dom_core.proofs.EndsLaws.{replaced_fits, exchanged_order, exchanged_is}
use Rattle.std.proofs.Common.{rules, ◌∙◌, FitsSigned}
use Rattle.std.proofs.lemmas.Int.{to_z-of_z}
use Rattle.std.specs.Int.{w128}
use Rattle.kind_reified.proofs.truth_probe.replaced.Goals as goal

pub exchanged-lo-requires-clause-whole : goal.exchanged-lo-requires-clause-whole
exchanged-lo-requires-clause-whole c =
    let a : FitsSigned w128 c.lo.result = search rules in
    let b : FitsSigned w128 c.lo-2.result = search rules in
    let d : FitsSigned w128 c.lo-3.result = search rules in
    let fits = replaced_fits c.args.total c.args.old c.args.new c.requires.total c.requires.old c.requires.new in
    rw (to_z-of_z w128 c.lo.result a, to_z-of_z w128 c.lo-2.result b, to_z-of_z w128 c.lo-3.result d, c.lo.ensures.lo, c.lo-2.ensures.lo, c.lo-3.ensures.lo) fits.0.1

pub exchanged-hi-requires-clause-rest : goal.exchanged-hi-requires-clause-rest
exchanged-hi-requires-clause-rest c =
    let a : FitsSigned w128 c.hi.result = search rules in
    let b : FitsSigned w128 c.hi-2.result = search rules in
    let fits = replaced_fits c.args.total c.args.old c.args.new c.requires.total c.requires.old c.requires.new in
    rw (to_z-of_z w128 c.hi.result a, to_z-of_z w128 c.hi-2.result b, c.hi.ensures.hi, c.hi-2.ensures.hi) fits.1.0

pub exchanged-hi-requires-clause-whole : goal.exchanged-hi-requires-clause-whole
exchanged-hi-requires-clause-whole c =
    let a : FitsSigned w128 c.hi.result = search rules in
    let b : FitsSigned w128 c.hi-2.result = search rules in
    let d : FitsSigned w128 c.hi-3.result = search rules in
    let fits = replaced_fits c.args.total c.args.old c.args.new c.requires.total c.requires.old c.requires.new in
    rw (to_z-of_z w128 c.hi.result a, to_z-of_z w128 c.hi-2.result b, to_z-of_z w128 c.hi-3.result d, c.hi.ensures.hi, c.hi-2.ensures.hi, c.hi-3.ensures.hi) fits.1.1

pub new-requires : goal.new-requires
new-requires c =
    let a : FitsSigned w128 c.lo.result = search rules in
    let b : FitsSigned w128 c.lo-2.result = search rules in
    let d : FitsSigned w128 c.lo-3.result = search rules in
    let e : FitsSigned w128 c.hi.result = search rules in
    let f : FitsSigned w128 c.hi-2.result = search rules in
    let g : FitsSigned w128 c.hi-3.result = search rules in
    let lo : FitsSigned w128 c.exchanged-lo.result = search rules in
    let hi : FitsSigned w128 c.exchanged-hi.result = search rules in
    rw (to_z-of_z w128 c.exchanged-lo.result lo, to_z-of_z w128 c.exchanged-hi.result hi)
    (exchanged_order c.args.total c.args.old c.args.new c.exchanged-lo.result c.exchanged-hi.result
    (exchanged_is c.exchanged-lo.result _ _ _ c.args.total.lo c.args.old.lo c.args.new.lo c.exchanged-lo.ensures (to_z-of_z w128 c.lo.result a ∙ c.lo.ensures.lo) (to_z-of_z w128 c.lo-2.result b ∙ c.lo-2.ensures.lo) (to_z-of_z w128 c.lo-3.result d ∙ c.lo-3.ensures.lo))
    (exchanged_is c.exchanged-hi.result _ _ _ c.args.total.hi c.args.old.hi c.args.new.hi c.exchanged-hi.ensures (to_z-of_z w128 c.hi.result e ∙ c.hi.ensures.hi) (to_z-of_z w128 c.hi-2.result f ∙ c.hi-2.ensures.hi) (to_z-of_z w128 c.hi-3.result g ∙ c.hi-3.ensures.hi))
    c.requires.rest c.lo-3.ensures.ordered)
