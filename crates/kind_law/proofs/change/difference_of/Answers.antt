use Rattle.std.proofs.Common.{rules, ◌∙◌, FitsSigned}
use Rattle.std.specs.Int.{w128}
use Rattle.dom_core.specs.Ends.{difference_ends}
use Rattle.dom_core.proofs.EndsLaws.{cast_difference, difference_fits, difference_order, same_ends}
use Rattle.kind_law.proofs.change.difference_of.Goals as goal

pub new-requires : goal.new-requires
new-requires c =
    let a : FitsSigned w128 c.lo.result = search rules in
    let b : FitsSigned w128 c.hi.result = search rules in
    let d : FitsSigned w128 c.hi-2.result = search rules in
    let e : FitsSigned w128 c.lo-2.result = search rules in
    let fits = difference_fits c.args.after c.args.before c.requires.after c.requires.before in
    rw (
      cast_difference c.lo.result c.hi.result c.args.after.lo c.args.before.hi a b c.lo.ensures.lo c.hi.ensures.hi fits.0,
      cast_difference c.hi-2.result c.lo-2.result c.args.after.hi c.args.before.lo d e c.hi-2.ensures.hi c.lo-2.ensures.lo fits.1,
    )
    (difference_order c.args.after c.args.before c.lo.ensures.ordered c.hi.ensures.ordered)

pub returns : goal.returns
returns c =
    let a : FitsSigned w128 c.lo.result = search rules in
    let b : FitsSigned w128 c.hi.result = search rules in
    let d : FitsSigned w128 c.hi-2.result = search rules in
    let e : FitsSigned w128 c.lo-2.result = search rules in
    let fits = difference_fits c.args.after c.args.before c.requires.after c.requires.before in
    c.new.ensures ∙ same_ends _ (difference_ends c.args.after c.args.before)
    (cast_difference c.lo.result c.hi.result c.args.after.lo c.args.before.hi a b c.lo.ensures.lo c.hi.ensures.hi fits.0)
    (cast_difference c.hi-2.result c.lo-2.result c.args.after.hi c.args.before.lo d e c.hi-2.ensures.hi c.lo-2.ensures.lo fits.1)
