use Rattle.std.proofs.Common.{rules, FitsSigned, w64}
use Rattle.std.proofs.lemmas.Int.{to_z-of_z}
use Rattle.kind_law.specs.Reason.{CoversBetween}
use Rattle.kind_law.proofs.AskedLaws.{low_between_told}
use Rattle.kind_law.proofs.bounds.explain_low_at.Goals as goal

pub returns-in_ok-explain_between-in-Some-clause-covers : goal.returns-in_ok-explain_between-in-Some-clause-covers
returns-in_ok-explain_between-in-Some-clause-covers c =
    let own_fits : FitsSigned w64 c.in-Some.own = search rules in
    let told : CoversBetween c.args.cells.now.state c.explain_between.new.out c.args.var.0 c.in-Some.own c.args.bound =
    rw (to_z-of_z w64 c.in-Some.own own_fits, to_z-of_z w64 c.args.bound c.ranges.bound) at c.in_ok-explain_between-in-Some.ensures.covers in
    low_between_told c.args.cells.now.state c.args.implied c.explain_between.new.out c.args.var.0 c.in-Some.own c.args.bound
    (c.width-width.ensures.sound.cells c.args.var.0 c.requires.var) c.in-Some.ensures c.requires.bound told
