use Rattle.std.proofs.Common.{◌≡◌, ◌≤◌, ◌^◌, ap, arith}
use Rattle.dom_core.specs.Ends.{size_of}
use Rattle.kind_law.specs.Laws.{hulls}
use Rattle.kind_law.specs.Argument.{arg_ends}
use Rattle.kind_sum.specs.Sum.{magnitude, total}
use Rattle.kind_sum.specs.SumLaws.{total_size}
use Rattle.kind_sum.proofs.explained.total_in.Goals as goal

pub returns-clause-bits : goal.returns-clause-bits
returns-clause-bits g c =
    let same : size_of c.total.result ≡ size_of (total c.args.linear.now.terms (arg_ends (hulls (g.R.Region.cells c.args.region.now)))) = ap size_of c.total.ensures in
    let size : size_of (total c.args.linear.now.terms (arg_ends (hulls (g.R.Region.cells c.args.region.now)))) ≤ magnitude c.args.linear.now.terms (arg_ends (hulls (g.R.Region.cells c.args.region.now))) =
    total_size c.args.linear.now.terms (arg_ends (hulls (g.R.Region.cells c.args.region.now))) in
    let fits : magnitude c.args.linear.now.terms (arg_ends (hulls (g.R.Region.cells c.args.region.now))) ≤ 2 ^ 101 = c.requires.fits in
    omega arith
