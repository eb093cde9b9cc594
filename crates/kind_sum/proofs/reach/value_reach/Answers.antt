use Rattle.std.proofs.Common.{rules, ◌≡◌, subst, ℤ, pos, FitsSigned, w64}
use Rattle.std.proofs.lemmas.Int.{to_z-of_z}
use Rattle.kind_sum.specs.Reach.{room_of}
use Rattle.kind_sum.proofs.ReachLaws.{value_reaches}
use Rattle.kind_sum.proofs.reach.value_reach.Goals as goal

pub returns : goal.returns
returns c =
    let fits : FitsSigned w64 c.args.bound = search rules in
    let room : pos c.room.result ≡ room_of c.args.pull.rises c.args.total c.args.bound =
    subst (λ (x : ℤ). pos c.room.result ≡ room_of c.args.pull.rises c.args.total x) (to_z-of_z w64 c.args.bound fits) c.room.ensures in
    value_reaches c.args.total c.args.bound c.args.pull c.room.result c.steps_within.result room c.requires.quiet c.steps_within.ensures
