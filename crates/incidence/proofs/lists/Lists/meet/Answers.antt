-- The label stands at the end, or is put there.
use Rattle.std.proofs.Common.{◌≡◌, arith}
use Rattle.incidence.proofs.MeetingLaws.{again, anew}
use Rattle.incidence.proofs.lists.Lists.meet.Goals as goal

pub returns-then-ends_with : goal.returns-then-ends_with
returns-then-ends_with c =
    again c.args.label c.args.number c.args.met.now c.self.inside.rows.items c.args.self.now c.index.result.now c.self.view_is (omega (arith, c.if-len-number.false, c.len.ensures))
    c.index.ensures (c.ends_with.ensures.0 c.if-ends_with.true)

pub returns : goal.returns
returns c =
    anew c.args.label c.args.number c.args.met.now c.self.inside.rows.items c.args.self.now c.index.result.now c.index_mut.result.now c.push.new.self c.push-2.new.self
    c.self.view_is (omega (arith, c.if-len-number.false, c.len.ensures)) c.index.ensures (λ top. absurd (let same = c.ends_with.ensures.1 top in cc))
    c.index_mut.ensures.value c.in_ok-push.ensures c.in_ok-push-2.ensures
