-- The number is met where this is asked, and only there.
use Rattle.std.proofs.Common.{◌≡◌, ℕ, true}
use Rattle.incidence.proofs.MeetingLaws.{meets_none, meets_same}
use Rattle.incidence.proofs.lists.Lists.meet_if.Goals as goal

pub returns-then-asked : goal.returns-then-asked
returns-then-asked c =
    meets_same c.args.label (λ (x : ℕ). x ≡ c.args.number) (λ (x : ℕ). (x ≡ c.args.number) × (c.args.asked ≡ true)) c.args.met.now c.meet.new.met c.args.self.now c.meet.new.self
    c.in_ok-meet.ensures (λ x. (λ h. h.0, λ e. (e, c.if-asked.true)))

pub returns : goal.returns
returns c =
    meets_none c.args.label (λ (x : ℕ). (x ≡ c.args.number) × (c.args.asked ≡ true)) c.args.met.now c.args.self.now (λ x h lt. absurd (let on = h.1 in let off = c.if-asked.false in cc))
