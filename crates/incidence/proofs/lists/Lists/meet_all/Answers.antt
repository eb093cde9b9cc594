-- One number more.
use Rattle.std.proofs.Common.{◌≡◌, ◌+◌, List, ℕ, get_or, take, subst, arith}
use Rattle.std.specs.List.{Contains}
use Rattle.std.proofs.lemmas.List.{take_all}
use Rattle.incidence.specs.Meeting.{Meets}
use Rattle.incidence.proofs.MeetingLaws.{meets_then, taken_next}
use Rattle.incidence.proofs.lists.Lists.meet_all.Goals as goal

pub loop-number-preserved : goal.loop-number-preserved
loop-number-preserved c =
    let numbers = c.args.numbers.now in
    let i = c.loop-number.number-index in
    record {
      met = meets_then c.args.label (Contains (take i numbers)) (λ (x : ℕ). x ≡ get_or numbers i 0) (Contains (take (i + 1) numbers))
          c.args.met.now c.loop-number.met c.meet.new.met c.args.self.now c.loop-number.self c.meet.new.self
          c.loop-number.invariant.met c.in_ok-meet.ensures (λ x. taken_next numbers i x c.loop-number-test.true);
    }

pub returns : goal.returns
returns c =
    subst (λ (xs : List ℕ). Meets c.args.label (Contains xs) c.args.met.now c.args.self.now c.loop-number.met c.loop-number.self)
    (take_all c.loop-number.number-index c.args.numbers.now (omega (arith, c.loop-number-test.false))) c.loop-number.invariant.met
