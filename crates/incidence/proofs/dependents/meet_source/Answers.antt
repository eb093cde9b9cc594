-- The node itself, and then its sources.
use Rattle.std.proofs.Common.{◌≡◌, ◌<◌, ℕ, true, false, get_or, length, arith}
use Rattle.std.proofs.lemmas.List.{get_or_default}
use Rattle.std.specs.List.{Contains}
use Rattle.incidence.specs.Meeting.{HasSource}
use Rattle.incidence.proofs.DependentsLaws.{source_cases}
use Rattle.incidence.proofs.MeetingLaws.{meets_then}
use Rattle.incidence.proofs.dependents.meet_source.Goals as goal

pub returns : goal.returns
returns c =
    let below : c.args.node < length c.args.among.now = omega (arith, c.if-among-node.false) in
    let asked = get_or c.args.among.now c.args.node false in
    meets_then c.args.label (λ (x : ℕ). (x ≡ c.args.node) × (asked ≡ true)) (Contains c.row.result.now) (HasSource c.args.sources.now c.args.among.now c.args.node)
    c.args.met.now c.meet_if.new.met c.meet_all.new.met c.args.dependents.now c.meet_if.new.self c.meet_all.new.self
    c.in_ok-meet_if.ensures c.in_ok-meet_all.ensures
    (source_cases c.args.sources.now c.args.among.now c.args.node asked c.row.result.now below c.requires
    (get_or_default c.args.among.now c.args.node false asked below) c.row.ensures)
