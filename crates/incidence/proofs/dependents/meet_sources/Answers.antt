-- One node more.
use Rattle.std.proofs.Common.{◌≡◌, ◌+◌, List, ℕ, get_or, take, subst, arith}
use Rattle.std.proofs.lemmas.List.{take_all}
use Rattle.incidence.specs.Meeting.{HasSource, Meets, SuccessorHasSource}
use Rattle.incidence.proofs.DependentsLaws.{successors_next}
use Rattle.incidence.proofs.MeetingLaws.{meets_then, taken_next}
use Rattle.incidence.proofs.dependents.meet_sources.Goals as goal

pub loop-node-preserved : goal.loop-node-preserved
loop-node-preserved c =
    let nodes = c.args.nodes.now in
    let i = c.loop-node.node-index in
    record {
      met = meets_then c.args.label (SuccessorHasSource c.args.sources.now c.args.among.now (take i nodes)) (HasSource c.args.sources.now c.args.among.now (get_or nodes i 0))
          (SuccessorHasSource c.args.sources.now c.args.among.now (take (i + 1) nodes))
          c.args.met.now c.loop-node.met c.meet_source.new.met c.args.dependents.now c.loop-node.dependents c.meet_source.new.dependents
          c.loop-node.invariant.met c.in_ok-meet_source.ensures
          (λ x. successors_next c.args.sources.now c.args.among.now (take i nodes) (take (i + 1) nodes) (get_or nodes i 0) x (λ k. taken_next nodes i k c.loop-node-test.true));
    }

pub returns : goal.returns
returns c =
    subst (λ (xs : List ℕ). Meets c.args.label (SuccessorHasSource c.args.sources.now c.args.among.now xs) c.args.met.now c.args.dependents.now c.loop-node.met c.loop-node.dependents)
    (take_all c.loop-node.node-index c.args.nodes.now (omega (arith, c.loop-node-test.false))) c.loop-node.invariant.met
