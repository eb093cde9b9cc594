use Rattle.std.proofs.Common.{arith}
use Rattle.std.proofs.lemmas.Result.{IfOk-weaker}
use Rattle.digraph.proofs.StepLaws.{top_within, step_looks, step_leaves}
use Rattle.digraph.proofs.depth_first.DepthFirst.step.Goals as goal

pub successor_at-requires : goal.successor_at-requires
successor_at-requires c = omega (arith, top_within _ _ _ c.requires.known c.requires.top, c.requires.known.width)

pub leave-requires : goal.leave-requires
leave-requires c = top_within _ _ _ c.requires.known c.requires.top

pub returns-in-Some : goal.returns-in-Some
returns-in-Some c = IfOk-weaker c.look_at.result _ _ (λ b looked. step_looks _ _ _ _ _ _ b c.requires.known c.requires.top c.edge-edge.ensures c.in-Some.ensures.value looked) c.look_at.ensures

pub returns-in_ok-leave-in-None : goal.returns-in_ok-leave-in-None
returns-in_ok-leave-in-None c = step_leaves _ _ _ _ _ c.requires.known c.requires.top c.edge-edge.ensures c.in-None.ensures.value c.in_ok-leave-in-None.ensures
