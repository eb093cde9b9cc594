use Rattle.std.proofs.Common.{sym}
use Rattle.std.proofs.lemmas.Result.{IfOk-weaker}
use Rattle.digraph.proofs.StepLaws.{root_known, root_back}
use Rattle.digraph.proofs.depth_first.DepthFirst.explore.Goals as goal

pub finish-requires : goal.finish-requires
finish-requires c = root_known _ _ _ _ c.requires.rested (sym c.in-Fresh.ensures) c.in_ok-enter.ensures

pub returns-in-Fresh : goal.returns-in-Fresh
returns-in-Fresh c = IfOk-weaker c.finish.result _ _ (λ b back. root_back _ _ _ _ _ b _ c.requires.rested (sym c.in-Fresh.ensures) c.in_ok-enter.ensures back) c.finish.ensures
