use Rattle.digraph.proofs.RankLaws.{cleared_off_cycle}
use Rattle.digraph.proofs.cycle.lies_on_cycle.Goals as goal

pub returns-then-is_cleared : goal.returns-then-is_cleared
returns-then-is_cleared c = (λ e. absurd cc, λ cycle. absurd (cleared_off_cycle _ _ _ c.requires.ranks c.if-is_cleared.ensures cycle))
