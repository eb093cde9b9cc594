use Rattle.std.proofs.Common.{sym}
use Rattle.fzn_check.proofs.EdgeLaws.{with_no_edges}
use Rattle.fzn_check.proofs.graph.add_successors.Goals as goal

pub returns-in-None : goal.returns-in-None
returns-in-None c = rw c.in-None.ensures (sym (with_no_edges c.args.graph.now))
