use Rattle.std.proofs.Common.{length, ap, arith}
use Rattle.digraph.proofs.RowLaws.{length-rows_of}
use Rattle.digraph.proofs.graph.Digraph.len.Goals as goal

pub returns : goal.returns
returns c = omega (arith, c.len.ensures, length-rows_of c.self.inside.starts.items c.self.inside.targets.items, ap length c.self.view_is)
