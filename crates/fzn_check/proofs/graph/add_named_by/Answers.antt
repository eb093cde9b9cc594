use Rattle.std.proofs.Common.{sym}
use Rattle.fzn_check.proofs.EdgeLaws.{with_no_edges}
use Rattle.fzn_check.proofs.graph.add_named_by.Goals as goal

pub returns-in-True : goal.returns-in-True
returns-in-True c = rw c.in-True.is (sym (with_no_edges c.args.graph.now))

pub returns-in-False : goal.returns-in-False
returns-in-False c = rw c.in-False.is (sym (with_no_edges c.args.graph.now))

pub returns-in-Number : goal.returns-in-Number
returns-in-Number c = rw c.in-Number.is (sym (with_no_edges c.args.graph.now))

pub returns-in-Range : goal.returns-in-Range
returns-in-Range c = rw c.in-Range.is (sym (with_no_edges c.args.graph.now))

pub returns-in-Set : goal.returns-in-Set
returns-in-Set c = rw c.in-Set.is (sym (with_no_edges c.args.graph.now))
