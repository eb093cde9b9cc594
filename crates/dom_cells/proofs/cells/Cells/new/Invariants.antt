use Rattle.std.proofs.Common.{◌≡◌, map, take, []}
use Rattle.dom_cells.specs.Stack.{start_of, AllCut}
use Rattle.dom_cells.proofs.cells.Cells.new.Given as goal

abbrev pub invariant-loop-start : goal.invariant-loop-start
invariant-loop-start l = record {
  starts : map start_of l.cells.items ≡ take l.start-index l.starts;
  cut : AllCut [] l.cells.items;
}
