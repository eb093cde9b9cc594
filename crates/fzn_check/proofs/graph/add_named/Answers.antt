use Rattle.std.proofs.Common.{sym}
use Rattle.fzn_check.proofs.EdgeLaws.{edge_gained, with_no_edges}
use Rattle.fzn_check.proofs.PlaceLaws.{no_places_of, one_place_of}
use Rattle.fzn_check.proofs.graph.add_named.Goals as goal

pub returns-in-None : goal.returns-in-None
returns-in-None c = rw (no_places_of c.args.scope.now c.args.name.now c.in-None.ensures) (sym (with_no_edges c.args.graph.now))

pub returns-in_ok-edge-in-Some : goal.returns-in_ok-edge-in-Some
returns-in_ok-edge-in-Some c =
    rw (one_place_of c.args.scope.now c.args.name.now c.in-Some.place c.declarations.ensures.different c.in-Some.ensures)
    (edge_gained c.args.graph.now _ c.in-Some.place c.in_ok-edge-in-Some.ensures.ok)
