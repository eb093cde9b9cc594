use Rattle.fzn_symbols.proofs.Places.{place_of}
use Rattle.fzn_symbols.proofs.scope.Scope.place.Goals as goal

-- src/scope.rt:51:5
pub returns : goal.returns
returns c =
    rw (← c.self.view_is)
    (place_of c.self.inside.declarations.now c.args.name.now c.find.result (rw (← c.self.invariant.0) c.find.ensures))
