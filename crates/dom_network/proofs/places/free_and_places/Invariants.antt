-- What is listed so far.
use Rattle.dom_network.proofs.PlaceLaws.{AreListed}
use Rattle.dom_network.proofs.places.free_and_places.Given as goal

abbrev pub invariant-loop-var : goal.invariant-loop-var
invariant-loop-var l = record { listed : AreListed l.definers l.var l.free.items l.places.items }
