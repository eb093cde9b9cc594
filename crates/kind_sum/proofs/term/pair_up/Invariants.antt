use Rattle.std.proofs.Common.{◌≡◌, ◌++◌, drop}
use Rattle.kind_sum.specs.Sum.{terms_of}
use Rattle.kind_sum.proofs.term.pair_up.Given as goal

abbrev pub invariant-loop-i : goal.invariant-loop-i
invariant-loop-i l = terms_of l.coefs l.args ≡ l.terms.items ++ terms_of (drop l.i l.coefs) (drop l.i l.args)
