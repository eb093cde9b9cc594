use Rattle.std.proofs.Common.{subst, Ok}
use Rattle.fzn_symbols.specs.Scoped.{IsScoped}
use Rattle.fzn_lower.proofs.Chained.{lowers_second}
use Rattle.fzn_lower.specs.Steps.{FindsName, FindsUnknownOn}
use Rattle.fzn_lower.proofs.lowering.lower_sized.Goals as goal

pub lower_scoped-requires-clause-named : goal.lower_scoped-requires-clause-named
lower_scoped-requires-clause-named c = let h = c.in-Ok.ensures in subst (λ ds. IsScoped c.args.items.now (Ok ds)) h.0 h

pub returns-in-Ok : goal.returns-in-Ok
returns-in-Ok c =
    let t = c.args.items.now in
    let h = c.in-Ok.ensures in
    lowers_second (FindsName t) (FindsUnknownOn t) t c.lower_scoped.result (subst (λ ds. IsScoped t (Ok ds)) h.0 h) c.lower_scoped.ensures
