use Rattle.std.proofs.Common.{ℕ, List, map, not, refl, subst, Ok}
use Rattle.fzn_symbols.specs.Noted.{IsAdded}
use Rattle.fzn_symbols.proofs.Keys.{added}
use Rattle.fzn_symbols.proofs.names.Names.add.Goals as goal

pub returns : goal.returns
returns c =
    subst (λ (old : List (List ℕ)). IsAdded old c.args.name.now (map (λ k. k.now) c.insert.new.self.keys) (Ok (not c.in_ok-insert.field-0))) c.self.view_is
    (added (λ k. k.now) c.args.name.now c.args.name c.self.inside.names.keys c.insert.new.self.keys c.in_ok-insert.field-0 refl c.in_ok-insert.ensures.added c.in_ok-insert.ensures.keys)
