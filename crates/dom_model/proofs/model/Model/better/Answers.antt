-- The free variables are some of the variables, and the keys compare as their parts.
use Rattle.std.proofs.Common.{◌≡◌, subst, sym, length, arith, List}
use Rattle.dom_core.specs.declared.var_id.VarId.{VarId}
use Rattle.dom_network.proofs.FreeLaws.{free_below}
use Rattle.dom_model.specs.Problem.{Problem}
use Rattle.kind_law.specs.Laws.{AllBelow}
use Rattle.dom_model.proofs.model.Model.better.Goals as goal

pub free_order-requires-clause-first : goal.free_order-requires-clause-first
free_order-requires-clause-first c =
    let size = subst (λ (p : Problem). length c.args.first.now ≡ length p.network.hulls) (sym c.self.view_is) c.requires.first.whole in
    subst (λ (vs : List VarId). AllBelow (length c.args.first.now) vs) (sym c.free.ensures)
    (free_below c.self.inside.network.definers (length c.args.first.now) (omega (arith, size, c.vars-network.ensures.whole)))

pub free_order-requires-clause-second : goal.free_order-requires-clause-second
free_order-requires-clause-second c =
    let size = subst (λ (p : Problem). length c.args.second.now ≡ length p.network.hulls) (sym c.self.view_is) c.requires.second.whole in
    subst (λ (vs : List VarId). AllBelow (length c.args.second.now) vs) (sym c.free.ensures)
    (free_below c.self.inside.network.definers (length c.args.second.now) (omega (arith, size, c.vars-network.ensures.whole)))
