use Rattle.std.proofs.Common.{All, IsTrue}
use Rattle.dom_core.specs.Small.{IsSmall}
use Rattle.fzn_model.proofs.Declaring.{small_all, all_small}
use Rattle.fzn_model.proofs.variables.are_small.Goals as goal

pub returns : goal.returns
returns c =
    let told : (IsTrue c.are_all_small.result → All IsSmall c.args.values.now) × (All IsSmall c.args.values.now → IsTrue c.are_all_small.result) = c.are_all_small.ensures in
    (λ t. small_all c.args.values.now (told.0 t), λ h. told.1 (all_small c.args.values.now h))
