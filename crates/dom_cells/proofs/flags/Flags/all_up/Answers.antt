use Rattle.std.proofs.Common.{◌∙◌, ap, arith}
use Rattle.dom_cells.specs.Bits.{flags_of}
use Rattle.dom_cells.proofs.BitLaws.{flags_of-ones}
use Rattle.dom_cells.proofs.flags.Flags.all_up.Goals as goal

pub returns : goal.returns
returns c =
    ap (λ ws. flags_of ws c.args.count) (c.in_ok-vec.ensures.items_if_clones_equal (λ y same. same))
    ∙ flags_of-ones c.div_ceil.result c.args.count (omega (arith, c.div_ceil.ensures))
