use Rattle.std.proofs.Common.{◌∙◌, sym, ap, eqb, w64}
use Rattle.std.proofs.lemmas.Nat.Bits.{bit_at_set_same, bit_at_set_other, bit_at_clear_same, bit_at_clear_other}
use Rattle.dom_cells.proofs.bits.with_bit.Goals as goal

pub returns-then-up-clause-here : goal.returns-then-up-clause-here
returns-then-up-clause-here c = ap (λ x. eqb x 1) (bit_at_set_same w64 c.args.word c.args.at c.requires) ∙ sym c.if-up.true

pub returns-then-up-clause-others : goal.returns-then-up-clause-others
returns-then-up-clause-others c i lt other = bit_at_set_other w64 c.args.word c.args.at c.requires i other

pub returns-else-up-clause-here : goal.returns-else-up-clause-here
returns-else-up-clause-here c = ap (λ x. eqb x 1) (bit_at_clear_same w64 c.args.word c.args.at c.requires) ∙ sym c.if-up.false

pub returns-else-up-clause-others : goal.returns-else-up-clause-others
returns-else-up-clause-others c i lt other = bit_at_clear_other w64 c.args.word c.args.at c.requires i lt other
