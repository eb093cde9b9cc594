use Rattle.std.proofs.Common.{◌≡◌, ◌/◌, ◌∙◌, sym, ap, length, get_or, set, arith}
use Rattle.std.proofs.lemmas.List.{get_or_read, set_past}
use Rattle.std.specs.Int.{bit_at}
use Rattle.dom_cells.proofs.BitLaws.{length-flags_of, flags_of-set}
use Rattle.dom_cells.proofs.flags.Flags.put.Goals as goal

pub returns-then-at-self : goal.returns-then-at-self
returns-then-at-self c =
    let words = c.self.inside.words.items in
    let read : c.index-word.result.now ≡ get_or words (c.args.at / 64) 0 = get_or_read words (c.args.at / 64) _ (omega arith) c.index-word.ensures 0 in
    flags_of-set words c.self.inside.count c.args.at c.with_bit.result c.args.up c.if-at-self.true c.self.invariant c.with_bit.ensures.here
    (λ i lt other. c.with_bit.ensures.others i lt other ∙ ap (λ x. bit_at x i) read)
    ∙ ap (λ bs. set bs c.args.at c.args.up) c.self.view_is

pub returns-else-at-self : goal.returns-else-at-self
returns-else-at-self c =
    sym (set_past c.args.self.now c.args.at c.args.up
    (omega (arith, c.if-at-self.false, length-flags_of c.self.inside.words.items c.self.inside.count, ap length c.self.view_is)))
