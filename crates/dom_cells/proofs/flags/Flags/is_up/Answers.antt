use Rattle.std.proofs.Common.{◌≡◌, ◌<◌, ◌/◌, ◌%◌, ◌∙◌, sym, ap, length, get_or, eqb, false, arith}
use Rattle.std.proofs.lemmas.List.{get_or_read}
use Rattle.std.specs.Int.{bit_at}
use Rattle.dom_cells.proofs.BitLaws.{length-flags_of, get_or-flags_of}
use Rattle.dom_cells.proofs.flags.Flags.is_up.Goals as goal

pub index-requires : goal.index-requires
index-requires c =
    omega (arith, c.self.invariant, c.requires, length-flags_of c.self.inside.words.items c.self.inside.count, ap length c.self.view_is, c.self.inside.words.ok.0)

pub returns : goal.returns
returns c =
    let words = c.self.inside.words.items in
    let within : c.args.at < c.self.inside.count = omega (arith, c.requires, length-flags_of words c.self.inside.count, ap length c.self.view_is) in
    let read : c.index.result.now ≡ get_or words (c.args.at / 64) 0 = get_or_read words (c.args.at / 64) _ (omega arith) c.index.ensures 0 in
    c.has_bit.ensures
    ∙ ap (λ x. eqb (bit_at x (c.args.at % 64)) 1) read
    ∙ sym (get_or-flags_of words c.self.inside.count c.args.at within)
    ∙ ap (λ bs. get_or bs c.args.at false) c.self.view_is
