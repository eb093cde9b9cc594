use Rattle.std.proofs.Common.{◌∙◌, sym, ap, length}
use Rattle.dom_cells.proofs.BitLaws.{length-flags_of}
use Rattle.dom_cells.proofs.flags.Flags.len.Goals as goal

pub returns : goal.returns
returns c = sym (length-flags_of c.self.inside.words.items c.self.inside.count) ∙ ap length c.self.view_is
