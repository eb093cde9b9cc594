use Rattle.std.proofs.Common.{ap, length, arith}
use Rattle.dom_cells.proofs.BitLaws.{length-flags_of}
use Rattle.dom_cells.proofs.flags.Flags.first_up.Goals as goal

pub first_set-requires-clause-from : goal.first_set-requires-clause-from
first_set-requires-clause-from c =
    omega (arith, c.requires, length-flags_of c.self.inside.words.items c.self.inside.count, ap length c.self.view_is)
