use Rattle.std.proofs.Common.{ap, length, arith}
use Rattle.dom_cells.proofs.BitLaws.{length-flags_of}
use Rattle.dom_cells.proofs.flags.Flags.last_up.Goals as goal

pub last_set-requires-clause-below : goal.last_set-requires-clause-below
last_set-requires-clause-below c =
    omega (arith, c.requires, length-flags_of c.self.inside.words.items c.self.inside.count, ap length c.self.view_is)
