use Rattle.std.proofs.Common.{refl}
use Rattle.fzn_signatures.specs.Table.{Entry, table}
use Rattle.fzn_signatures.proofs.Rising.{one_place}
use Rattle.fzn_signatures.proofs.row.one_row.Goals as goal

pub returns : goal.returns
returns c i j e f at_i at_j same = one_place (λ (x : Entry). x.name) table i j e f refl at_i at_j same
