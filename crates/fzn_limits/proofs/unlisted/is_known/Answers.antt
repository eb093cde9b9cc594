use Rattle.std.proofs.Common.{◌↔◌, ℕ, List, IsTrue, is_some, subst}
use Rattle.fzn_limits.proofs.Finds.{finds}
use Rattle.fzn_signatures.specs.Rows.{entry_of}
use Rattle.fzn_signatures.specs.Table.{Entry, IsEntryOf}
use Rattle.fzn_limits.proofs.unlisted.is_known.Goals as goal

pub returns : goal.returns
returns c =
    rw c.is_some.ensures
    (subst (λ (n : List ℕ). IsTrue (is_some c.row_of.result) ↔ ((e : Entry) × IsEntryOf n e)) c.as_bytes.ensures
    (finds c.row_of.result (IsEntryOf c.as_bytes.result.now) (λ r. entry_of r.now) c.row_of.ensures))
