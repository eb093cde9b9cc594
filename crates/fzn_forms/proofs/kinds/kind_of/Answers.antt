use Rattle.std.proofs.Common.{subst}
use Rattle.fzn_signatures.specs.Rows.{entry_of}
use Rattle.fzn_symbols.specs.Named.{names_of, AreDifferent}
use Rattle.fzn_forms.proofs.Told.{unlisted, unread, kind_by_shape}
use Rattle.fzn_forms.proofs.kinds.kind_of.Goals as goal

pub returns-in-None : goal.returns-in-None
returns-in-None c = unlisted c.args.values.now c.args.constraint.now c.as_bytes.result.now c.as_bytes.ensures c.in-None.ensures

pub returns-in-None-2 : goal.returns-in-None-2
returns-in-None-2 c =
    unread c.args.values.now c.args.constraint.now c.as_bytes.result.now c.as_bytes.ensures c.one_row.ensures (entry_of c.in-Some.row.now) c.in-Some.ensures c.as_slice-expressions.result.now
    c.as_slice-expressions.ensures (rw c.in-None-2.is at c.in_ok-read_all-in-Some.ensures)

pub returns-in-Some-2 : goal.returns-in-Some-2
returns-in-Some-2 c =
    let different = subst (λ ds. AreDifferent (names_of ds)) c.scope.ensures c.declarations-names_are_different.ensures.different in
    let read = rw c.in-Some-2.is at c.in_ok-read_all-in-Some.ensures in
    kind_by_shape c.args.values.now c.args.constraint.now c.as_bytes.result.now c.as_bytes.ensures c.one_row.ensures (entry_of c.in-Some.row.now) c.in-Some.ensures c.as_slice-expressions.result.now
    c.as_slice-expressions.ensures c.one_integer.ensures c.one_list.ensures c.one_argument.ensures.scalar c.one_argument.ensures.list different c.in-Some-2.arguments.items read c.make.result
    (rw c.as_slice.ensures.value at c.make.ensures)
