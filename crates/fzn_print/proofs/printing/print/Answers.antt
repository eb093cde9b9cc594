-- The text is that of the items' marks, which is read back.
use Rattle.std.proofs.Common.{◌≡◌, List, ℕ, ◌++◌, ap, ◌∙◌}
use Rattle.fzn_print.specs.Marks.{text_of}
use Rattle.fzn_print.specs.Canonical.{items_marks}
use Rattle.fzn_print.proofs.ReadBack.{printed_back}
use Rattle.fzn_print.proofs.printing.print.Goals as goal

pub returns-clause-reads_back : goal.returns-clause-reads_back
returns-clause-reads_back c =
    let e : c.write_items.new.out.items ≡ text_of (items_marks c.args.items.now) =
    c.in_ok-write_items.ensures ∙ ap (λ (l : List ℕ). l ++ text_of (items_marks c.args.items.now)) c.new-out.ensures.items in
    rw e (printed_back c.args.items.now)
