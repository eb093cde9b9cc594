-- One entry more.
use Rattle.std.proofs.Common.{◌∙◌, codes, length}
use Rattle.dom_report.specs.Text.{entry_text_of}
use Rattle.dom_report.proofs.Lines.{fit_arg, separated_more}
use Rattle.dom_report.proofs.array.write_more.Goals as goal

pub write_entry-requires : goal.write_entry-requires
write_entry-requires c = fit_arg (length c.args.assignment.now) c.args.entries.now c.loop-entry.entry-index _ c.requires c.loop-entry-test.true

pub loop-entry-preserved : goal.loop-entry-preserved
loop-entry-preserved c =
    c.in_ok-write_entry.ensures ∙
    rw c.in_ok-extend_from_slice.ensures.items
    (separated_more (entry_text_of c.args.assignment.now c.args.form) (codes ", ") c.args.entries.now c.loop-entry.entry-index _ c.args.text.now.items _ c.loop-entry-test.true
    c.loop-entry.invariant)
