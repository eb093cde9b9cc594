-- One line more.
use Rattle.std.proofs.Common.{◌∙◌, []}
use Rattle.dom_report.specs.Text.{line_of}
use Rattle.dom_report.proofs.Lines.{fit_output, one_part_more}
use Rattle.dom_report.proofs.text.answer_text.Goals as goal

pub write_line-requires-clause-known : goal.write_line-requires-clause-known
write_line-requires-clause-known c = fit_output _ c.outputs-output-items.result.now c.loop-output.output-index _ c.outputs-output-items.ensures.fit c.loop-output-test.true c.output-item.is

pub loop-output-preserved : goal.loop-output-preserved
loop-output-preserved c =
    c.in_ok-write_line.ensures ∙
    one_part_more (line_of c.args.model.now c.args.assignment.now) c.args.model.now.outputs c.outputs-output-items.result.now c.loop-output.output-index c.output-item.result [] _
    c.outputs-output-items.ensures.outputs c.output-item.is c.loop-output-test.true c.loop-output.invariant
