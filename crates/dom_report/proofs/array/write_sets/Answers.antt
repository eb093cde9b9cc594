-- One index set more.
use Rattle.std.proofs.Common.{◌∙◌, ◌++◌, codes}
use Rattle.dom_index_sets.specs.declared.index_set.IndexSet.{IndexSet}
use Rattle.dom_report.specs.Text.{set_text_of}
use Rattle.dom_report.proofs.Lines.{part_more}
use Rattle.dom_report.proofs.array.write_sets.Goals as goal

pub loop-set-preserved : goal.loop-set-preserved
loop-set-preserved c =
    c.in_ok-write_set.ensures ∙
    part_more (λ (s : IndexSet). set_text_of s ++ codes ", ") c.args.sets.now c.loop-set.set-index _ c.args.text.now.items _ c.loop-set-test.true c.loop-set.invariant
