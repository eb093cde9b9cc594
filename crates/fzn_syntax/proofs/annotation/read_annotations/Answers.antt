use Rattle.std.proofs.Common.{sym}
use Rattle.std.proofs.lemmas.List.{length-map}
use Rattle.reading.proofs.Loops.{shorter, goes_on}
use Rattle.fzn_words.specs.declared.terminal.Terminal.TheVariants as terminals
use Rattle.fzn_words.specs.Words.{words, is}
use Rattle.fzn_syntax.specs.Items.{IsAnnotation}
use Rattle.fzn_syntax.specs.ItemReading.{annotation_at, annotations_at}
use Rattle.fzn_syntax.proofs.Firsts.{leads}
use Rattle.fzn_syntax.proofs.ItemLaws.{on_annotation, annotation_loops}
use Rattle.fzn_syntax.proofs.annotation.read_annotations.Goals as goal

pub more-smaller : goal.more-smaller
more-smaller c =
    simp length-map at (shorter IsAnnotation (leads on_annotation) (is terminals.DoubleColon) annotation_at annotation_loops (words c.args.bytes.now c.more.rest.now) c.in_ok-annotation.annotation
    (words c.args.bytes.now c.in_ok-annotation.after.now) c.in_ok-annotation.ensures)

pub more-preserved : goal.more-preserved
more-preserved c =
    rw c.in_ok-push.ensures.items
    (goes_on IsAnnotation (leads on_annotation) (is terminals.DoubleColon) annotation_at annotation_loops c.more.annotations.items (words c.args.bytes.now c.more.rest.now) c.in_ok-annotation.annotation
    (words c.args.bytes.now c.in_ok-annotation.after.now) (annotations_at (words c.args.bytes.now c.args.tokens.now)) (sym c.more-test.ensures) c.in_ok-annotation.ensures c.more.invariant)
