-- One thing more is written.
use Rattle.fzn_print.specs.Canonical.{word_marks}
use Rattle.fzn_print.proofs.Texts.{more_each}
use Rattle.fzn_print.proofs.words.write_words.Goals as goal

pub loop-word-preserved : goal.loop-word-preserved
loop-word-preserved c =
    more_each word_marks c.args.words.now c.loop-word.word-index c.word-item.result c.word-item.result c.args.out.now.items c.loop-word.out.items _
    c.loop-word-test.true c.word-item.is c.loop-word.invariant c.in_ok-write_word.ensures
