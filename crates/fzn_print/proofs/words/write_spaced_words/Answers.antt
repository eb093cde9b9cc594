-- One thing more is written.
use Rattle.fzn_print.specs.Canonical.{spaced_word}
use Rattle.fzn_print.proofs.Texts.{more_each}
use Rattle.fzn_print.proofs.words.write_spaced_words.Goals as goal

pub loop-word-preserved : goal.loop-word-preserved
loop-word-preserved c =
    more_each spaced_word c.args.words.now c.loop-word.word-index c.word-item.result c.word-item.result c.args.out.now.items c.loop-word.out.items _
    c.loop-word-test.true c.word-item.is c.loop-word.invariant c.in_ok-write_spaced_word.ensures
