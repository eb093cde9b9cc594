-- The things so far are written.
use Rattle.std.proofs.Common.{◌≡◌, ◌++◌, take}
use Rattle.fzn_print.specs.Marks.{text_of, each}
use Rattle.fzn_print.specs.Canonical.{spaced_word}
use Rattle.fzn_print.proofs.words.write_spaced_words.Given as goal

abbrev pub invariant-loop-word : goal.invariant-loop-word
invariant-loop-word l = l.out.items ≡ l.fn.out.items ++ text_of (each spaced_word (take l.word-index l.words))
