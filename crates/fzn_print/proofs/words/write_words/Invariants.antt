-- The things so far are written.
use Rattle.std.proofs.Common.{◌≡◌, ◌++◌, take}
use Rattle.fzn_print.specs.Marks.{text_of, each}
use Rattle.fzn_print.specs.Canonical.{word_marks}
use Rattle.fzn_print.proofs.words.write_words.Given as goal

abbrev pub invariant-loop-word : goal.invariant-loop-word
invariant-loop-word l = l.out.items ≡ l.fn.out.items ++ text_of (each word_marks (take l.word-index l.words))
