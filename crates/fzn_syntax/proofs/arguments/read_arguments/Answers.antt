use Rattle.fzn_words.specs.Words.{words}
use Rattle.fzn_syntax.specs.Turns.{moved, turn, arguments_at}
use Rattle.fzn_syntax.proofs.WordLoops.{word_goes_on}
use Rattle.fzn_syntax.proofs.arguments.read_arguments.Goals as goal

pub words-preserved : goal.words-preserved
words-preserved c =
    rw c.in_ok-push-in-On.ensures.items
    (word_goes_on (λ p n. moved (turn p.place p.paren n) p.paren p.below) c.args.bytes.now c.words.rest.now c.in-Some.token.now c.in-Some.after.now c.words.flat.items c.words.nesting c.take.new.self c.terminal_of.result
    c.in_ok-take.field-0 c.in_ok-word_of-in-On.field-0 (arguments_at (words c.args.bytes.now c.args.tokens.now)) c.in-Some.ensures c.terminal_of.ensures c.in-On.is c.in_ok-take.ensures c.in_ok-word_of-in-On.ensures
    c.words.invariant)
