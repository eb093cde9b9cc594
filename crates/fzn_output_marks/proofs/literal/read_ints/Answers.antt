use Rattle.std.proofs.Common.{sym, rules, FitsSigned}
use Rattle.std.specs.Int.{w64}
use Rattle.std.proofs.lemmas.Int.{to_z-of_z}
use Rattle.reading.specs.Readers.{none}
use Rattle.reading.proofs.Loops.{shorter, goes_on}
use Rattle.fzn_words.specs.declared.terminal.Terminal.TheVariants as terminals
use Rattle.fzn_words.specs.Words.{is}
use Rattle.fzn_output_marks.specs.Reading.{more_ints_at, ints_at}
use Rattle.fzn_output_marks.proofs.Literals.{IsMoreInt, ints_loops}
use Rattle.fzn_output_marks.proofs.literal.read_ints.Goals as goal

pub more-smaller : goal.more-smaller
more-smaller c =
    shorter IsMoreInt none (is terminals.Comma) more_ints_at ints_loops c.more.rest.now c.in_ok-value-2.value c.in_ok-value-2.after.now c.in_ok-value-2.ensures

pub more-preserved : goal.more-preserved
more-preserved c =
    let fits : FitsSigned w64 c.in_ok-value-2.value = search rules in
    rw (c.in_ok-push-2.ensures.items, to_z-of_z w64 _ fits)
    (goes_on IsMoreInt none (is terminals.Comma) more_ints_at ints_loops
    c.more.values.items c.more.rest.now c.in_ok-value-2.value c.in_ok-value-2.after.now (ints_at c.args.words.now)
    (sym c.more-test.ensures) c.in_ok-value-2.ensures c.more.invariant)
