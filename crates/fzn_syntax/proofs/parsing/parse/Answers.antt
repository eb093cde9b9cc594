use Rattle.std.proofs.Common.{◌≡◌, length, Err}
use Rattle.fzn_words.specs.Words.{words}
use Rattle.fzn_syntax.specs.ItemReading.{text_at}
use Rattle.fzn_syntax.proofs.TextLaws.{few_left, text_is, stops_there}
use Rattle.fzn_syntax.proofs.parsing.parse.Goals as goal

pub place-requires : goal.place-requires
place-requires c =
    let e : text_at (words c.args.bytes.now c.args.tokens.now) ≡ Err c.in-Err-Stuck.left = rw c.in-Err-Stuck.field-0-is at c.in-Err-Stuck.ensures in
    few_left c.args.bytes.now c.args.tokens.now c.in-Err-Stuck.left e

pub returns-in-Ok : goal.returns-in-Ok
returns-in-Ok c = text_is (words c.args.bytes.now c.args.tokens.now) c.in-Ok.items (words c.args.bytes.now c.in-Ok.field-0-1.now) c.in-Ok.ensures

pub returns-in-Err-Stuck : goal.returns-in-Err-Stuck
returns-in-Err-Stuck c =
    let e : text_at (words c.args.bytes.now c.args.tokens.now) ≡ Err c.in-Err-Stuck.left = rw c.in-Err-Stuck.field-0-is at c.in-Err-Stuck.ensures in
    stops_there (length c.args.bytes.now) c.args.bytes.now c.args.tokens.now c.in-Err-Stuck.left c.place.result e c.place.ensures
