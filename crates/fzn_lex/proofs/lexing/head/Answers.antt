-- What is read at the head is the longest piece there.
use Rattle.fzn_lex.proofs.Longest.{first_is}
use Rattle.fzn_lex.proofs.lexing.head.Goals as goal

pub returns : goal.returns
returns c = first_is c.args.bytes.now c.first_piece.result c.requires c.first_piece.ensures
