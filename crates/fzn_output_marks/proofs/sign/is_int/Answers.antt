use Rattle.fzn_output_marks.proofs.SignLaws.{int_told, int_is}
use Rattle.fzn_output_marks.proofs.sign.is_int.Goals as goal

pub returns-in-Int : goal.returns-in-Int
returns-in-Int c = int_is c.args.word.now.what c.args.word.now.text c.in-Int.field-0 c.in-Int.is

pub returns-in_default : goal.returns-in_default
returns-in_default c = int_told c.args.word.now.what c.args.word.now.text c.in_default.not-Int
