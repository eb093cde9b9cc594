use Rattle.fzn_output_marks.proofs.SignLaws.{sign_told}
use Rattle.fzn_output_marks.proofs.sign.is.Goals as goal

pub returns : goal.returns
returns c = sign_told c.args.word.now.what c.args.sign c.args.word.now.text c.is_same.result c.requires c.is_same.ensures.0 c.is_same.ensures.1
