use Rattle.fzn_print.proofs.Spelled.{token_spelled}
use Rattle.fzn_print.proofs.tokens.every_token_is_spelled.Goals as goal

pub returns : goal.returns
returns c = token_spelled
