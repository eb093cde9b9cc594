-- The items of texts.
use Rattle.std.specs.Prelude.{ℕ, List, Ok}
use Rattle.fzn_lex.specs.declared.tokens.Token.{Token}
use Rattle.fzn_lex.specs.Cutting.{IsLexed}
use Rattle.fzn_syntax.specs.declared.items.Items.{Items}
use Rattle.fzn_words.specs.Words.{words}
use Rattle.fzn_syntax.specs.Items.{AreItems}

-- the items of some text
pub record AreOfText (items : Items) : Type 0 where
  pub bytes : List ℕ
  pub tokens : List Token
  pub lexed : IsLexed bytes (Ok tokens)
  pub parsed : AreItems items (words bytes tokens)
