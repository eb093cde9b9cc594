-- What a printed text is read back as.
use Rattle.std.specs.Prelude.{◌≡◌, ℕ, ◌≤◌, List, length, Ok}
use Rattle.fzn_lex.specs.declared.tokens.Token.{Token}
use Rattle.fzn_lex.specs.Cutting.{limit, IsLexed}
use Rattle.fzn_syntax.specs.declared.items.Items.{Items}
use Rattle.fzn_words.specs.declared.word.Word.{Word}
use Rattle.fzn_words.specs.Words.{words}
use Rattle.fzn_syntax.specs.Items.{AreItems}
use Rattle.fzn_syntax.specs.Texts.{AreOfText}
use Rattle.fzn_print.specs.Aside.{items_aside}

-- the text is cut into tokens, and their words are these items again, places aside
pub record IsReadBack (items : Items) (text : List ℕ) : Type 0 where
  pub tokens : List Token
  pub lexed : IsLexed text (Ok tokens)
  pub again : Items
  pub same : items_aside again ≡ items_aside items
  pub parsed : AreItems again (words text tokens)

-- where the items are those of some text, and this text is short enough, it is read back
abbrev pub ReadsBack : Items → List ℕ → Type 0
ReadsBack items text = AreOfText items → length text ≤ limit → IsReadBack items text
