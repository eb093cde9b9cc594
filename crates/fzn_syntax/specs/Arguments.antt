-- The grammar of an annotation's arguments, which nest.
use Rattle.std.specs.Prelude.{◌≡◌, List, [], ◌++◌}
use Rattle.reading.specs.Language.{◌⨾◌}
use Rattle.fzn_words.specs.declared.terminal.Terminal.TheVariants as terminals
use Rattle.fzn_words.specs.declared.word.Word.{Word}
use Rattle.fzn_syntax.specs.declared.identifier.Identifier.{Identifier}
use Rattle.fzn_syntax.specs.declared.expression.Basic.{Basic}
use Rattle.fzn_syntax.specs.Grammar.{Sign, IsName, IsBasic}

mutual
  -- basic | Text | Name '(' [arg {',' arg}*] ')' | '[' [arg {',' arg}*] ']'
  pub data Argument : List Word → Type 0 where
    basic : {ws : List Word} (x : Basic) → IsBasic x ws → Argument ws
    text : {ws : List Word} → Sign terminals.Text ws → Argument ws
    call : {ws : List Word} (n : Identifier) (a o i c : List Word) → ws ≡ a ++ (o ++ (i ++ c)) → IsName n a → Sign terminals.LeftParen o → Inside i → Sign terminals.RightParen c → Argument ws
    list : {ws : List Word} (o i c : List Word) → ws ≡ o ++ (i ++ c) → Sign terminals.LeftBracket o → Inside i → Sign terminals.RightBracket c → Argument ws

  -- [arg {',' arg}*]
  pub data Inside : List Word → Type 0 where
    empty : {ws : List Word} → ws ≡ [] → Inside ws
    filled : {ws : List Word} (a b : List Word) → ws ≡ a ++ b → Argument a → Others b → Inside ws

  -- {',' arg}*
  pub data Others : List Word → Type 0 where
    no_others : {ws : List Word} → ws ≡ [] → Others ws
    next : {ws : List Word} (c a b : List Word) → ws ≡ c ++ (a ++ b) → Sign terminals.Comma c → Argument a → Others b → Others ws

-- '(' [arg {',' arg}*] ')', kept as its words
abbrev pub IsArguments : List Word → List Word → Type 0
IsArguments flat ws = (flat ≡ ws) × (Sign terminals.LeftParen ⨾ Inside ⨾ Sign terminals.RightParen) ws
