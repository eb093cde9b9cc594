-- Signs by their tokens.
use Rattle.std.specs.Prelude.{Bool, true, false}
use Rattle.fzn_lex.specs.declared.words.What.{What}
use Rattle.fzn_lex.specs.declared.words.What.TheVariants as what
use Rattle.fzn_words.specs.declared.terminal.Terminal.{Terminal}
use Rattle.fzn_words.specs.declared.terminal.Terminal.TheVariants as terminals

-- the kind of a sign
abbrev pub terminal_of : What → Terminal
terminal_of what.LeftParen = terminals.LeftParen
terminal_of what.RightParen = terminals.RightParen
terminal_of what.LeftBracket = terminals.LeftBracket
terminal_of what.RightBracket = terminals.RightBracket
terminal_of what.LeftBrace = terminals.LeftBrace
terminal_of what.RightBrace = terminals.RightBrace
terminal_of what.Comma = terminals.Comma
terminal_of what.DotDot = terminals.DotDot
terminal_of _ = terminals.Name

-- whether the token is a bracket, a comma or two dots
abbrev pub is_sign : What → Bool
is_sign what.LeftParen = true
is_sign what.RightParen = true
is_sign what.LeftBracket = true
is_sign what.RightBracket = true
is_sign what.LeftBrace = true
is_sign what.RightBrace = true
is_sign what.Comma = true
is_sign what.DotDot = true
is_sign _ = false
