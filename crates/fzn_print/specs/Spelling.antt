-- The bytes of a token, as they are written.
use Rattle.std.specs.Prelude.{ℕ, List, [], ◌∷◌}
use Rattle.std.specs.Fmt.{signed_decimal}
use Rattle.fzn_lex.specs.declared.words.What.{What}
use Rattle.fzn_lex.specs.declared.words.What.TheVariants.{Name, Int, Float, Text, LeftParen, RightParen, LeftBracket, RightBracket, LeftBrace, RightBrace, Comma, Semicolon, Colon, DoubleColon, Equal, DotDot}

-- the bytes of a symbol
abbrev pub symbol_of : What → List ℕ
symbol_of LeftParen = 40 ∷ []
symbol_of RightParen = 41 ∷ []
symbol_of LeftBracket = 91 ∷ []
symbol_of RightBracket = 93 ∷ []
symbol_of LeftBrace = 123 ∷ []
symbol_of RightBrace = 125 ∷ []
symbol_of Comma = 44 ∷ []
symbol_of Semicolon = 59 ∷ []
symbol_of Colon = 58 ∷ []
symbol_of DoubleColon = 58 ∷ 58 ∷ []
symbol_of Equal = 61 ∷ []
symbol_of DotDot = 46 ∷ 46 ∷ []
symbol_of _ = []

-- names, floats and texts as they were, integers in decimal, symbols by their bytes
abbrev pub spelling_of : What → List ℕ → List ℕ
spelling_of Name text = text
spelling_of Float text = text
spelling_of Text text = text
spelling_of (Int z) text = signed_decimal z
spelling_of what text = symbol_of what
