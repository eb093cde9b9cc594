-- What a text is put together of: tokens, spaces and ends of lines.
use Rattle.std.specs.Prelude.{◌≡◌, ℕ, List, [], ◌∷◌, ◌++◌}
use Rattle.fzn_lex.specs.declared.words.What.{What}
use Rattle.fzn_lex.specs.declared.words.What.TheVariants.{Name, Comma}
use Rattle.fzn_print.specs.Spelling.{spelling_of}

-- a token with its bytes where it is a name, a float or a text; a space; the end of a line
pub data Mark : Type 0 where
  token : What → List ℕ → Mark
  space : Mark
  newline : Mark

-- a token that is no name, no float and no text
abbrev pub symbol : What → Mark
symbol what = token what []

-- a name or a reserved word
abbrev pub name : List ℕ → Mark
name text = token Name text

-- the bytes of one
abbrev pub mark_bytes : Mark → List ℕ
mark_bytes (token what text) = spelling_of what text
mark_bytes space = 32 ∷ []
mark_bytes newline = 10 ∷ []

-- the text
abbrev pub text_of : List Mark → List ℕ
text_of [] = []
text_of (m ∷ ms) = mark_bytes m ++ text_of ms

-- what follows the first of a list, each behind a comma
abbrev pub others : {X : Type 0} → (X → List Mark) → List X → List Mark
others f [] = []
others f (x ∷ xs) = symbol Comma ∷ (f x ++ others f xs)

-- a list with commas between its things
abbrev pub listed : {X : Type 0} → (X → List Mark) → List X → List Mark
listed f [] = []
listed f (x ∷ xs) = f x ++ others f xs

-- one thing after the other
abbrev pub each : {X : Type 0} → (X → List Mark) → List X → List Mark
each f [] = []
each f (x ∷ xs) = f x ++ each f xs
