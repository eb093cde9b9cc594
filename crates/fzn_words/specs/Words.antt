-- The words of a text: its tokens, each with what the grammar needs of its bytes.
use Rattle.std.specs.Prelude.{ℕ, ◌-◌, Bool, false, ◌||◌, ◌==◌, List, [], ◌∷◌, take, drop, map, ℤ, Option, Some, None, if◌then◌else◌, codes}
use Rattle.std.specs.Str.{bytes_eq}
use Rattle.fzn_lex.specs.declared.words.What.{What}
use Rattle.fzn_lex.specs.declared.words.What.TheVariants as what
use Rattle.fzn_lex.specs.declared.tokens.Token.{Token}
use Rattle.fzn_words.specs.declared.terminal.Terminal.{Terminal}
use Rattle.fzn_words.specs.declared.terminal.Terminal.TheVariants as terminals
use Rattle.fzn_words.specs.declared.word.Word.{Word}

-- a number for each kind
abbrev pub code : Terminal → ℕ
code terminals.Name = 0
code terminals.Float = 1
code terminals.Text = 2
code terminals.Int = 3
code terminals.LeftParen = 4
code terminals.RightParen = 5
code terminals.LeftBracket = 6
code terminals.RightBracket = 7
code terminals.LeftBrace = 8
code terminals.RightBrace = 9
code terminals.Comma = 10
code terminals.Semicolon = 11
code terminals.Colon = 12
code terminals.DoubleColon = 13
code terminals.Equal = 14
code terminals.DotDot = 15
code terminals.Array = 16
code terminals.Bool = 17
code terminals.Constraint = 18
code terminals.False = 19
code terminals.FloatWord = 20
code terminals.IntWord = 21
code terminals.Maximize = 22
code terminals.Minimize = 23
code terminals.Of = 24
code terminals.Predicate = 25
code terminals.Satisfy = 26
code terminals.Set = 27
code terminals.Solve = 28
code terminals.True = 29
code terminals.Var = 30

-- a reserved word of items and goals is of its own kind
abbrev pub item_terminal : List ℕ → Terminal
item_terminal text =
    if bytes_eq text (codes "constraint") then terminals.Constraint
    else if bytes_eq text (codes "maximize") then terminals.Maximize
    else if bytes_eq text (codes "minimize") then terminals.Minimize
    else if bytes_eq text (codes "predicate") then terminals.Predicate
    else if bytes_eq text (codes "satisfy") then terminals.Satisfy
    else if bytes_eq text (codes "solve") then terminals.Solve
    else terminals.Name

-- a reserved word is of its own kind, and every other name a name
abbrev pub name_terminal : List ℕ → Terminal
name_terminal text =
    if bytes_eq text (codes "array") then terminals.Array
    else if bytes_eq text (codes "bool") then terminals.Bool
    else if bytes_eq text (codes "false") then terminals.False
    else if bytes_eq text (codes "float") then terminals.FloatWord
    else if bytes_eq text (codes "int") then terminals.IntWord
    else if bytes_eq text (codes "of") then terminals.Of
    else if bytes_eq text (codes "set") then terminals.Set
    else if bytes_eq text (codes "true") then terminals.True
    else if bytes_eq text (codes "var") then terminals.Var
    else item_terminal text

-- a reserved word begins with one of these bytes
abbrev pub leads_reserved : List ℕ → Bool
leads_reserved [] = false
leads_reserved (b ∷ text) =
    (b == 97) || ((b == 98) || ((b == 99) || ((b == 102) || ((b == 105) || ((b == 109) || ((b == 111) || ((b == 112) || ((b == 115) || ((b == 116) || (b == 118))))))))))

-- the kind of a token of this text
unfoldable pub terminal_by : What → List ℕ → Terminal
terminal_by what.Name text = name_terminal text
terminal_by (what.Int z) text = terminals.Int
terminal_by what.Float text = terminals.Float
terminal_by what.Text text = terminals.Text
terminal_by what.LeftParen text = terminals.LeftParen
terminal_by what.RightParen text = terminals.RightParen
terminal_by what.LeftBracket text = terminals.LeftBracket
terminal_by what.RightBracket text = terminals.RightBracket
terminal_by what.LeftBrace text = terminals.LeftBrace
terminal_by what.RightBrace text = terminals.RightBrace
terminal_by what.Comma text = terminals.Comma
terminal_by what.Semicolon text = terminals.Semicolon
terminal_by what.Colon text = terminals.Colon
terminal_by what.DoubleColon text = terminals.DoubleColon
terminal_by what.Equal text = terminals.Equal
terminal_by what.DotDot text = terminals.DotDot

-- the kind of a word
abbrev pub terminal : Word → Terminal
terminal w = terminal_by w.what w.text

-- the bytes from a start up to an end
abbrev pub bytes_between : List ℕ → ℕ → ℕ → List ℕ
bytes_between bytes start end = take (end - start) (drop start bytes)

-- names, floats and texts keep their bytes; all else is told by what it is
abbrev pub kept_text : What → List ℕ → List ℕ
kept_text what.Name text = text
kept_text what.Float text = text
kept_text what.Text text = text
kept_text _ text = []

-- a token as a word: with its kept bytes and its place
abbrev pub word_of : List ℕ → Token → Word
word_of bytes t = record { what = t.what; text = kept_text t.what (bytes_between bytes t.start t.end); at = t.start }

-- the words of a text with these tokens
abbrev pub words : List ℕ → List Token → List Word
words bytes tokens = map (word_of bytes) tokens

-- whether the word is of the kind
abbrev pub is : Terminal → Word → Bool
is k w = code (terminal w) == code k

-- the integer that a token is
abbrev pub int_of : What → Option ℤ
int_of (what.Int z) = Some z
int_of _ = None
