-- What the readers of set literals answer.
use Rattle.std.specs.Prelude.{List, [], ℤ}
use Rattle.reading.specs.Readers.{Answer, nothing, pair, made, either, behind, listed}
use Rattle.fzn_words.specs.declared.terminal.Terminal.TheVariants as terminals
use Rattle.fzn_words.specs.declared.word.Word.{Word}
use Rattle.fzn_words.specs.Words.{is}
use Rattle.fzn_syntax.specs.Reading.{sign_at, int_at}
use Rattle.dom_index_sets.specs.declared.index_set.IndexSet.{IndexSet}
use Rattle.fzn_output_marks.specs.declared.literal.SetLiteral.{SetLiteral}
use Rattle.fzn_output_marks.specs.declared.literal.SetLiteral.TheVariants as literals

-- reads Int '..' Int
unfoldable pub range_at : List Word → Answer Word IndexSet
range_at = made (λ p. record { lo = p.0; hi = p.1.1 }) (pair int_at (pair (sign_at terminals.DotDot) int_at))

-- reads ',' Int
abbrev pub more_ints_at : List Word → Answer Word ℤ
more_ints_at = behind (sign_at terminals.Comma) int_at

-- reads Int {',' Int}*
unfoldable pub ints_at : List Word → Answer Word (List ℤ)
ints_at = listed (is terminals.Comma) (sign_at terminals.Comma) int_at

-- reads [Int {',' Int}*]
unfoldable pub some_ints_at : List Word → Answer Word (List ℤ)
some_ints_at = either (is terminals.Int) ints_at (made (λ _. []) nothing)

-- reads '{' [Int {',' Int}*] '}'
unfoldable pub set_at : List Word → Answer Word (List ℤ)
set_at = made (λ p. p.1.0) (pair (sign_at terminals.LeftBrace) (pair some_ints_at (sign_at terminals.RightBrace)))

-- reads a set or a range of integers
unfoldable pub literal_at : List Word → Answer Word SetLiteral
literal_at = either (is terminals.LeftBrace) (made (λ ns. literals.Set ns) set_at) (made (λ s. literals.Range s) range_at)

-- reads one behind a comma
abbrev pub more_literals_at : List Word → Answer Word SetLiteral
more_literals_at = behind (sign_at terminals.Comma) literal_at

-- reads one or more with commas between them
unfoldable pub literals_at : List Word → Answer Word (List SetLiteral)
literals_at = listed (is terminals.Comma) (sign_at terminals.Comma) literal_at

-- reads such a list in brackets and parentheses
unfoldable pub argument_at : List Word → Answer Word (List SetLiteral)
argument_at =
    made (λ p. p.1.1.0)
    (pair (sign_at terminals.LeftParen) (pair (sign_at terminals.LeftBracket) (pair literals_at (pair (sign_at terminals.RightBracket) (sign_at terminals.RightParen)))))
