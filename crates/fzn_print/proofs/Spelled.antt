-- What is written of a token spells it, and pieces that are written one after the other are cut as they were.
use Rattle.std.proofs.Common.{◌≡◌, ◌≢◌, ℕ, ◌≤◌, true, false, List, [], ◌∷◌, ◌++◌, length, get_or, refl, sym, arith, append_assoc, Result, Ok, Err}
use Rattle.fzn_lex.specs.declared.words.What.{What}
use Rattle.fzn_lex.specs.declared.words.What.TheVariants.{Name, Int, Float, Text, LeftParen, RightParen, LeftBracket, RightBracket, LeftBrace, RightBrace, Comma, Semicolon, Colon, DoubleColon, Equal, DotDot}
use Rattle.fzn_lex.specs.declared.tokens.Token.{Token}
use Rattle.fzn_lex.specs.declared.errors.LexError.{LexError}
use Rattle.fzn_lex.specs.declared.errors.LexError.TheVariants.{Memory}
use Rattle.fzn_lex.specs.Classes.{is_word, is_digit, is_letter, is_blank}
use Rattle.fzn_lex.specs.Tokens.{Spells}
use Rattle.fzn_lex.specs.Cutting.{Cutting, bytes_of, tokens_of, limit, IsLexed}
use Rattle.fzn_lex.proofs.OneAnswer.{one_answer}
use Rattle.fzn_lex.proofs.TightPieces.{NumberStops, AreTight, token_piece, blank_piece, tight_cut}
use Rattle.fzn_lex.specs.Kept.{IsKept}
use Rattle.fzn_print.specs.Spelling.{spelling_of}
use Rattle.fzn_print.proofs.Decimals.{integer_spelled}

pub token_spelled : (what : What) (text : List ℕ) → IsKept what text → Spells what (spelling_of what text)
token_spelled Name text h = h
token_spelled Float text h = h
token_spelled Text text h = h
token_spelled (Int z) text h = integer_spelled z h
token_spelled LeftParen text h = refl
token_spelled RightParen text h = refl
token_spelled LeftBracket text h = refl
token_spelled RightBracket text h = refl
token_spelled LeftBrace text h = refl
token_spelled RightBrace text h = refl
token_spelled Comma text h = refl
token_spelled Semicolon text h = refl
token_spelled Colon text h = refl
token_spelled DoubleColon text h = refl
token_spelled Equal text h = refl
token_spelled DotDot text h = refl

-- ---- what ends a name or a number

-- a byte that is no part of a word and no point ends each name and number before it
pub stops_at : (c : ℕ) (rest : List ℕ) → is_word c ≡ false → c ≢ 46 → NumberStops (c ∷ rest)
stops_at c rest word point = record { no_word = word; no_point = λ e. absurd (point e) }

point_word : is_word 46 ≡ false
unfolding is_word is_letter is_digit
point_word = refl

point_digit : is_digit 10 46 ≡ false
unfolding is_digit
point_digit = refl

-- two points do too
pub stops_at_dots : (rest : List ℕ) → NumberStops (46 ∷ 46 ∷ rest)
stops_at_dots rest = record { no_word = point_word; no_point = λ _. point_digit }

-- ---- single pieces

-- a token as it is written
abbrev pub written : What → List ℕ → Cutting
written what text = token_piece what (spelling_of what text)

-- what may stand behind a token
abbrev pub TokenStops : What → List ℕ → Type 0
TokenStops Name rest = is_word (get_or rest 0 0) ≡ false
TokenStops (Int z) rest = NumberStops rest
TokenStops Float rest = NumberStops rest
TokenStops Colon rest = get_or rest 0 0 ≢ 58
TokenStops _ rest = Unit {0}

pub tight_token : (what : What) (text : List ℕ) (ps : List Cutting) (rest : List ℕ) → IsKept what text → TokenStops what (bytes_of ps ++ rest) → AreTight ps rest → AreTight (written what text ∷ ps) rest
tight_token Name text ps rest h stop more = (h, tt, stop, more)
tight_token Float text ps rest h stop more = (h, tt, stop, more)
tight_token Text text ps rest h stop more = (h, tt, stop, more)
tight_token (Int z) text ps rest h stop more = (integer_spelled z h, h, stop, more)
tight_token LeftParen text ps rest h stop more = (refl, tt, stop, more)
tight_token RightParen text ps rest h stop more = (refl, tt, stop, more)
tight_token LeftBracket text ps rest h stop more = (refl, tt, stop, more)
tight_token RightBracket text ps rest h stop more = (refl, tt, stop, more)
tight_token LeftBrace text ps rest h stop more = (refl, tt, stop, more)
tight_token RightBrace text ps rest h stop more = (refl, tt, stop, more)
tight_token Comma text ps rest h stop more = (refl, tt, stop, more)
tight_token Semicolon text ps rest h stop more = (refl, tt, stop, more)
tight_token Colon text ps rest h stop more = (refl, tt, stop, more)
tight_token DoubleColon text ps rest h stop more = (refl, tt, stop, more)
tight_token Equal text ps rest h stop more = (refl, tt, stop, more)
tight_token DotDot text ps rest h stop more = (refl, tt, stop, more)

pub tight_blank : (b : ℕ) (ps : List Cutting) (rest : List ℕ) → is_blank b ≡ true → AreTight ps rest → AreTight (blank_piece b ∷ ps) rest
tight_blank b ps rest h more = ((b, refl, h), tt, tt, more)
