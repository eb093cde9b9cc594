-- Each token of a cut text is spelled by its bytes, and its integer is small.
use Rattle.std.proofs.Common.{ℕ, ◌+◌, ◌-◌, List, [], ◌∷◌, ◌++◌, length, take, drop, sym, subst}
use Rattle.std.specs.List.{AllByRecursion}
use Rattle.fzn_lex.specs.declared.words.What.{What}
use Rattle.fzn_lex.specs.declared.words.What.TheVariants.{Name, Int, Float, Text, LeftParen, RightParen, LeftBracket, RightBracket, LeftBrace, RightBrace, Comma, Semicolon, Colon, DoubleColon, Equal, DotDot}
use Rattle.fzn_lex.specs.declared.pieces.Sort.{Sort}
use Rattle.fzn_lex.specs.declared.pieces.Sort.TheVariants.{Blank, Comment, Word}
use Rattle.fzn_lex.specs.declared.tokens.Token.{Token}
use Rattle.fzn_lex.specs.Tokens.{Spells, IsSmall}
use Rattle.fzn_lex.specs.Cutting.{IsFine, Cutting, IsCut, told, tokens_of, IsWhole, AreTokens}
use Rattle.fzn_lex.proofs.Fronts.{whole_tokens}

-- an integer is small
abbrev pub IsSmallToken : What → Type 0
IsSmallToken (Int z) = IsSmall z
IsSmallToken _ = Unit {0}

-- the bytes of the token spell it, and its integer is small
abbrev pub IsKeptToken : List ℕ → Token → Type 0
IsKeptToken text t = Spells t.what (take (t.end - t.start) (drop t.start text)) × IsSmallToken t.what

abbrev Small : Token → Type 0
Small t = IsSmallToken t.what

fine_token : (w : What) → IsFine (Word w) → IsSmallToken w
fine_token (Int z) h = h
fine_token Name h = tt
fine_token Float h = tt
fine_token Text h = tt
fine_token LeftParen h = tt
fine_token RightParen h = tt
fine_token LeftBracket h = tt
fine_token RightBracket h = tt
fine_token LeftBrace h = tt
fine_token RightBrace h = tt
fine_token Comma h = tt
fine_token Semicolon h = tt
fine_token Colon h = tt
fine_token DoubleColon h = tt
fine_token Equal h = tt
fine_token DotDot h = tt

small_told : (start end : ℕ) (s : Sort) (ts : List Token) → IsFine s → AllByRecursion Small ts → AllByRecursion Small (told start end s ++ ts)
small_told start end Blank ts h more = more
small_told start end Comment ts h more = more
small_told start end (Word w) ts h more = (fine_token w h, more)

small_tokens : (at : ℕ) (ps : List Cutting) (rest : List ℕ) → IsCut ps rest → AllByRecursion Small (tokens_of at ps)
small_tokens at [] rest h = tt
small_tokens at (p ∷ ps) rest (l, f, h) = small_told at (at + length p.text) p.sort (tokens_of (at + length p.text) ps) f (small_tokens (at + length p.text) ps rest h)

both : (text : List ℕ) (from : ℕ) (ts : List Token) → AreTokens text from ts → AllByRecursion Small ts → AllByRecursion (IsKeptToken text) ts
both text from [] h k = tt
both text from (t ∷ ts) (l, some, fits, spelled, more) (small, k) = ((spelled, small), both text t.end ts more k)

-- the tokens of a whole text
pub whole_kept : (text : List ℕ) (tokens : List Token) → IsWhole text tokens → AllByRecursion (IsKeptToken text) tokens
whole_kept text tokens w = both text 0 tokens (whole_tokens text tokens w) (subst (AllByRecursion Small) (sym w.are) (small_tokens 0 w.pieces [] w.cut))
