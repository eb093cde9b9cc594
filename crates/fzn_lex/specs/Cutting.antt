-- A text cut into its longest pieces, and what the lexer answers for it.
use Rattle.std.specs.Prelude.{◌≡◌, ◌≢◌, ℕ, ℤ, ◌+◌, ◌-◌, ◌<◌, ◌≤◌, List, [], ◌∷◌, ◌++◌, length, take, drop, Result, Ok, Err}
use Rattle.fzn_lex.specs.declared.words.What.TheVariants.{Int}
use Rattle.fzn_lex.specs.declared.pieces.Sort.{Sort}
use Rattle.fzn_lex.specs.declared.pieces.Sort.TheVariants.{Word}
use Rattle.fzn_lex.specs.declared.pieces.Fault.{Fault}
use Rattle.fzn_lex.specs.declared.pieces.Fault.TheVariants as faults
use Rattle.fzn_lex.specs.declared.tokens.Token.{Token}
use Rattle.fzn_lex.specs.declared.errors.LexError.{LexError}
use Rattle.fzn_lex.specs.declared.errors.LexError.TheVariants.{TooLong, BadByte, BadNumber, OpenString, Memory}
use Rattle.fzn_lex.specs.Tokens.{Spells, IsSpelled, IsSmall}

-- a piece that no other spelling at its place is longer than; rest is what follows it
pub record IsLongest (sort : Sort) (text rest : List ℕ) : Type 0 where
  pub spelled : IsSpelled sort text
  pub longest : (s : Sort) (t r : List ℕ) → IsSpelled s t → t ++ r ≡ text ++ rest → length t ≤ length text

-- no piece begins here
abbrev pub BeginsNone : List ℕ → Type 0
BeginsNone bs = (s : Sort) (t r : List ℕ) → IsSpelled s t → t ++ r ≡ bs → ⊥

-- an integer is small; all else is fine
abbrev pub IsFine : Sort → Type 0
IsFine (Word (Int z)) = IsSmall z
IsFine _ = Unit {0}

-- the longest piece here is an integer that is not small
pub record IsHuge (bs : List ℕ) : Type 0 where
  pub value : ℤ
  pub text : List ℕ
  pub rest : List ℕ
  pub parts : bs ≡ text ++ rest
  pub longest : IsLongest (Word (Int value)) text rest
  pub wrong : IsSmall value → ⊥

-- why the text can't be cut further at the head of these bytes
abbrev pub IsFault : Fault → List ℕ → Type 0
IsFault faults.BadByte bs = (b : ℕ) × (rest : List ℕ) × (bs ≡ b ∷ rest) × (b ≢ 34) × BeginsNone bs
IsFault faults.BadNumber bs = IsHuge bs
IsFault faults.OpenString bs = (rest : List ℕ) × (bs ≡ 34 ∷ rest) × BeginsNone bs

-- a piece and its bytes
pub record Cutting : Type 0 where
  pub sort : Sort
  pub text : List ℕ

-- the bytes of all pieces
abbrev pub bytes_of : List Cutting → List ℕ
bytes_of [] = []
bytes_of (p ∷ ps) = p.text ++ bytes_of ps

-- each piece is the longest at its place, with the bytes of the rest behind the last
abbrev pub IsCut : List Cutting → List ℕ → Type 0
IsCut [] rest = Unit {0}
IsCut (p ∷ ps) rest = IsLongest p.sort p.text (bytes_of ps ++ rest) × IsFine p.sort × IsCut ps rest

-- a piece that is a token, from a place on
abbrev pub told : ℕ → ℕ → Sort → List Token
told start end (Word what) = record { start = start; end = end; what = what } ∷ []
told start end _ = []

-- the tokens among the pieces, the first of which stands at the place
abbrev pub tokens_of : ℕ → List Cutting → List Token
tokens_of at [] = []
tokens_of at (p ∷ ps) = told at (at + length p.text) p.sort ++ tokens_of (at + length p.text) ps

-- the bytes up to this place are cut, and here they can't be cut further
pub record FailsAt (fault : Fault) (text : List ℕ) (at : ℕ) : Type 0 where
  pub pieces : List Cutting
  pub rest : List ℕ
  pub parts : text ≡ bytes_of pieces ++ rest
  pub place : at ≡ length (bytes_of pieces)
  pub cut : IsCut pieces rest
  pub fault_at : IsFault fault rest

-- the whole text is cut, and these are its tokens
pub record IsWhole (text : List ℕ) (tokens : List Token) : Type 0 where
  pub pieces : List Cutting
  pub parts : text ≡ bytes_of pieces
  pub cut : IsCut pieces []
  pub are : tokens ≡ tokens_of 0 pieces

-- a text of at most 16,777,216 bytes
abbrev pub limit : ℕ
limit = 16777216

-- the answer for a text
abbrev pub IsLexed : List ℕ → Result (List Token) LexError → Type 0
IsLexed text (Ok tokens) = (length text ≤ limit) × IsWhole text tokens
IsLexed text (Err TooLong) = limit < length text
IsLexed text (Err (BadByte at)) = (length text ≤ limit) × FailsAt faults.BadByte text at
IsLexed text (Err (BadNumber at)) = (length text ≤ limit) × FailsAt faults.BadNumber text at
IsLexed text (Err (OpenString at)) = (length text ≤ limit) × FailsAt faults.OpenString text at
IsLexed text (Err Memory) = Unit {0}

-- tokens in their order, from a place on: each has bytes, lies in the text and spells what it is
abbrev pub AreTokens : List ℕ → ℕ → List Token → Type 0
AreTokens text from [] = Unit {0}
AreTokens text from (t ∷ ts) =
    (from ≤ t.start) × (t.start < t.end) × (t.end ≤ length text)
    × Spells t.what (take (t.end - t.start) (drop t.start text))
    × AreTokens text t.end ts

-- one text has one answer, want of memory aside
abbrev pub HasOneAnswer : Type 0
HasOneAnswer =
    (text : List ℕ) (one other : Result (List Token) LexError) → IsLexed text one → IsLexed text other
    → (one ≡ Err Memory → ⊥) → (other ≡ Err Memory → ⊥) → one ≡ other

-- a result, its value seen by f
abbrev pub seen : {X Y E : Type 0} → (X → Y) → Result X E → Result Y E
seen f (Ok x) = Ok (f x)
seen f (Err e) = Err e

-- the fault, told with its place
abbrev pub error_of : Fault → ℕ → LexError
error_of faults.BadByte at = BadByte at
error_of faults.BadNumber at = BadNumber at
error_of faults.OpenString at = OpenString at
