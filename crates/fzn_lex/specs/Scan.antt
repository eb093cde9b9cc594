-- The piece at the head of bytes, found from left to right. The contract of the lexer names none of this.
use Rattle.std.specs.Prelude.{◌≡◌, ℕ, ◌+◌, Bool, true, false, ◌&&◌, ◌||◌, ◌==◌, if◌then◌else◌, List, [], ◌∷◌, length, take, drop, Option, Some, None, Result, Ok, Err, get_or}
use Rattle.std.specs.List.{prefix_len}
use Rattle.fzn_lex.specs.declared.words.What.TheVariants.{Name, Int, Float, Text, LeftParen, RightParen, LeftBracket, RightBracket, LeftBrace, RightBrace, Comma, Semicolon, Colon, DoubleColon, Equal, DotDot}
use Rattle.fzn_lex.specs.declared.pieces.Sort.{Sort}
use Rattle.fzn_lex.specs.declared.pieces.Sort.TheVariants.{Blank, Comment, Word}
use Rattle.fzn_lex.specs.declared.pieces.Piece.{Piece}
use Rattle.fzn_lex.specs.declared.pieces.Fault.{Fault}
use Rattle.fzn_lex.specs.declared.pieces.Fault.TheVariants.{BadByte, BadNumber, OpenString}
use Rattle.fzn_lex.specs.Classes.{is_letter, is_word, is_digit, is_blank, is_inline, value_after}
use Rattle.fzn_lex.specs.Tokens.{minus, signed}
use Rattle.fzn_lex.specs.Cutting.{IsFine}

-- a piece by its kind and length
abbrev pub piece : Sort → ℕ → Piece
piece sort len = record { sort = sort; len = len }

-- 0, the letter and a digit of the base stand at the head
unfoldable pub has_prefix : ℕ → ℕ → List ℕ → Bool
has_prefix letter base bs = get_or bs 0 0 == 48 && get_or bs 1 0 == letter && is_digit base (get_or bs 2 0)

-- the length of the point and its digits at the head
unfoldable pub fraction_len : List ℕ → ℕ
fraction_len bs = if get_or bs 0 0 == 46 && is_digit 10 (get_or bs 1 0) then 1 + prefix_len (is_digit 10) (drop 1 bs) else 0

-- the length of the sign at the head
unfoldable pub sign_len : List ℕ → ℕ
sign_len bs = if get_or bs 0 0 == 43 || get_or bs 0 0 == 45 then 1 else 0

-- the length of the digits at the head, and of what stands before them
abbrev pub counted : ℕ → List ℕ → ℕ
counted before bs = if is_digit 10 (get_or bs 0 0) then before + prefix_len (is_digit 10) bs else 0

-- the length of the exponent at the head
unfoldable pub exponent_len : List ℕ → ℕ
exponent_len bs = if get_or bs 0 0 == 101 || get_or bs 0 0 == 69 then counted (1 + sign_len (drop 1 bs)) (drop (1 + sign_len (drop 1 bs)) bs) else 0

-- the length of what makes a float of the digits before it
unfoldable pub tail_len : List ℕ → ℕ
tail_len bs = fraction_len bs + exponent_len (drop (fraction_len bs) bs)

-- a number without a sign: its size where it is an integer, and its length
pub record Numeral : Type 0 where
  pub size : Option ℕ
  pub len : ℕ

-- an integer by its digits
abbrev pub integer_of : ℕ → List ℕ → ℕ → Numeral
integer_of base ds len = record { size = Some (value_after base 0 ds); len = len }

-- the digits of the base behind the prefix
unfoldable pub prefixed_of : ℕ → List ℕ → Numeral
prefixed_of base bs = let n = prefix_len (is_digit base) (drop 2 bs) in integer_of base (take n (drop 2 bs)) (2 + n)

-- decimal digits, and with a tail a float
unfoldable pub decimal_of : List ℕ → Numeral
decimal_of bs =
    let n = prefix_len (is_digit 10) bs in
    let tail = tail_len (drop n bs) in
    if tail == 0 then integer_of 10 (take n bs) n else record { size = None; len = n + tail }

-- the number at the head
unfoldable pub numeral_of : List ℕ → Numeral
numeral_of bs = if has_prefix 120 16 bs then prefixed_of 16 bs else if has_prefix 111 8 bs then prefixed_of 8 bs else decimal_of bs

-- an integer with its sign, or a float
abbrev pub number_sort : Bool → Option ℕ → Sort
number_sort negative (Some n) = Word (Int (signed negative n))
number_sort negative None = Word Float

-- a number as a piece
abbrev pub number_piece : Bool → Numeral → Piece
number_piece negative u = piece (number_sort negative u.size) (length (minus negative) + u.len)

-- the number behind a minus
unfoldable pub negative_of : List ℕ → Option Piece
negative_of bs = if is_digit 10 (get_or bs 0 0) then Some (number_piece true (numeral_of bs)) else None

-- one more, where there is one
abbrev pub more : ℕ → Option ℕ → Option ℕ
more n (Some m) = Some (n + m)
more n None = None

-- the bytes up to the closing quote and with it, where it comes on this line
abbrev pub inside_len : Bool → List ℕ → Option ℕ
inside_len escaped [] = None
inside_len escaped (b ∷ bs) =
    if b == 10 then None
    else if escaped then more 1 (inside_len false bs)
    else if b == 34 then Some 1
    else more 1 (inside_len (b == 92) bs)

-- the text in quotes, by its length behind the first
abbrev pub text_piece : Option ℕ → Option Piece
text_piece (Some n) = Some (piece (Word Text) (1 + n))
text_piece None = None

-- the symbol of one byte
unfoldable pub single_of : ℕ → Option Piece
single_of b =
    if b == 40 then Some (piece (Word LeftParen) 1)
    else if b == 41 then Some (piece (Word RightParen) 1)
    else if b == 91 then Some (piece (Word LeftBracket) 1)
    else if b == 93 then Some (piece (Word RightBracket) 1)
    else if b == 123 then Some (piece (Word LeftBrace) 1)
    else if b == 125 then Some (piece (Word RightBrace) 1)
    else if b == 44 then Some (piece (Word Comma) 1)
    else if b == 59 then Some (piece (Word Semicolon) 1)
    else if b == 61 then Some (piece (Word Equal) 1)
    else None

-- the symbol at these two bytes
unfoldable pub symbol_of : ℕ → ℕ → Option Piece
symbol_of b c =
    if b == 58 then (if c == 58 then Some (piece (Word DoubleColon) 2) else Some (piece (Word Colon) 1))
    else if b == 46 then (if c == 46 then Some (piece (Word DotDot) 2) else None)
    else single_of b

-- the piece that this byte begins, if it is no letter and no digit
unfoldable pub other_of : ℕ → List ℕ → Option Piece
other_of b bs =
    if b == 45 then negative_of bs
    else if b == 34 then text_piece (inside_len false bs)
    else if b == 37 then Some (piece Comment (1 + prefix_len is_inline bs))
    else if is_blank b then Some (piece Blank 1)
    else symbol_of b (get_or bs 0 0)

-- the piece at the head
unfoldable pub first_of : List ℕ → Option Piece
first_of [] = None
first_of (b ∷ bs) =
    if is_letter b then Some (piece (Word Name) (1 + prefix_len is_word bs))
    else if is_digit 10 b then Some (number_piece false (numeral_of (b ∷ bs)))
    else other_of b bs

-- the piece is taken where it is fine, and else a bad number
abbrev pub Judges : Piece → Result Piece Fault → Type 0
Judges p (Ok q) = (q ≡ p) × IsFine p.sort
Judges p (Err f) = (f ≡ BadNumber) × (IsFine p.sort → ⊥)

-- the answer at a place that begins with this byte
abbrev pub Answers : ℕ → Option Piece → Result Piece Fault → Type 0
Answers b (Some p) result = Judges p result
Answers b None result = result ≡ Err (if b == 34 then OpenString else BadByte)
