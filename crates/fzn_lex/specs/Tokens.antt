-- How each piece of a text is spelled.
use Rattle.std.specs.Prelude.{◌≡◌, ℕ, ◌^◌, ◌<◌, ℤ, pos, neg_ℤ, ◌≤ℤ◌, Bool, true, false, List, [], ◌∷◌, ◌++◌, length, ◌⊎◌}
use Rattle.fzn_lex.specs.declared.words.What.{What}
use Rattle.fzn_lex.specs.declared.words.What.TheVariants.{Name, Int, Float, Text, LeftParen, RightParen, LeftBracket, RightBracket, LeftBrace, RightBrace, Comma, Semicolon, Colon, DoubleColon, Equal, DotDot}
use Rattle.fzn_lex.specs.declared.pieces.Sort.{Sort}
use Rattle.fzn_lex.specs.declared.pieces.Sort.TheVariants.{Blank, Comment, Word}
use Rattle.fzn_lex.specs.Classes.{Are, is_letter, is_word, is_digit, is_blank, is_inline, is_plain, value_after}

-- digits of a base, one or more
pub record IsDigits (base : ℕ) (ds : List ℕ) : Type 0 where
  pub some : 0 < length ds
  pub digits : Are (is_digit base) ds

-- a number without a sign: decimal, behind 0x hexadecimal, behind 0o octal
abbrev pub IsMagnitude : List ℕ → ℕ → Type 0
IsMagnitude p n =
    (IsDigits 10 p × (n ≡ value_after 10 0 p))
    ⊎ (((ds : List ℕ) × (p ≡ 48 ∷ 120 ∷ ds) × IsDigits 16 ds × (n ≡ value_after 16 0 ds))
    ⊎ ((ds : List ℕ) × (p ≡ 48 ∷ 111 ∷ ds) × IsDigits 8 ds × (n ≡ value_after 8 0 ds)))

-- nothing, a plus or a minus
abbrev pub IsSign : List ℕ → Type 0
IsSign p = (p ≡ []) ⊎ ((p ≡ 43 ∷ []) ⊎ (p ≡ 45 ∷ []))

-- e or E, a sign that may be left out, and digits
pub record IsExponent (p : List ℕ) : Type 0 where
  pub mark : ℕ
  pub sign : List ℕ
  pub ds : List ℕ
  pub parts : p ≡ mark ∷ (sign ++ ds)
  pub is_mark : (mark ≡ 101) ⊎ (mark ≡ 69)
  pub is_sign : IsSign sign
  pub digits : IsDigits 10 ds

-- what makes a float of digits: a point with digits, an exponent, or both
abbrev pub IsTail : List ℕ → Type 0
IsTail p =
    ((fs : List ℕ) × (ex : List ℕ) × (p ≡ 46 ∷ (fs ++ ex)) × IsDigits 10 fs × ((ex ≡ []) ⊎ IsExponent ex))
    ⊎ IsExponent p

-- a float without a sign
pub record IsFraction (p : List ℕ) : Type 0 where
  pub ds : List ℕ
  pub tail : List ℕ
  pub parts : p ≡ ds ++ tail
  pub digits : IsDigits 10 ds
  pub is_tail : IsTail tail

-- what may stand between quotes: a backslash takes the next byte along, and no newline stands there
pub data IsInside : List ℕ → Type 0 where
  nothing : IsInside []
  plain : {b : ℕ} {bs : List ℕ} → is_plain b ≡ true → IsInside bs → IsInside (b ∷ bs)
  escaped : {b c : ℕ} {bs : List ℕ} → b ≡ 92 → is_inline c ≡ true → IsInside bs → IsInside (b ∷ c ∷ bs)

-- a minus where the number is negative
abbrev pub minus : Bool → List ℕ
minus true = 45 ∷ []
minus false = []

-- the number with its sign
abbrev pub signed : Bool → ℕ → ℤ
signed true n = neg_ℤ (pos n)
signed false n = pos n

-- an integer by its sign and its magnitude
pub record IsInteger (z : ℤ) (p : List ℕ) : Type 0 where
  pub negative : Bool
  pub size : ℕ
  pub rest : List ℕ
  pub parts : p ≡ minus negative ++ rest
  pub magnitude : IsMagnitude rest size
  pub value : z ≡ signed negative size

-- the bytes of a token
abbrev pub Spells : What → List ℕ → Type 0
Spells Name p = (b : ℕ) × (bs : List ℕ) × (p ≡ b ∷ bs) × (is_letter b ≡ true) × Are is_word bs
Spells (Int z) p = IsInteger z p
Spells Float p = (negative : Bool) × (rest : List ℕ) × (p ≡ minus negative ++ rest) × IsFraction rest
Spells Text p = (bs : List ℕ) × (p ≡ 34 ∷ (bs ++ 34 ∷ [])) × IsInside bs
Spells LeftParen p = p ≡ 40 ∷ []
Spells RightParen p = p ≡ 41 ∷ []
Spells LeftBracket p = p ≡ 91 ∷ []
Spells RightBracket p = p ≡ 93 ∷ []
Spells LeftBrace p = p ≡ 123 ∷ []
Spells RightBrace p = p ≡ 125 ∷ []
Spells Comma p = p ≡ 44 ∷ []
Spells Semicolon p = p ≡ 59 ∷ []
Spells Colon p = p ≡ 58 ∷ []
Spells DoubleColon p = p ≡ 58 ∷ 58 ∷ []
Spells Equal p = p ≡ 61 ∷ []
Spells DotDot p = p ≡ 46 ∷ 46 ∷ []

-- the bytes of a piece: a comment is a percent sign and what follows on its line
abbrev pub IsSpelled : Sort → List ℕ → Type 0
IsSpelled Blank p = (b : ℕ) × (p ≡ b ∷ []) × (is_blank b ≡ true)
IsSpelled Comment p = (bs : List ℕ) × (p ≡ 37 ∷ bs) × Are is_inline bs
IsSpelled (Word what) p = Spells what p

-- from -2^62 to 2^62
pub record IsSmall (z : ℤ) : Type 0 where
  pub low : neg_ℤ (pos (2 ^ 62)) ≤ℤ z
  pub high : z ≤ℤ pos (2 ^ 62)
