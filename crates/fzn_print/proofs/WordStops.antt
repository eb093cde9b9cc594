-- What ends the words before it, by the kind of a word.
use Rattle.std.proofs.Common.{◌≡◌, ◌≢◌, ℕ, ◌+◌, ◌≤◌, ◌<◌, Bool, true, false, cond, List, [], ◌∷◌, ◌++◌, refl, ◌⊎◌, inl, inr, arith, codes}
use Rattle.std.specs.Str.{bytes_eq}
use Rattle.std.proofs.lemmas.Bool.{cond_both}
use Rattle.fzn_lex.specs.declared.words.What.{What}
use Rattle.fzn_lex.specs.declared.words.What.TheVariants as what
use Rattle.fzn_lex.specs.Classes.{is_word, is_letter, is_digit}
use Rattle.fzn_lex.proofs.TightPieces.{NumberStops}
use Rattle.fzn_print.specs.Spelling.{spelling_of}
use Rattle.fzn_print.proofs.Spelled.{TokenStops, stops_at, stops_at_dots}
use Rattle.fzn_words.specs.Words.{code, name_terminal, terminal_by}
use Rattle.fzn_print.proofs.Codes.{colon_code}

-- a name is of the first kind, or a reserved word
name_range : (text : List ℕ) → (code (name_terminal text) ≡ 0) ⊎ (16 ≤ code (name_terminal text))
name_range text =
    cond_both (bytes_eq text (codes "array")) _ _ (λ k. (code k ≡ 0) ⊎ (16 ≤ code k)) (λ _. inr (omega arith)) (λ _.
    cond_both (bytes_eq text (codes "bool")) _ _ (λ k. (code k ≡ 0) ⊎ (16 ≤ code k)) (λ _. inr (omega arith)) (λ _.
    cond_both (bytes_eq text (codes "false")) _ _ (λ k. (code k ≡ 0) ⊎ (16 ≤ code k)) (λ _. inr (omega arith)) (λ _.
    cond_both (bytes_eq text (codes "float")) _ _ (λ k. (code k ≡ 0) ⊎ (16 ≤ code k)) (λ _. inr (omega arith)) (λ _.
    cond_both (bytes_eq text (codes "int")) _ _ (λ k. (code k ≡ 0) ⊎ (16 ≤ code k)) (λ _. inr (omega arith)) (λ _.
    cond_both (bytes_eq text (codes "of")) _ _ (λ k. (code k ≡ 0) ⊎ (16 ≤ code k)) (λ _. inr (omega arith)) (λ _.
    cond_both (bytes_eq text (codes "set")) _ _ (λ k. (code k ≡ 0) ⊎ (16 ≤ code k)) (λ _. inr (omega arith)) (λ _.
    cond_both (bytes_eq text (codes "true")) _ _ (λ k. (code k ≡ 0) ⊎ (16 ≤ code k)) (λ _. inr (omega arith)) (λ _.
    cond_both (bytes_eq text (codes "var")) _ _ (λ k. (code k ≡ 0) ⊎ (16 ≤ code k)) (λ _. inr (omega arith)) (λ _.
    cond_both (bytes_eq text (codes "constraint")) _ _ (λ k. (code k ≡ 0) ⊎ (16 ≤ code k)) (λ _. inr (omega arith)) (λ _.
    cond_both (bytes_eq text (codes "maximize")) _ _ (λ k. (code k ≡ 0) ⊎ (16 ≤ code k)) (λ _. inr (omega arith)) (λ _.
    cond_both (bytes_eq text (codes "minimize")) _ _ (λ k. (code k ≡ 0) ⊎ (16 ≤ code k)) (λ _. inr (omega arith)) (λ _.
    cond_both (bytes_eq text (codes "predicate")) _ _ (λ k. (code k ≡ 0) ⊎ (16 ≤ code k)) (λ _. inr (omega arith)) (λ _.
    cond_both (bytes_eq text (codes "satisfy")) _ _ (λ k. (code k ≡ 0) ⊎ (16 ≤ code k)) (λ _. inr (omega arith)) (λ _.
    cond_both (bytes_eq text (codes "solve")) _ _ (λ k. (code k ≡ 0) ⊎ (16 ≤ code k)) (λ _. inr (omega arith)) (λ _.
    inl refl)))))))))))))))

byte_40 : is_word 40 ≡ false
unfolding is_word is_letter is_digit
byte_40 = refl

byte_41 : is_word 41 ≡ false
unfolding is_word is_letter is_digit
byte_41 = refl

byte_91 : is_word 91 ≡ false
unfolding is_word is_letter is_digit
byte_91 = refl

byte_93 : is_word 93 ≡ false
unfolding is_word is_letter is_digit
byte_93 = refl

byte_123 : is_word 123 ≡ false
unfolding is_word is_letter is_digit
byte_123 = refl

byte_125 : is_word 125 ≡ false
unfolding is_word is_letter is_digit
byte_125 = refl

byte_44 : is_word 44 ≡ false
unfolding is_word is_letter is_digit
byte_44 = refl

byte_59 : is_word 59 ≡ false
unfolding is_word is_letter is_digit
byte_59 = refl

byte_58 : is_word 58 ≡ false
unfolding is_word is_letter is_digit
byte_58 = refl

byte_61 : is_word 61 ≡ false
unfolding is_word is_letter is_digit
byte_61 = refl

named_apart : (text : List ℕ) → 4 ≤ code (name_terminal text) → code (name_terminal text) ≤ 15 → ⊥
named_apart text low high = elim (name_range text) [ inl e ↦ omega arith | inr e ↦ omega arith ]

-- a symbol ends what stands before it
pub symbol_stops : (w : What) (text rest : List ℕ) → 4 ≤ code (terminal_by w text) → code (terminal_by w text) ≤ 15 → NumberStops (spelling_of w text ++ rest)
unfolding terminal_by
symbol_stops what.Name text rest low high = absurd (named_apart text low high)
symbol_stops (what.Int z) text rest low high = absurd (omega arith)
symbol_stops what.Float text rest low high = absurd (omega arith)
symbol_stops what.Text text rest low high = absurd (omega arith)
symbol_stops what.LeftParen text rest low high = stops_at 40 _ byte_40 (λ e. omega arith)
symbol_stops what.RightParen text rest low high = stops_at 41 _ byte_41 (λ e. omega arith)
symbol_stops what.LeftBracket text rest low high = stops_at 91 _ byte_91 (λ e. omega arith)
symbol_stops what.RightBracket text rest low high = stops_at 93 _ byte_93 (λ e. omega arith)
symbol_stops what.LeftBrace text rest low high = stops_at 123 _ byte_123 (λ e. omega arith)
symbol_stops what.RightBrace text rest low high = stops_at 125 _ byte_125 (λ e. omega arith)
symbol_stops what.Comma text rest low high = stops_at 44 _ byte_44 (λ e. omega arith)
symbol_stops what.Semicolon text rest low high = stops_at 59 _ byte_59 (λ e. omega arith)
symbol_stops what.Colon text rest low high = stops_at 58 _ byte_58 (λ e. omega arith)
symbol_stops what.DoubleColon text rest low high = stops_at 58 _ byte_58 (λ e. omega arith)
symbol_stops what.Equal text rest low high = stops_at 61 _ byte_61 (λ e. omega arith)
symbol_stops what.DotDot text rest low high = stops_at_dots rest

-- what ends a number ends each word that is no colon
pub any_stops : (w : What) (text rest : List ℕ) → code (terminal_by w text) ≢ colon_code → NumberStops rest → TokenStops w rest
unfolding terminal_by
any_stops what.Name text rest other h = h.no_word
any_stops (what.Int z) text rest other h = h
any_stops what.Float text rest other h = h
any_stops what.Text text rest other h = tt
any_stops what.Colon text rest other h = absurd (other refl)
any_stops what.LeftParen text rest other h = tt
any_stops what.RightParen text rest other h = tt
any_stops what.LeftBracket text rest other h = tt
any_stops what.RightBracket text rest other h = tt
any_stops what.LeftBrace text rest other h = tt
any_stops what.RightBrace text rest other h = tt
any_stops what.Comma text rest other h = tt
any_stops what.Semicolon text rest other h = tt
any_stops what.DoubleColon text rest other h = tt
any_stops what.Equal text rest other h = tt
any_stops what.DotDot text rest other h = tt

-- a symbol that is no colon goes on into nothing
pub symbol_free : (w : What) (text rest : List ℕ) → 4 ≤ code (terminal_by w text) → code (terminal_by w text) ≤ 15 → code (terminal_by w text) ≢ colon_code → TokenStops w rest
unfolding terminal_by
symbol_free what.Name text rest low high other = absurd (named_apart text low high)
symbol_free (what.Int z) text rest low high other = absurd (omega arith)
symbol_free what.Float text rest low high other = absurd (omega arith)
symbol_free what.Text text rest low high other = tt
symbol_free what.Colon text rest low high other = absurd (other refl)
symbol_free what.LeftParen text rest low high other = tt
symbol_free what.RightParen text rest low high other = tt
symbol_free what.LeftBracket text rest low high other = tt
symbol_free what.RightBracket text rest low high other = tt
symbol_free what.LeftBrace text rest low high other = tt
symbol_free what.RightBrace text rest low high other = tt
symbol_free what.Comma text rest low high other = tt
symbol_free what.Semicolon text rest low high other = tt
symbol_free what.DoubleColon text rest low high other = tt
symbol_free what.Equal text rest low high other = tt
symbol_free what.DotDot text rest low high other = tt

-- each word ends at a space, and at a closing parenthesis
byte_32 : is_word 32 ≡ false
unfolding is_word is_letter is_digit
byte_32 = refl

pub space_stops : (w : What) (rest : List ℕ) → TokenStops w (32 ∷ rest)
space_stops what.Name rest = byte_32
space_stops (what.Int z) rest = stops_at 32 rest byte_32 (λ e. omega arith)
space_stops what.Float rest = stops_at 32 rest byte_32 (λ e. omega arith)
space_stops what.Colon rest = λ e. omega arith
space_stops what.Text rest = tt
space_stops what.LeftParen rest = tt
space_stops what.RightParen rest = tt
space_stops what.LeftBracket rest = tt
space_stops what.RightBracket rest = tt
space_stops what.LeftBrace rest = tt
space_stops what.RightBrace rest = tt
space_stops what.Comma rest = tt
space_stops what.Semicolon rest = tt
space_stops what.DoubleColon rest = tt
space_stops what.Equal rest = tt
space_stops what.DotDot rest = tt

paren_stops : (w : What) (rest : List ℕ) → TokenStops w (41 ∷ rest)
paren_stops what.Name rest = byte_41
paren_stops (what.Int z) rest = stops_at 41 rest byte_41 (λ e. omega arith)
paren_stops what.Float rest = stops_at 41 rest byte_41 (λ e. omega arith)
paren_stops what.Colon rest = λ e. omega arith
paren_stops what.Text rest = tt
paren_stops what.LeftParen rest = tt
paren_stops what.RightParen rest = tt
paren_stops what.LeftBracket rest = tt
paren_stops what.RightBracket rest = tt
paren_stops what.LeftBrace rest = tt
paren_stops what.RightBrace rest = tt
paren_stops what.Comma rest = tt
paren_stops what.Semicolon rest = tt
paren_stops what.DoubleColon rest = tt
paren_stops what.Equal rest = tt
paren_stops what.DotDot rest = tt

right_paren : (v : What) (text : List ℕ) → code (terminal_by v text) ≡ 5 → v ≡ what.RightParen
unfolding terminal_by
right_paren what.Name text e = absurd (named_apart text (omega arith) (omega arith))
right_paren (what.Int z) text e = absurd (omega arith)
right_paren what.RightParen text e = refl
right_paren what.Float text e = absurd (omega arith)
right_paren what.Text text e = absurd (omega arith)
right_paren what.LeftParen text e = absurd (omega arith)
right_paren what.LeftBracket text e = absurd (omega arith)
right_paren what.RightBracket text e = absurd (omega arith)
right_paren what.LeftBrace text e = absurd (omega arith)
right_paren what.RightBrace text e = absurd (omega arith)
right_paren what.Comma text e = absurd (omega arith)
right_paren what.Semicolon text e = absurd (omega arith)
right_paren what.Colon text e = absurd (omega arith)
right_paren what.DoubleColon text e = absurd (omega arith)
right_paren what.Equal text e = absurd (omega arith)
right_paren what.DotDot text e = absurd (omega arith)

pub closing_stops : (w v : What) (text rest : List ℕ) → code (terminal_by v text) ≡ 5 → TokenStops w (spelling_of v text ++ rest)
closing_stops w v text rest e = rw (right_paren v text e) (paren_stops w rest)
