-- The piece that is read at the head of bytes is spelled there, and each spelling there is within what is read.
use Rattle.std.proofs.Common.{◌≡◌, ℕ, suc, ◌+◌, ◌≤◌, Bool, true, false, cond, List, [], ◌∷◌, ◌++◌, length, take, get_or, refl, ap, arith, inl, inr, ◌⊎◌, append_assoc, Option, Some, None}
use Rattle.std.specs.Prelude.{◌==◌}
use Rattle.std.specs.List.{prefix_len}
use Rattle.std.proofs.lemmas.Bool.{cases_Bool, cond_both, eqb-true}
use Rattle.std.proofs.lemmas.List.{length-append}
use Rattle.std.proofs.lemmas.List.Sums.{prefix_len-le-length}
use Rattle.fzn_lex.specs.declared.words.What.{What}
use Rattle.fzn_lex.specs.declared.words.What.TheVariants.{Name, Int, Float, Text, LeftParen, RightParen, LeftBracket, RightBracket, LeftBrace, RightBrace, Comma, Semicolon, Colon, DoubleColon, Equal, DotDot}
use Rattle.fzn_lex.specs.declared.pieces.Sort.{Sort}
use Rattle.fzn_lex.specs.declared.pieces.Sort.TheVariants.{Blank, Comment, Word}
use Rattle.fzn_lex.specs.declared.pieces.Piece.{Piece}
use Rattle.fzn_lex.specs.Classes.{is_digit, is_letter, is_word, is_blank, is_inline}
use Rattle.fzn_lex.specs.Tokens.{IsSpelled, Spells, minus}
use Rattle.fzn_lex.specs.Scan.{piece, numeral_of, number_sort, number_piece, negative_of, inside_len, text_piece, single_of, symbol_of, other_of, first_of}
use Rattle.fzn_lex.proofs.ByteClasses.{digit_is_no_letter, blank_cases}
use Rattle.fzn_lex.proofs.Runs.{one_more, run_is, run_longest}
use Rattle.fzn_lex.proofs.Quotes.{Closes, inside_closes, inside_found}
use Rattle.fzn_lex.proofs.Numerals.{Reads, numeral_read, numeral_reaches, numeral_first}

-- ---- what is read is spelled

pub record IsHead (bs : List ℕ) (p : Piece) : Type 0 where
  pub spelled : IsSpelled p.sort (take p.len bs)
  pub fits : p.len ≤ length bs

abbrev pub Heads : List ℕ → Option Piece → Type 0
Heads bs None = Unit {0}
Heads bs (Some p) = IsHead bs p

one_byte : (b c : ℕ) → (b == c) ≡ true → b ∷ [] ≡ c ∷ []
one_byte b c e = ap (λ (x : ℕ). x ∷ []) (eqb-true b c e)

single_heads : (b : ℕ) (bs : List ℕ) → Heads (b ∷ bs) (single_of b)
unfolding single_of
single_heads b bs =
    let fits : 1 ≤ suc (length bs) = omega arith in
    cond_both (b == 40) _ _ (Heads (b ∷ bs)) (λ e. record { spelled = one_byte b 40 e; fits = fits }) (λ _.
    cond_both (b == 41) _ _ (Heads (b ∷ bs)) (λ e. record { spelled = one_byte b 41 e; fits = fits }) (λ _.
    cond_both (b == 91) _ _ (Heads (b ∷ bs)) (λ e. record { spelled = one_byte b 91 e; fits = fits }) (λ _.
    cond_both (b == 93) _ _ (Heads (b ∷ bs)) (λ e. record { spelled = one_byte b 93 e; fits = fits }) (λ _.
    cond_both (b == 123) _ _ (Heads (b ∷ bs)) (λ e. record { spelled = one_byte b 123 e; fits = fits }) (λ _.
    cond_both (b == 125) _ _ (Heads (b ∷ bs)) (λ e. record { spelled = one_byte b 125 e; fits = fits }) (λ _.
    cond_both (b == 44) _ _ (Heads (b ∷ bs)) (λ e. record { spelled = one_byte b 44 e; fits = fits }) (λ _.
    cond_both (b == 59) _ _ (Heads (b ∷ bs)) (λ e. record { spelled = one_byte b 59 e; fits = fits }) (λ _.
    cond_both (b == 61) _ _ (Heads (b ∷ bs)) (λ e. record { spelled = one_byte b 61 e; fits = fits }) (λ _. tt)))))))))

colon_heads : (b : ℕ) (bs : List ℕ) → b ≡ 58 → Heads (b ∷ bs) (cond (get_or bs 0 0 == 58) (Some (piece (Word DoubleColon) 2)) (Some (piece (Word Colon) 1)))
colon_heads b [] e = record { spelled = ap (λ (x : ℕ). x ∷ []) e; fits = omega arith }
colon_heads b (c ∷ bs) e = cond_both (c == 58) _ _ (Heads (b ∷ c ∷ bs))
    (λ d. record { spelled = rw (e, eqb-true c 58 d) refl; fits = omega arith })
    (λ _. record { spelled = ap (λ (x : ℕ). x ∷ []) e; fits = omega arith })

dots_heads : (b : ℕ) (bs : List ℕ) → b ≡ 46 → Heads (b ∷ bs) (cond (get_or bs 0 0 == 46) (Some (piece (Word DotDot) 2)) None)
dots_heads b [] e = tt
dots_heads b (c ∷ bs) e = cond_both (c == 46) _ _ (Heads (b ∷ c ∷ bs))
    (λ d. record { spelled = rw (e, eqb-true c 46 d) refl; fits = omega arith })
    (λ _. tt)

symbol_heads : (b : ℕ) (bs : List ℕ) → Heads (b ∷ bs) (symbol_of b (get_or bs 0 0))
unfolding symbol_of
symbol_heads b bs =
    cond_both (b == 58) _ _ (Heads (b ∷ bs)) (λ e. colon_heads b bs (eqb-true b 58 e)) (λ _.
    cond_both (b == 46) _ _ (Heads (b ∷ bs)) (λ e. dots_heads b bs (eqb-true b 46 e)) (λ _. single_heads b bs))

-- a number with its sign is spelled
number_spelled : (negative : Bool) (size : Option ℕ) (p : List ℕ) → Reads size p → IsSpelled (number_sort negative size) (minus negative ++ p)
number_spelled negative None p h = (negative, p, refl, h)
number_spelled negative (Some n) p h = record { negative = negative; size = n; rest = p; parts = refl; magnitude = h; value = refl }

plus_head : (bs : List ℕ) → is_digit 10 (get_or bs 0 0) ≡ true → IsHead bs (number_piece false (numeral_of bs))
plus_head bs first =
    let h = numeral_read bs first in
    let z : 0 + (numeral_of bs).len ≡ (numeral_of bs).len = omega arith in
    record { spelled = rw z (number_spelled false (numeral_of bs).size _ h.reads); fits = let f = h.fits in omega arith }

minus_head : (b : ℕ) (bs : List ℕ) → b ≡ 45 → is_digit 10 (get_or bs 0 0) ≡ true → IsHead (b ∷ bs) (number_piece true (numeral_of bs))
minus_head b bs e first =
    let h = numeral_read bs first in
    record { spelled = rw (one_more (numeral_of bs).len, e) (number_spelled true (numeral_of bs).size _ h.reads); fits = let f = h.fits in omega arith }

negative_heads : (b : ℕ) (bs : List ℕ) → b ≡ 45 → Heads (b ∷ bs) (negative_of bs)
unfolding negative_of
negative_heads b bs e = cond_both (is_digit 10 (get_or bs 0 0)) _ _ (Heads (b ∷ bs)) (λ first. minus_head b bs e first) (λ _. tt)

text_heads : (b : ℕ) (bs : List ℕ) → b ≡ 34 → (o : Option ℕ) → Closes false bs o → Heads (b ∷ bs) (text_piece o)
text_heads b bs e None h = tt
text_heads b bs e (Some n) h = record {
  spelled = (h.body, rw (one_more n, h.parts, e) refl, h.inside);
  fits = let f = h.fits in omega arith;
}

comment_head : (b : ℕ) (bs : List ℕ) → b ≡ 37 → IsHead (b ∷ bs) (piece Comment (1 + prefix_len is_inline bs))
comment_head b bs e = record {
  spelled = (take (prefix_len is_inline bs) bs, rw (one_more (prefix_len is_inline bs), e) refl, run_is is_inline bs);
  fits = let f = prefix_len-le-length is_inline bs in omega arith;
}

other_heads : (b : ℕ) (bs : List ℕ) → Heads (b ∷ bs) (other_of b bs)
unfolding other_of
other_heads b bs =
    cond_both (b == 45) _ _ (Heads (b ∷ bs)) (λ e. negative_heads b bs (eqb-true b 45 e)) (λ _.
    cond_both (b == 34) _ _ (Heads (b ∷ bs)) (λ e. text_heads b bs (eqb-true b 34 e) (inside_len false bs) (inside_closes false bs)) (λ _.
    cond_both (b == 37) _ _ (Heads (b ∷ bs)) (λ e. comment_head b bs (eqb-true b 37 e)) (λ _.
    cond_both (is_blank b) _ _ (Heads (b ∷ bs)) (λ h. record { spelled = (b, refl, h); fits = omega arith }) (λ _. symbol_heads b bs))))

name_head : (b : ℕ) (bs : List ℕ) → is_letter b ≡ true → IsHead (b ∷ bs) (piece (Word Name) (1 + prefix_len is_word bs))
name_head b bs h = record {
  spelled = rw (one_more (prefix_len is_word bs)) (b, take (prefix_len is_word bs) bs, refl, h, run_is is_word bs);
  fits = let f = prefix_len-le-length is_word bs in omega arith;
}

pub first_heads : (bs : List ℕ) → Heads bs (first_of bs)
unfolding first_of
first_heads [] = tt
first_heads (b ∷ bs) =
    cond_both (is_letter b) _ _ (Heads (b ∷ bs)) (λ h. name_head b bs h) (λ _.
    cond_both (is_digit 10 b) _ _ (Heads (b ∷ bs)) (λ h. plus_head (b ∷ bs) h) (λ _. other_heads b bs))

-- ---- what is spelled is within what is read

pub record Covers (s : Sort) (t r : List ℕ) : Type 0 where
  pub found : Piece
  pub is : first_of (t ++ r) ≡ Some found
  pub reach : length t ≤ found.len
  pub same : length t ≡ found.len → s ≡ found.sort

-- what is read is exactly the spelling
exactly : (s : Sort) (t r : List ℕ) → first_of (t ++ r) ≡ Some (piece s (length t)) → Covers s t r
exactly s t r e = record { found = piece s (length t); is = e; reach = omega arith; same = λ _. refl }

-- what is read is of the same kind
longer : (s : Sort) (t r : List ℕ) (n : ℕ) → first_of (t ++ r) ≡ Some (piece s n) → length t ≤ n → Covers s t r
longer s t r n e l = record { found = piece s n; is = e; reach = l; same = λ _. refl }

pub blank_first : (b : ℕ) (r : List ℕ) → is_blank b ≡ true → first_of (b ∷ r) ≡ Some (piece Blank 1)
unfolding first_of other_of is_letter is_digit is_blank
blank_first b r h = elim (blank_cases b h) [
  | inl e ↦ rw e refl
  | inr (inl e) ↦ rw e refl
  | inr (inr (inl e)) ↦ rw e refl
  | inr (inr (inr e)) ↦ rw e refl
]

pub comment_first : (bs : List ℕ) → first_of (37 ∷ bs) ≡ Some (piece Comment (1 + prefix_len is_inline bs))
unfolding first_of other_of is_letter is_digit
comment_first bs = refl

pub name_first : (b : ℕ) (bs : List ℕ) → is_letter b ≡ true → first_of (b ∷ bs) ≡ Some (piece (Word Name) (1 + prefix_len is_word bs))
unfolding first_of
name_first b bs h = rw h refl

pub text_first : (body r : List ℕ) (n : ℕ) → inside_len false (body ++ 34 ∷ r) ≡ Some n → first_of (34 ∷ (body ++ 34 ∷ r)) ≡ Some (piece (Word Text) (1 + n))
unfolding first_of other_of is_letter is_digit
text_first body r n e = rw e refl

plus_first : (bs : List ℕ) → is_digit 10 (get_or bs 0 0) ≡ true → first_of bs ≡ Some (number_piece false (numeral_of bs))
unfolding first_of is_digit
plus_first [] h = absurd cc
plus_first (b ∷ bs) h = let l = digit_is_no_letter b h in rw (l, h) refl

dash_no_digit : is_digit 10 45 ≡ false
unfolding is_digit
dash_no_digit = refl

minus_first : (bs : List ℕ) → is_digit 10 (get_or bs 0 0) ≡ true → first_of (45 ∷ bs) ≡ Some (number_piece true (numeral_of bs))
unfolding first_of other_of negative_of is_letter
minus_first bs h = rw (dash_no_digit, h) refl

pub number_first : (negative : Bool) (size : Option ℕ) (p r : List ℕ) → Reads size p → first_of ((minus negative ++ p) ++ r) ≡ Some (number_piece negative (numeral_of (p ++ r)))
number_first false size p r h = plus_first (p ++ r) (numeral_first size p r h)
number_first true size p r h = minus_first (p ++ r) (numeral_first size p r h)

number_covers : (negative : Bool) (size : Option ℕ) (p r : List ℕ) → Reads size p → Covers (number_sort negative size) (minus negative ++ p) r
number_covers negative size p r h =
    let m = numeral_reaches size p r h in
    let l = length-append (minus negative) p in
    record {
      found = number_piece negative (numeral_of (p ++ r));
      is = number_first negative size p r h;
      reach = let k = m.reach in omega arith;
      same = λ e. ap (number_sort negative) (m.same (omega arith));
    }

pub double_colon : (r : List ℕ) → first_of (58 ∷ 58 ∷ r) ≡ Some (piece (Word DoubleColon) 2)
unfolding first_of other_of symbol_of is_letter is_digit is_blank
double_colon r = refl

pub colon_first : (r : List ℕ) → first_of (58 ∷ r) ≡ cond (get_or r 0 0 == 58) (Some (piece (Word DoubleColon) 2)) (Some (piece (Word Colon) 1))
unfolding first_of other_of symbol_of is_letter is_digit is_blank
colon_first r = refl

colon_covers : (r : List ℕ) → Covers (Word Colon) (58 ∷ []) r
colon_covers r = elim (cases_Bool (get_or r 0 0 == 58)) [
  | inl e ↦ record { found = piece (Word DoubleColon) 2; is = let f = colon_first r in rw e at f; reach = omega arith; same = λ n. absurd (omega arith) }
  | inr e ↦ exactly (Word Colon) (58 ∷ []) r (let f = colon_first r in rw e at f)
]

pub symbol_first : (b : ℕ) (r : List ℕ) → ((b ≡ 40) ⊎ (b ≡ 41)) ⊎ (((b ≡ 91) ⊎ (b ≡ 93)) ⊎ (((b ≡ 123) ⊎ (b ≡ 125)) ⊎ ((b ≡ 44) ⊎ ((b ≡ 59) ⊎ (b ≡ 61))))) → first_of (b ∷ r) ≡ single_of b
unfolding first_of other_of symbol_of is_letter is_digit is_blank
symbol_first b r (inl (inl e)) = rw e refl
symbol_first b r (inl (inr e)) = rw e refl
symbol_first b r (inr (inl (inl e))) = rw e refl
symbol_first b r (inr (inl (inr e))) = rw e refl
symbol_first b r (inr (inr (inl (inl e)))) = rw e refl
symbol_first b r (inr (inr (inl (inr e)))) = rw e refl
symbol_first b r (inr (inr (inr (inl e)))) = rw e refl
symbol_first b r (inr (inr (inr (inr (inl e))))) = rw e refl
symbol_first b r (inr (inr (inr (inr (inr e))))) = rw e refl

pub dots_first : (r : List ℕ) → first_of (46 ∷ 46 ∷ r) ≡ Some (piece (Word DotDot) 2)
unfolding first_of other_of symbol_of is_letter is_digit is_blank
dots_first r = refl

word_covers : (w : What) (t r : List ℕ) → Spells w t → Covers (Word w) t r
unfolding single_of
word_covers Name t r (b, bs, e, h, are) = rw e (longer (Word Name) (b ∷ bs) r _ (name_first b (bs ++ r) h) (let l = run_longest is_word bs r are in omega arith))
word_covers (Int z) t r h = rw (h.value, h.parts) (number_covers h.negative (Some h.size) h.rest r h.magnitude)
word_covers Float t r (negative, p, e, h) = rw e (number_covers negative None p r h)
word_covers Text t r (body, e, h) =
    rw e (longer (Word Text) (34 ∷ (body ++ 34 ∷ [])) r (1 + (length body + 1))
    (rw (append_assoc body (34 ∷ []) r) (text_first body r (length body + 1) (inside_found h r)))
    (let l = length-append body (34 ∷ []) in omega arith))
word_covers LeftParen t r e = rw e (exactly (Word LeftParen) (40 ∷ []) r (symbol_first 40 r (inl (inl refl))))
word_covers RightParen t r e = rw e (exactly (Word RightParen) (41 ∷ []) r (symbol_first 41 r (inl (inr refl))))
word_covers LeftBracket t r e = rw e (exactly (Word LeftBracket) (91 ∷ []) r (symbol_first 91 r (inr (inl (inl refl)))))
word_covers RightBracket t r e = rw e (exactly (Word RightBracket) (93 ∷ []) r (symbol_first 93 r (inr (inl (inr refl)))))
word_covers LeftBrace t r e = rw e (exactly (Word LeftBrace) (123 ∷ []) r (symbol_first 123 r (inr (inr (inl (inl refl))))))
word_covers RightBrace t r e = rw e (exactly (Word RightBrace) (125 ∷ []) r (symbol_first 125 r (inr (inr (inl (inr refl))))))
word_covers Comma t r e = rw e (exactly (Word Comma) (44 ∷ []) r (symbol_first 44 r (inr (inr (inr (inl refl))))))
word_covers Semicolon t r e = rw e (exactly (Word Semicolon) (59 ∷ []) r (symbol_first 59 r (inr (inr (inr (inr (inl refl)))))))
word_covers Colon t r e = rw e (colon_covers r)
word_covers DoubleColon t r e = rw e (exactly (Word DoubleColon) (58 ∷ 58 ∷ []) r (double_colon r))
word_covers Equal t r e = rw e (exactly (Word Equal) (61 ∷ []) r (symbol_first 61 r (inr (inr (inr (inr (inr refl)))))))
word_covers DotDot t r e = rw e (exactly (Word DotDot) (46 ∷ 46 ∷ []) r (dots_first r))

pub covers : (s : Sort) (t r : List ℕ) → IsSpelled s t → Covers s t r
covers Blank t r (b, e, h) = rw e (exactly Blank (b ∷ []) r (blank_first b r h))
covers Comment t r (bs, e, are) = rw e (longer Comment (37 ∷ bs) r _ (comment_first (bs ++ r)) (let l = run_longest is_inline bs r are in omega arith))
covers (Word w) t r h = word_covers w t r h
