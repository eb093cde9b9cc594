-- A text put together of pieces is cut into them, where no piece goes on into what follows it.
use Rattle.std.proofs.Common.{◌≡◌, ◌≢◌, ℕ, ◌+◌, ◌-◌, ◌≤◌, ◌<◌, Bool, true, false, List, [], ◌∷◌, ◌++◌, length, take, drop, get_or, map, refl, sym, ap, ◌∙◌, arith, append_assoc, inl, inr, ◌⊎◌, Option, Some, None}
use Rattle.std.specs.Prelude.{◌==◌, ◌&&◌}
use Rattle.std.specs.List.{prefix_len}
use Rattle.std.proofs.lemmas.Bool.{cond_both, eqb-true, and_parts, ne_eqb}
use Rattle.std.proofs.lemmas.Bool.Decides.{nat_tests}
use Rattle.std.proofs.lemmas.List.{length-append, drop_at, take_at, append-nil}
use Rattle.fzn_lex.specs.declared.words.What.{What}
use Rattle.fzn_lex.specs.declared.words.What.TheVariants.{Name, Int, Float, Text, LeftParen, RightParen, LeftBracket, RightBracket, LeftBrace, RightBrace, Comma, Semicolon, Colon, DoubleColon, Equal, DotDot}
use Rattle.fzn_lex.specs.declared.pieces.Sort.{Sort}
use Rattle.fzn_lex.specs.declared.pieces.Sort.TheVariants.{Blank, Comment, Word}
use Rattle.fzn_lex.specs.declared.pieces.Piece.{Piece}
use Rattle.fzn_lex.specs.declared.tokens.Token.{Token}
use Rattle.fzn_lex.specs.Classes.{Are, is_digit, is_letter, is_word, is_inline}
use Rattle.fzn_lex.specs.Tokens.{IsDigits, IsSign, IsExponent, IsTail, IsInside, IsSpelled, Spells, minus}
use Rattle.fzn_lex.specs.Cutting.{IsLongest, IsFine, Cutting, bytes_of, IsCut, told, tokens_of}
use Rattle.fzn_lex.specs.Scan.{piece, single_of, fraction_len, exponent_len, tail_len, prefixed_of, decimal_of, numeral_of, number_sort, number_piece, first_of}
use Rattle.fzn_lex.proofs.Runs.{one_more, run_exact}
use Rattle.fzn_lex.proofs.Quotes.{inside_found}
use Rattle.fzn_lex.proofs.FloatTails.{first_digit, mark_passes, sign_exact, exponent_head, tail_head, no_point, fraction_exact}
use Rattle.fzn_lex.proofs.Numerals.{Reads, prefix_here, o_is_no_x, no_prefix, tail_some, sixteen_none, eight_none, x_no_digit, o_no_digit}
use Rattle.fzn_lex.proofs.Heads.{covers, number_first, blank_first, comment_first, name_first, text_first, symbol_first, colon_first, double_colon, dots_first}

-- what may stand behind a number
pub record NumberStops (rest : List ℕ) : Type 0 where
  pub no_word : is_word (get_or rest 0 0) ≡ false
  pub no_point : get_or rest 0 0 ≡ 46 → is_digit 10 (get_or rest 1 0) ≡ false

-- what may stand behind a piece, so that it doesn't go on
abbrev pub Stops : Sort → List ℕ → Type 0
Stops Blank rest = Unit {0}
Stops Comment rest = (rest ≡ []) ⊎ (get_or rest 0 0 ≡ 10)
Stops (Word Name) rest = is_word (get_or rest 0 0) ≡ false
Stops (Word (Int z)) rest = NumberStops rest
Stops (Word Float) rest = NumberStops rest
Stops (Word Colon) rest = get_or rest 0 0 ≢ 58
Stops (Word _) rest = Unit {0}

-- each piece is spelled, fine, and stopped by what follows
abbrev pub AreTight : List Cutting → List ℕ → Type 0
AreTight [] rest = Unit {0}
AreTight (p ∷ ps) rest = IsSpelled p.sort p.text × IsFine p.sort × Stops p.sort (bytes_of ps ++ rest) × AreTight ps rest

-- a token as a piece, and a blank
abbrev pub token_piece : What → List ℕ → Cutting
token_piece what text = record { sort = Word what; text = text }

abbrev pub blank_piece : ℕ → Cutting
blank_piece b = record { sort = Blank; text = b ∷ [] }

-- ---- what is no word is no digit and no letter

no_word_no_digit : (base b : ℕ) → base ≤ 16 → is_word b ≡ false → is_digit base b ≡ false
unfolding is_word is_letter is_digit
no_word_no_digit base b le h = grind (arith, nat_tests)

word_parts : (b c : ℕ) → is_word b ≡ false → is_word c ≡ true → b ≢ c
word_parts b c h k e = let x : is_word c ≡ false = rw e at h in cc (x, k)

x_word : is_word 120 ≡ true
unfolding is_word is_letter
x_word = refl

o_word : is_word 111 ≡ true
unfolding is_word is_letter
o_word = refl

e_word : is_word 101 ≡ true
unfolding is_word is_letter
e_word = refl

capital_word : is_word 69 ≡ true
unfolding is_word is_letter
capital_word = refl

no_exponent : (rest : List ℕ) → is_word (get_or rest 0 0) ≡ false → exponent_len rest ≡ 0
unfolding exponent_len
no_exponent rest h =
    let small = ne_eqb (get_or rest 0 0) 101 (word_parts (get_or rest 0 0) 101 h e_word) in
    let capital = ne_eqb (get_or rest 0 0) 69 (word_parts (get_or rest 0 0) 69 h capital_word) in
    rw (small, capital) refl

no_fraction : (rest : List ℕ) → NumberStops rest → fraction_len rest ≡ 0
unfolding fraction_len
no_fraction rest h = cond_both (get_or rest 0 0 == 46 && is_digit 10 (get_or rest 1 0)) _ _ (λ (n : ℕ). n ≡ 0)
    (λ e. let p = and_parts (get_or rest 0 0 == 46) (is_digit 10 (get_or rest 1 0)) e in
    absurd (let k = h.no_point (eqb-true (get_or rest 0 0) 46 p.0) in cc (k, p.1)))
    (λ _. refl)

no_tail : (rest : List ℕ) → NumberStops rest → tail_len rest ≡ 0
unfolding tail_len
no_tail rest h = rw (no_fraction rest h, no_exponent rest h.no_word) refl

-- ---- numbers before such a byte

exponent_exactly : (mark : ℕ) (sign ds r : List ℕ) → (mark ≡ 101) ⊎ (mark ≡ 69) → IsSign sign → IsDigits 10 ds → is_word (get_or r 0 0) ≡ false
    → exponent_len (mark ∷ (sign ++ (ds ++ r))) ≡ length (mark ∷ (sign ++ ds))
unfolding exponent_len
exponent_exactly mark sign ds r m s h stop =
    rw (
      mark_passes mark m,
      sign_exact sign ds r s h,
      one_more (length sign),
      drop_at sign (ds ++ r) (length sign) refl,
      first_digit 10 ds r h,
      run_exact (is_digit 10) ds r h.digits (no_word_no_digit 10 (get_or r 0 0) (omega arith) stop),
    )
    (omega (arith, length-append sign ds))

exponent_exact : (ex r : List ℕ) → IsExponent ex → is_word (get_or r 0 0) ≡ false → exponent_len (ex ++ r) ≡ length ex
exponent_exact ex r x stop =
    rw x.parts (rw (append_assoc x.sign x.ds r) (exponent_exactly x.mark x.sign x.ds r x.is_mark x.is_sign x.digits stop))

point_exact : (fs r : List ℕ) → IsDigits 10 fs → is_word (get_or r 0 0) ≡ false → tail_len (46 ∷ ((fs ++ []) ++ r)) ≡ length (46 ∷ (fs ++ []))
unfolding tail_len
point_exact fs r h stop =
    let d : drop (length fs) (fs ++ r) ≡ r = drop_at fs r (length fs) refl in
    rw (append-nil fs, fraction_exact fs r h (no_word_no_digit 10 (get_or r 0 0) (omega arith) stop), d, no_exponent r stop) (omega arith)

both_exact : (fs ex r : List ℕ) → IsDigits 10 fs → IsExponent ex → is_word (get_or r 0 0) ≡ false
    → tail_len (46 ∷ ((fs ++ ex) ++ r)) ≡ length (46 ∷ (fs ++ ex))
unfolding tail_len
both_exact fs ex r h x stop =
    let d : drop (length fs) (fs ++ (ex ++ r)) ≡ ex ++ r = drop_at fs (ex ++ r) (length fs) refl in
    rw (append_assoc fs ex r, fraction_exact fs (ex ++ r) h (exponent_head ex r x).no_digit, d, exponent_exact ex r x stop)
    (omega (arith, length-append fs ex))

exponent_alone_exact : (mark : ℕ) (bs : List ℕ) → (mark ≡ 101) ⊎ (mark ≡ 69) → tail_len (mark ∷ bs) ≡ exponent_len (mark ∷ bs)
unfolding tail_len
exponent_alone_exact mark bs m = rw (no_point mark bs m) (omega arith)

tail_exact : (tail r : List ℕ) → IsTail tail → is_word (get_or r 0 0) ≡ false → tail_len (tail ++ r) ≡ length tail
tail_exact tail r (inl (fs, ex, e, h, inl none)) stop = rw (e, none) (point_exact fs r h stop)
tail_exact tail r (inl (fs, ex, e, h, inr x)) stop = rw e (both_exact fs ex r h x stop)
tail_exact tail r (inr x) stop =
    let a : tail_len (tail ++ r) ≡ exponent_len (tail ++ r) = rw x.parts (exponent_alone_exact x.mark _ x.is_mark) in
    a ∙ exponent_exact tail r x stop

decimal_exact : (ds r : List ℕ) → IsDigits 10 ds → NumberStops r → (decimal_of (ds ++ r)).len ≡ length ds
unfolding decimal_of
decimal_exact ds r h stop =
    rw (run_exact (is_digit 10) ds r h.digits (no_word_no_digit 10 (get_or r 0 0) (omega arith) stop.no_word), drop_at ds r (length ds) refl, no_tail r stop) refl

float_exact : (ds v : List ℕ) (len : ℕ) → IsDigits 10 ds → is_digit 10 (get_or v 0 0) ≡ false → 0 < len → tail_len v ≡ len
    → (decimal_of (ds ++ v)).len ≡ length ds + len
unfolding decimal_of
float_exact ds v len h stop some l =
    rw (run_exact (is_digit 10) ds v h.digits stop, drop_at ds v (length ds) refl, l, ne_eqb len 0 (λ z. omega arith)) refl

prefixed_exact : (letter base : ℕ) (ds r : List ℕ) → IsDigits base ds → is_digit base (get_or r 0 0) ≡ false
    → (prefixed_of base (48 ∷ letter ∷ (ds ++ r))).len ≡ length (48 ∷ letter ∷ ds)
unfolding prefixed_of
prefixed_exact letter base ds r h stop = rw (run_exact (is_digit base) ds r h.digits stop) (omega arith)

hexadecimal_exact : (ds r : List ℕ) → IsDigits 16 ds → NumberStops r → (numeral_of (48 ∷ 120 ∷ (ds ++ r))).len ≡ length (48 ∷ 120 ∷ ds)
unfolding numeral_of
hexadecimal_exact ds r h stop = rw (prefix_here 120 16 ds r h) (prefixed_exact 120 16 ds r h (no_word_no_digit 16 (get_or r 0 0) (omega arith) stop.no_word))

octal_exact : (ds r : List ℕ) → IsDigits 8 ds → NumberStops r → (numeral_of (48 ∷ 111 ∷ (ds ++ r))).len ≡ length (48 ∷ 111 ∷ ds)
unfolding numeral_of
octal_exact ds r h stop = rw (o_is_no_x (ds ++ r), prefix_here 111 8 ds r h) (prefixed_exact 111 8 ds r h (no_word_no_digit 8 (get_or r 0 0) (omega arith) stop.no_word))

digits_exact : (ds r : List ℕ) → IsDigits 10 ds → NumberStops r → (numeral_of (ds ++ r)).len ≡ length ds
unfolding numeral_of
digits_exact ds r h stop =
    rw (
      no_prefix 120 16 ds r h x_no_digit sixteen_none (word_parts (get_or r 0 0) 120 stop.no_word x_word),
      no_prefix 111 8 ds r h o_no_digit eight_none (word_parts (get_or r 0 0) 111 stop.no_word o_word),
    )
    (decimal_exact ds r h stop)

fraction_whole : (ds tail r : List ℕ) → IsDigits 10 ds → IsTail tail → is_word (get_or r 0 0) ≡ false
    → (numeral_of (ds ++ (tail ++ r))).len ≡ length ds + length tail
unfolding numeral_of
fraction_whole ds tail r h t stop =
    let head = tail_head tail r t in
    rw (no_prefix 120 16 ds (tail ++ r) h x_no_digit sixteen_none head.no_x, no_prefix 111 8 ds (tail ++ r) h o_no_digit eight_none head.no_o)
    (float_exact ds (tail ++ r) (length tail) h head.no_digit (tail_some tail t) (tail_exact tail r t stop))

numeral_exact : (size : Option ℕ) (p r : List ℕ) → Reads size p → NumberStops r → (numeral_of (p ++ r)).len ≡ length p
numeral_exact None p r f stop = rw f.parts (rw (append_assoc f.ds f.tail r, length-append f.ds f.tail) (fraction_whole f.ds f.tail r f.digits f.is_tail stop.no_word))
numeral_exact (Some n) p r (inl d) stop = digits_exact p r d.0 stop
numeral_exact (Some n) p r (inr (inl (ds, e, d, v))) stop = rw e (hexadecimal_exact ds r d stop)
numeral_exact (Some n) p r (inr (inr (ds, e, d, v))) stop = rw e (octal_exact ds r d stop)

-- ---- pieces before such a byte

-- no spelling at the place of this piece is longer
abbrev Longest : Sort → List ℕ → List ℕ → Type 0
Longest s t r = (s' : Sort) (t' r' : List ℕ) → IsSpelled s' t' → t' ++ r' ≡ t ++ r → length t' ≤ length t

same_found : (p q : Piece) → ◌≡◌ {A = Option Piece} (Some p) (Some q) → p ≡ q
same_found p q e = cc

found_longest : (s : Sort) (t r : List ℕ) (p : Piece) → first_of (t ++ r) ≡ Some p → p.len ≡ length t → Longest s t r
found_longest s t r p e l s' t' r' h join =
    let c = covers s' t' r' h in
    let same : c.found ≡ p = same_found c.found p (sym c.is ∙ ap first_of join ∙ e) in
    let k : length t' ≤ c.found.len = c.reach in
    let m : length t' ≤ p.len = rw same at k in
    omega arith

number_longest : (negative : Bool) (size : Option ℕ) (p r : List ℕ) → Reads size p → NumberStops r → Longest (number_sort negative size) (minus negative ++ p) r
number_longest negative size p r h stop =
    found_longest (number_sort negative size) (minus negative ++ p) r (number_piece negative (numeral_of (p ++ r))) (number_first negative size p r h)
    (let e = numeral_exact size p r h stop in omega (arith, length-append (minus negative) p))

name_longest : (b : ℕ) (bs r : List ℕ) → is_letter b ≡ true → Are is_word bs → is_word (get_or r 0 0) ≡ false → Longest (Word Name) (b ∷ bs) r
name_longest b bs r h are stop =
    found_longest (Word Name) (b ∷ bs) r _ (name_first b (bs ++ r) h) (let e = run_exact is_word bs r are stop in omega arith)

all_run : (test : ℕ → Bool) (t : List ℕ) → Are test t → prefix_len test t ≡ length t
all_run test [] h = refl
all_run test (b ∷ bs) h = rw h.0 (rw (all_run test bs h.1) (one_more (length bs)))

newline_ends : (b : ℕ) → b ≡ 10 → is_inline b ≡ false
unfolding is_inline
newline_ends b e = rw e refl

comment_stop : (bs r : List ℕ) → Are is_inline bs → (r ≡ []) ⊎ (get_or r 0 0 ≡ 10) → prefix_len is_inline (bs ++ r) ≡ length bs
comment_stop bs r are (inl none) = rw (none, append-nil bs) (all_run is_inline bs are)
comment_stop bs r are (inr line) = run_exact is_inline bs r are (newline_ends (get_or r 0 0) line)

comment_longest : (bs r : List ℕ) → Are is_inline bs → (r ≡ []) ⊎ (get_or r 0 0 ≡ 10) → Longest Comment (37 ∷ bs) r
comment_longest bs r are stop =
    found_longest Comment (37 ∷ bs) r _ (comment_first (bs ++ r)) (let e = comment_stop bs r are stop in omega arith)

text_longest : (body r : List ℕ) → IsInside body → Longest (Word Text) (34 ∷ (body ++ 34 ∷ [])) r
text_longest body r h =
    found_longest (Word Text) (34 ∷ (body ++ 34 ∷ [])) r (piece (Word Text) (1 + (length body + 1)))
    (rw (append_assoc body (34 ∷ []) r) (text_first body r (length body + 1) (inside_found h r)))
    (omega (arith, length-append body (34 ∷ [])))

colon_longest : (r : List ℕ) → get_or r 0 0 ≢ 58 → Longest (Word Colon) (58 ∷ []) r
colon_longest r other =
    let e = ne_eqb (get_or r 0 0) 58 other in
    found_longest (Word Colon) (58 ∷ []) r (piece (Word Colon) 1) (let f = colon_first r in rw e at f) refl

one_longest : (s : Sort) (b : ℕ) (r : List ℕ) → first_of (b ∷ r) ≡ Some (piece s 1) → Longest s (b ∷ []) r
one_longest s b r e = found_longest s (b ∷ []) r (piece s 1) e refl

two_longest : (s : Sort) (b c : ℕ) (r : List ℕ) → first_of (b ∷ c ∷ r) ≡ Some (piece s 2) → Longest s (b ∷ c ∷ []) r
two_longest s b c r e = found_longest s (b ∷ c ∷ []) r (piece s 2) e refl

word_longest : (w : What) (t r : List ℕ) → Spells w t → Stops (Word w) r → Longest (Word w) t r
unfolding single_of
word_longest Name t r (b, bs, e, h, are) stop = rw e (name_longest b bs r h are stop)
word_longest (Int z) t r h stop = rw h.parts (number_longest h.negative (Some h.size) h.rest r h.magnitude stop)
word_longest Float t r (negative, p, e, h) stop = rw e (number_longest negative None p r h stop)
word_longest Text t r (body, e, h) stop = rw e (text_longest body r h)
word_longest LeftParen t r e stop = rw e (one_longest (Word LeftParen) 40 r (symbol_first 40 r (inl (inl refl))))
word_longest RightParen t r e stop = rw e (one_longest (Word RightParen) 41 r (symbol_first 41 r (inl (inr refl))))
word_longest LeftBracket t r e stop = rw e (one_longest (Word LeftBracket) 91 r (symbol_first 91 r (inr (inl (inl refl)))))
word_longest RightBracket t r e stop = rw e (one_longest (Word RightBracket) 93 r (symbol_first 93 r (inr (inl (inr refl)))))
word_longest LeftBrace t r e stop = rw e (one_longest (Word LeftBrace) 123 r (symbol_first 123 r (inr (inr (inl (inl refl))))))
word_longest RightBrace t r e stop = rw e (one_longest (Word RightBrace) 125 r (symbol_first 125 r (inr (inr (inl (inr refl))))))
word_longest Comma t r e stop = rw e (one_longest (Word Comma) 44 r (symbol_first 44 r (inr (inr (inr (inl refl))))))
word_longest Semicolon t r e stop = rw e (one_longest (Word Semicolon) 59 r (symbol_first 59 r (inr (inr (inr (inr (inl refl)))))))
word_longest Colon t r e stop = rw e (colon_longest r stop)
word_longest DoubleColon t r e stop = rw e (two_longest (Word DoubleColon) 58 58 r (double_colon r))
word_longest Equal t r e stop = rw e (one_longest (Word Equal) 61 r (symbol_first 61 r (inr (inr (inr (inr (inr refl)))))))
word_longest DotDot t r e stop = rw e (two_longest (Word DotDot) 46 46 r (dots_first r))

longest_of : (s : Sort) (t r : List ℕ) → IsSpelled s t → Stops s r → Longest s t r
longest_of Blank t r (b, e, h) stop = rw e (one_longest Blank b r (blank_first b r h))
longest_of Comment t r (bs, e, are) stop = rw e (comment_longest bs r are stop)
longest_of (Word w) t r h stop = word_longest w t r h stop

-- a spelled piece that is stopped is a longest one
pub stopped_longest : (s : Sort) (t r : List ℕ) → IsSpelled s t → Stops s r → IsLongest s t r
stopped_longest s t r h stop = record { spelled = h; longest = longest_of s t r h stop }

-- pieces that are tight are the cutting of what they make
pub tight_cut : (ps : List Cutting) (rest : List ℕ) → AreTight ps rest → IsCut ps rest
tight_cut [] rest h = tt
tight_cut (p ∷ ps) rest (spelled, fine, stop, more) =
    (stopped_longest p.sort p.text (bytes_of ps ++ rest) spelled stop, fine, tight_cut ps rest more)

-- ---- the texts of the tokens

-- the bytes of a token
abbrev pub slice_of : List ℕ → Token → List ℕ
slice_of text t = take (t.end - t.start) (drop t.start text)

-- what a token is, and its bytes
pub record Spelling : Type 0 where
  pub what : What
  pub text : List ℕ

abbrev pub word_of : Sort → List ℕ → List Spelling
word_of (Word w) t = record { what = w; text = t } ∷ []
word_of _ t = []

-- the tokens among the pieces, without their places
abbrev pub words_of : List Cutting → List Spelling
words_of [] = []
words_of (p ∷ ps) = word_of p.sort p.text ++ words_of ps

abbrev pub read_word : List ℕ → Token → Spelling
read_word text t = record { what = t.what; text = slice_of text t }

told_word : (text : List ℕ) (at : ℕ) (s : Sort) (t front rest : List ℕ) (ts : List Token) → text ≡ front ++ (t ++ rest) → at ≡ length front
    → map (read_word text) (told at (at + length t) s ++ ts) ≡ word_of s t ++ map (read_word text) ts
told_word text at Blank t front rest ts e n = refl
told_word text at Comment t front rest ts e n = refl
told_word text at (Word w) t front rest ts e n =
    let d : drop at text ≡ t ++ rest = rw e (drop_at front (t ++ rest) at (sym n)) in
    let k : at + length t - at ≡ length t = omega arith in
    rw (d, k, take_at t rest (length t) refl) refl

cut_words : (text : List ℕ) (at : ℕ) (ps : List Cutting) (front rest : List ℕ) → text ≡ front ++ (bytes_of ps ++ rest) → at ≡ length front
    → map (read_word text) (tokens_of at ps) ≡ words_of ps
cut_words text at [] front rest e n = refl
cut_words text at (p ∷ ps) front rest e n =
    let e' : text ≡ front ++ (p.text ++ (bytes_of ps ++ rest)) = e ∙ ap (λ (t : List ℕ). front ++ t) (append_assoc p.text (bytes_of ps) rest) in
    let len = length-append front p.text in
    let more = cut_words text (at + length p.text) ps (front ++ p.text) rest (e' ∙ sym (append_assoc front p.text (bytes_of ps ++ rest))) (omega arith) in
    told_word text at p.sort p.text front (bytes_of ps ++ rest) (tokens_of (at + length p.text) ps) e' n ∙ ap (λ (ws : List Spelling). word_of p.sort p.text ++ ws) more

-- the tokens of pieces, read in the text that the pieces make, are the words among them
pub words_read : (ps : List Cutting) → map (read_word (bytes_of ps)) (tokens_of 0 ps) ≡ words_of ps
words_read ps = cut_words (bytes_of ps) 0 ps [] [] (sym (append-nil (bytes_of ps))) refl
