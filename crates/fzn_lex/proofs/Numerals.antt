-- Numbers without a sign: what is read is spelled so, and no spelling is longer.
use Rattle.std.proofs.Common.{◌≡◌, ◌≢◌, ℕ, suc, ◌+◌, ◌≤◌, ◌<◌, true, false, List, [], ◌∷◌, ◌++◌, length, take, drop, get_or, refl, arith, inl, inr, append_assoc, Option, Some, None}
use Rattle.std.specs.Prelude.{◌==◌, ◌&&◌}
use Rattle.std.specs.List.{prefix_len}
use Rattle.std.proofs.Math.Seq.{take-add}
use Rattle.std.proofs.lemmas.Bool.{cond_both, eqb-true, eqb-false, and_parts, eq-eqb, false_from_ne_true}
use Rattle.std.proofs.lemmas.List.{length-append, length-drop, take_at, drop_at}
use Rattle.std.proofs.lemmas.List.Sums.{prefix_len-le-length}
use Rattle.fzn_lex.specs.Classes.{is_digit, value_after}
use Rattle.fzn_lex.specs.Tokens.{IsDigits, IsMagnitude, IsTail, IsFraction}
use Rattle.fzn_lex.specs.Scan.{has_prefix, tail_len, Numeral, prefixed_of, decimal_of, numeral_of}
use Rattle.fzn_lex.proofs.Runs.{run_longest, run_exact}
use Rattle.fzn_lex.proofs.FloatTails.{digits_here, first_digit, tail_is, tail_reaches, tail_head, HasTailHead}

-- what a number without a sign spells: an integer of this size, or a float
abbrev pub Reads : Option ℕ → List ℕ → Type 0
Reads (Some n) p = IsMagnitude p n
Reads None p = IsFraction p

pub record IsRead (bs : List ℕ) (u : Numeral) : Type 0 where
  pub reads : Reads u.size (take u.len bs)
  pub fits : u.len ≤ length bs

-- ---- prefixes

pub record HasPrefix (letter base : ℕ) (bs : List ℕ) : Type 0 where
  pub digit : ℕ
  pub rest : List ℕ
  pub parts : bs ≡ 48 ∷ letter ∷ digit ∷ rest
  pub passes : is_digit base digit ≡ true

prefix_shape : (letter base : ℕ) (bs : List ℕ) → is_digit base 0 ≡ false → has_prefix letter base bs ≡ true → HasPrefix letter base bs
unfolding has_prefix
prefix_shape letter base [] none h = absurd (let p = and_parts (0 == 48 && 0 == letter) (is_digit base 0) h in cc (p.1, none))
prefix_shape letter base (a ∷ []) none h = absurd (let p = and_parts (a == 48 && 0 == letter) (is_digit base 0) h in cc (p.1, none))
prefix_shape letter base (a ∷ b ∷ []) none h = absurd (let p = and_parts (a == 48 && b == letter) (is_digit base 0) h in cc (p.1, none))
prefix_shape letter base (a ∷ b ∷ d ∷ rest) none h =
    let p = and_parts (a == 48 && b == letter) (is_digit base d) h in
    let q = and_parts (a == 48) (b == letter) p.0 in
    record { digit = d; rest = rest; parts = rw (eqb-true a 48 q.0, eqb-true b letter q.1) refl; passes = p.1 }

pub prefix_here : (letter base : ℕ) (ds r : List ℕ) → IsDigits base ds → has_prefix letter base (48 ∷ letter ∷ (ds ++ r)) ≡ true
unfolding has_prefix
prefix_here letter base ds r h = rw (eq-eqb letter letter refl, first_digit base ds r h) refl

two_more : (n : ℕ) → 2 + n ≡ suc (suc n)
two_more n = omega arith

-- a prefix and the digits of its base behind it
pub record IsPrefixed (letter base : ℕ) (bs : List ℕ) (u : Numeral) : Type 0 where
  pub ds : List ℕ
  pub parts : take u.len bs ≡ 48 ∷ letter ∷ ds
  pub digits : IsDigits base ds
  pub value : u.size ≡ Some (value_after base 0 ds)
  pub fits : u.len ≤ length bs

prefixed_at : (letter base d : ℕ) (rest : List ℕ) → is_digit base 0 ≡ false → is_digit base d ≡ true
    → IsPrefixed letter base (48 ∷ letter ∷ d ∷ rest) (prefixed_of base (48 ∷ letter ∷ d ∷ rest))
unfolding prefixed_of
prefixed_at letter base d rest none pass = record {
  ds = take (prefix_len (is_digit base) (d ∷ rest)) (d ∷ rest);
  parts = rw (two_more (prefix_len (is_digit base) (d ∷ rest))) refl;
  digits = digits_here base (d ∷ rest) pass none;
  value = refl;
  fits = let f = prefix_len-le-length (is_digit base) (d ∷ rest) in omega arith;
}

prefixed_is : (letter base : ℕ) (bs : List ℕ) → is_digit base 0 ≡ false → has_prefix letter base bs ≡ true → IsPrefixed letter base bs (prefixed_of base bs)
prefixed_is letter base bs none h = let s = prefix_shape letter base bs none h in rw s.parts (prefixed_at letter base s.digit s.rest none s.passes)

pub sixteen_none : is_digit 16 0 ≡ false
unfolding is_digit
sixteen_none = refl

pub eight_none : is_digit 8 0 ≡ false
unfolding is_digit
eight_none = refl

ten_none : is_digit 10 0 ≡ false
unfolding is_digit
ten_none = refl

pub x_no_digit : is_digit 10 120 ≡ false
unfolding is_digit
x_no_digit = refl

pub o_no_digit : is_digit 10 111 ≡ false
unfolding is_digit
o_no_digit = refl

hexadecimal_read : (bs : List ℕ) (u : Numeral) → IsPrefixed 120 16 bs u → IsRead bs u
hexadecimal_read bs u p = record {
  reads = rw (p.value, p.parts) (inr (inl (p.ds, refl, p.digits, refl)));
  fits = p.fits;
}

octal_read : (bs : List ℕ) (u : Numeral) → IsPrefixed 111 8 bs u → IsRead bs u
octal_read bs u p = record {
  reads = rw (p.value, p.parts) (inr (inr (p.ds, refl, p.digits, refl)));
  fits = p.fits;
}

-- ---- what is read is a number

decimal_read : (bs : List ℕ) → is_digit 10 (get_or bs 0 0) ≡ true → IsRead bs (decimal_of bs)
unfolding decimal_of
decimal_read bs first =
    let n : ℕ = prefix_len (is_digit 10) bs in
    cond_both (tail_len (drop n bs) == 0) _ _ (IsRead bs)
    (λ _. record { reads = inl (digits_here 10 bs first ten_none, refl); fits = prefix_len-le-length (is_digit 10) bs })
    (λ more. let t = tail_is (drop n bs) (eqb-false (tail_len (drop n bs)) 0 more) in record {
      reads = record {
        ds = take n bs;
        tail = take (tail_len (drop n bs)) (drop n bs);
        parts = take-add n (tail_len (drop n bs)) bs;
        digits = digits_here 10 bs first ten_none;
        is_tail = t.is_tail;
      };
      fits = let f = t.fits in let l = prefix_len-le-length (is_digit 10) bs in omega (arith, length-drop n bs);
    })

pub numeral_read : (bs : List ℕ) → is_digit 10 (get_or bs 0 0) ≡ true → IsRead bs (numeral_of bs)
unfolding numeral_of
numeral_read bs first =
    cond_both (has_prefix 120 16 bs) _ _ (IsRead bs) (λ h. hexadecimal_read bs _ (prefixed_is 120 16 bs sixteen_none h)) (λ _.
    cond_both (has_prefix 111 8 bs) _ _ (IsRead bs) (λ h. octal_read bs _ (prefixed_is 111 8 bs eight_none h)) (λ _. decimal_read bs first))

-- ---- no number is longer

-- what is read at a spelling is longer, or says the same
pub record Reaches (size : Option ℕ) (len : ℕ) (u : Numeral) : Type 0 where
  pub reach : len ≤ u.len
  pub same : len ≡ u.len → size ≡ u.size

prefixed_reaches : (letter base : ℕ) (ds r : List ℕ) → IsDigits base ds
    → Reaches (Some (value_after base 0 ds)) (length (48 ∷ letter ∷ ds)) (prefixed_of base (48 ∷ letter ∷ (ds ++ r)))
unfolding prefixed_of
prefixed_reaches letter base ds r h = record {
  reach = let l = run_longest (is_digit base) ds r h.digits in omega arith;
  same = λ e. let n : length ds ≡ prefix_len (is_digit base) (ds ++ r) = omega arith in rw (take_at ds r (prefix_len (is_digit base) (ds ++ r)) n) refl;
}

prefixed_long : (base : ℕ) (bs : List ℕ) → 2 ≤ (prefixed_of base bs).len
unfolding prefixed_of
prefixed_long base bs = omega arith

hexadecimal_reaches : (ds r : List ℕ) → IsDigits 16 ds → Reaches (Some (value_after 16 0 ds)) (length (48 ∷ 120 ∷ ds)) (numeral_of (48 ∷ 120 ∷ (ds ++ r)))
unfolding numeral_of
hexadecimal_reaches ds r h = rw (prefix_here 120 16 ds r h) (prefixed_reaches 120 16 ds r h)

pub o_is_no_x : (bs : List ℕ) → has_prefix 120 16 (48 ∷ 111 ∷ bs) ≡ false
unfolding has_prefix
o_is_no_x bs = refl

octal_reaches : (ds r : List ℕ) → IsDigits 8 ds → Reaches (Some (value_after 8 0 ds)) (length (48 ∷ 111 ∷ ds)) (numeral_of (48 ∷ 111 ∷ (ds ++ r)))
unfolding numeral_of
octal_reaches ds r h = rw (o_is_no_x (ds ++ r), prefix_here 111 8 ds r h) (prefixed_reaches 111 8 ds r h)

-- digits before a prefix's letter are one digit
one_digit : (letter base : ℕ) (ds v : List ℕ) → IsDigits 10 ds → is_digit 10 letter ≡ false → is_digit base 0 ≡ false
    → has_prefix letter base (ds ++ v) ≡ true → (length ds ≡ 1) × (get_or v 0 0 ≡ letter)
unfolding has_prefix
one_digit letter base [] v h off none e = absurd (let s : 0 < 0 = h.some in omega arith)
one_digit letter base (a ∷ []) v h off none e =
    let p = and_parts (a == 48 && get_or v 0 0 == letter) (is_digit base (get_or v 1 0)) e in
    let q = and_parts (a == 48) (get_or v 0 0 == letter) p.0 in
    (refl, eqb-true (get_or v 0 0) letter q.1)
one_digit letter base (a ∷ b ∷ ds) v h off none e =
    let p = and_parts (a == 48 && b == letter) (is_digit base (get_or (ds ++ v) 0 0)) e in
    let q = and_parts (a == 48) (b == letter) p.0 in
    let is : b ≡ letter = eqb-true b letter q.1 in
    let d : is_digit 10 b ≡ true = h.digits.1.0 in
    absurd (let w : is_digit 10 letter ≡ true = rw is at d in cc (w, off))

decimal_reaches : (ds r : List ℕ) → IsDigits 10 ds → Reaches (Some (value_after 10 0 ds)) (length ds) (decimal_of (ds ++ r))
unfolding decimal_of
decimal_reaches ds r h =
    let n : ℕ = prefix_len (is_digit 10) (ds ++ r) in
    let l : length ds ≤ n = run_longest (is_digit 10) ds r h.digits in
    cond_both (tail_len (drop n (ds ++ r)) == 0) _ _ (Reaches (Some (value_after 10 0 ds)) (length ds))
    (λ _. record { reach = l; same = λ e. rw (take_at ds r n e) refl })
    (λ more. let t : tail_len (drop n (ds ++ r)) ≢ 0 = eqb-false (tail_len (drop n (ds ++ r))) 0 more in record { reach = omega arith; same = λ e. absurd (omega arith) })

beats : (letter base : ℕ) (ds r : List ℕ) (size : Option ℕ) → IsDigits 10 ds → is_digit 10 letter ≡ false → is_digit base 0 ≡ false
    → has_prefix letter base (ds ++ r) ≡ true → Reaches size (length ds) (prefixed_of base (ds ++ r))
beats letter base ds r size h off none e =
    let o = one_digit letter base ds r h off none e in
    let one : length ds ≡ 1 = o.0 in
    let l = prefixed_long base (ds ++ r) in
    record { reach = omega arith; same = λ s. absurd (omega arith) }

digits_reach : (ds r : List ℕ) → IsDigits 10 ds → Reaches (Some (value_after 10 0 ds)) (length ds) (numeral_of (ds ++ r))
unfolding numeral_of
digits_reach ds r h =
    cond_both (has_prefix 120 16 (ds ++ r)) _ _ (Reaches (Some (value_after 10 0 ds)) (length ds)) (λ e. beats 120 16 ds r _ h x_no_digit sixteen_none e) (λ _.
    cond_both (has_prefix 111 8 (ds ++ r)) _ _ (Reaches (Some (value_after 10 0 ds)) (length ds)) (λ e. beats 111 8 ds r _ h o_no_digit eight_none e) (λ _. decimal_reaches ds r h))

pub no_prefix : (letter base : ℕ) (ds v : List ℕ) → IsDigits 10 ds → is_digit 10 letter ≡ false → is_digit base 0 ≡ false
    → get_or v 0 0 ≢ letter → has_prefix letter base (ds ++ v) ≡ false
no_prefix letter base ds v h off none other = false_from_ne_true _ (λ e. other (one_digit letter base ds v h off none e).1)

float_decimal : (ds v : List ℕ) (len : ℕ) → IsDigits 10 ds → is_digit 10 (get_or v 0 0) ≡ false → 0 < len → len ≤ tail_len v
    → Reaches None (length ds + len) (decimal_of (ds ++ v))
unfolding decimal_of
float_decimal ds v len h stop some l =
    rw (run_exact (is_digit 10) ds v h.digits stop, drop_at ds v (length ds) refl)
    (cond_both (tail_len v == 0) _ _ (Reaches None (length ds + len))
    (λ e. absurd (let z : tail_len v ≡ 0 = eqb-true (tail_len v) 0 e in omega arith))
    (λ _. record { reach = omega arith; same = λ _. refl }))

float_numeral : (ds v : List ℕ) (len : ℕ) → IsDigits 10 ds → HasTailHead v → 0 < len → len ≤ tail_len v
    → Reaches None (length ds + len) (numeral_of (ds ++ v))
unfolding numeral_of
float_numeral ds v len h head some l =
    rw (no_prefix 120 16 ds v h x_no_digit sixteen_none head.no_x, no_prefix 111 8 ds v h o_no_digit eight_none head.no_o)
    (float_decimal ds v len h head.no_digit some l)

pub tail_some : (tail : List ℕ) → IsTail tail → 0 < length tail
tail_some tail (inl t) = rw t.2 (omega arith)
tail_some tail (inr x) = rw x.parts (omega arith)

float_reaches : (p r : List ℕ) → IsFraction p → Reaches None (length p) (numeral_of (p ++ r))
float_reaches p r f =
    rw f.parts (rw (append_assoc f.ds f.tail r, length-append f.ds f.tail)
    (float_numeral f.ds (f.tail ++ r) (length f.tail) f.digits (tail_head f.tail r f.is_tail) (tail_some f.tail f.is_tail) (tail_reaches f.tail r f.is_tail)))

pub numeral_reaches : (size : Option ℕ) (p r : List ℕ) → Reads size p → Reaches size (length p) (numeral_of (p ++ r))
numeral_reaches None p r f = float_reaches p r f
numeral_reaches (Some n) p r (inl d) = rw d.1 (digits_reach p r d.0)
numeral_reaches (Some n) p r (inr (inl (ds, e, d, v))) = rw (e, v) (hexadecimal_reaches ds r d)
numeral_reaches (Some n) p r (inr (inr (ds, e, d, v))) = rw (e, v) (octal_reaches ds r d)

-- a number begins with a digit
pub numeral_first : (size : Option ℕ) (p r : List ℕ) → Reads size p → is_digit 10 (get_or (p ++ r) 0 0) ≡ true
unfolding is_digit
numeral_first None p r f = rw f.parts (rw (append_assoc f.ds f.tail r) (first_digit 10 f.ds (f.tail ++ r) f.digits))
numeral_first (Some n) p r (inl d) = first_digit 10 p r d.0
numeral_first (Some n) p r (inr (inl (ds, e, d, v))) = rw e refl
numeral_first (Some n) p r (inr (inr (ds, e, d, v))) = rw e refl
