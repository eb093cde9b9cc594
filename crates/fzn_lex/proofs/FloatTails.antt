-- The point and the exponent of a float.
use Rattle.std.proofs.Common.{◌≡◌, ◌≢◌, ℕ, suc, ◌+◌, ◌≤◌, ◌<◌, true, false, List, [], ◌∷◌, ◌++◌, length, take, drop, get_or, refl, ap, ◌∙◌, arith, inl, inr, ◌⊎◌, append_assoc}
use Rattle.std.specs.Prelude.{◌==◌, ◌&&◌, ◌||◌}
use Rattle.std.specs.List.{prefix_len}
use Rattle.std.proofs.Math.Seq.{take-add}
use Rattle.std.proofs.lemmas.Bool.{cond_both, eqb-true, and_parts, or_cases}
use Rattle.std.proofs.lemmas.Bool.Decides.{nat_tests}
use Rattle.std.proofs.lemmas.List.{length-append, length-drop, drop_at}
use Rattle.std.proofs.lemmas.List.Sums.{prefix_len-le-length}
use Rattle.std.proofs.lemmas.List.Folds.{length-prefix_len}
use Rattle.fzn_lex.specs.Classes.{is_digit}
use Rattle.fzn_lex.specs.Tokens.{IsDigits, IsSign, IsExponent, IsTail}
use Rattle.fzn_lex.specs.Scan.{fraction_len, sign_len, counted, exponent_len, tail_len}
use Rattle.fzn_lex.proofs.ByteClasses.{digit_within}
use Rattle.fzn_lex.proofs.Runs.{one_more, run_is, run_longest, run_exact, run_some}

-- the digits at the head are digits
pub digits_here : (base : ℕ) (bs : List ℕ) → is_digit base (get_or bs 0 0) ≡ true → is_digit base 0 ≡ false
    → IsDigits base (take (prefix_len (is_digit base) bs) bs)
digits_here base [] pass none = absurd cc
digits_here base (b ∷ bs) pass none = record {
  some = let e = length-prefix_len (is_digit base) (b ∷ bs) in let s = run_some (is_digit base) b bs pass in omega arith;
  digits = run_is (is_digit base) (b ∷ bs);
}

-- the first digit passes the test
pub first_digit : (base : ℕ) (ds r : List ℕ) → IsDigits base ds → is_digit base (get_or (ds ++ r) 0 0) ≡ true
first_digit base [] r h = absurd (let s : 0 < 0 = h.some in omega arith)
first_digit base (d ∷ ds) r h = h.digits.0

-- ---- what is read is a tail

pub record IsPoint (bs : List ℕ) (n : ℕ) : Type 0 where
  pub ds : List ℕ
  pub parts : take n bs ≡ 46 ∷ ds
  pub digits : IsDigits 10 ds
  pub fits : n ≤ length bs

abbrev pub Points : List ℕ → ℕ → Type 0
Points bs n = (n ≡ 0) ⊎ IsPoint bs n

point_at : (b : ℕ) (bs : List ℕ) → (b == 46 && is_digit 10 (get_or bs 0 0)) ≡ true → IsPoint (b ∷ bs) (1 + prefix_len (is_digit 10) bs)
unfolding is_digit
point_at b bs h =
    let p = and_parts (b == 46) (is_digit 10 (get_or bs 0 0)) h in
    record {
      ds = take (prefix_len (is_digit 10) bs) bs;
      parts = rw (one_more (prefix_len (is_digit 10) bs), eqb-true b 46 p.0) refl;
      digits = digits_here 10 bs p.1 refl;
      fits = let f = prefix_len-le-length (is_digit 10) bs in omega arith;
    }

pub fraction_points : (bs : List ℕ) → Points bs (fraction_len bs)
unfolding fraction_len
fraction_points [] = inl refl
fraction_points (b ∷ bs) = cond_both (b == 46 && is_digit 10 (get_or bs 0 0)) _ _ (Points (b ∷ bs)) (λ h. inr (point_at b bs h)) (λ _. inl refl)

abbrev Signs : List ℕ → ℕ → Type 0
Signs bs n = IsSign (take n bs) × (n ≤ length bs)

sign_at : (b : ℕ) (bs : List ℕ) → (b == 43 || b == 45) ≡ true → IsSign (b ∷ [])
sign_at b bs h = elim (or_cases (b == 43) (b == 45) h) [
  | inl plus ↦ inr (inl (ap (λ (x : ℕ). x ∷ []) (eqb-true b 43 plus)))
  | inr dash ↦ inr (inr (ap (λ (x : ℕ). x ∷ []) (eqb-true b 45 dash)))
]

sign_signs : (bs : List ℕ) → Signs bs (sign_len bs)
unfolding sign_len
sign_signs [] = (inl refl, omega arith)
sign_signs (b ∷ bs) = cond_both (b == 43 || b == 45) _ _ (Signs (b ∷ bs)) (λ h. (sign_at b bs h, omega arith)) (λ _. (inl refl, omega arith))

abbrev pub Exponents : List ℕ → ℕ → Type 0
Exponents bs n = (n ≡ 0) ⊎ (IsExponent (take n bs) × (n ≤ length bs))

mark_cases : (b : ℕ) → (b == 101 || b == 69) ≡ true → (b ≡ 101) ⊎ (b ≡ 69)
mark_cases b h = elim (or_cases (b == 101) (b == 69) h) [ inl e ↦ inl (eqb-true b 101 e) | inr e ↦ inr (eqb-true b 69 e) ]

exponent_parts : (b k n : ℕ) (bs : List ℕ) → take ((1 + k) + n) (b ∷ bs) ≡ b ∷ (take k bs ++ take n (drop k bs))
exponent_parts b k n bs =
    let e : (1 + k) + n ≡ suc (k + n) = omega arith in
    rw e (ap (λ (t : List ℕ). b ∷ t) (take-add k n bs))

counted_exponent : (b k : ℕ) (bs : List ℕ) → (b ≡ 101) ⊎ (b ≡ 69) → IsSign (take k bs) → k ≤ length bs → Exponents (b ∷ bs) (counted (1 + k) (drop k bs))
unfolding is_digit
counted_exponent b k bs mark sign fits =
    cond_both (is_digit 10 (get_or (drop k bs) 0 0)) _ _ (Exponents (b ∷ bs))
    (λ pass. inr (
      record {
        mark = b;
        sign = take k bs;
        ds = take (prefix_len (is_digit 10) (drop k bs)) (drop k bs);
        parts = exponent_parts b k (prefix_len (is_digit 10) (drop k bs)) bs;
        is_mark = mark;
        is_sign = sign;
        digits = digits_here 10 (drop k bs) pass refl;
      },
      let f = prefix_len-le-length (is_digit 10) (drop k bs) in omega (arith, length-drop k bs),
    ))
    (λ _. inl refl)

pub exponent_exponents : (bs : List ℕ) → Exponents bs (exponent_len bs)
unfolding exponent_len
exponent_exponents [] = inl refl
exponent_exponents (b ∷ bs) = cond_both (b == 101 || b == 69) _ _ (Exponents (b ∷ bs))
    (λ h. let s = sign_signs bs in rw (one_more (sign_len bs)) (let r = counted_exponent b (sign_len bs) bs (mark_cases b h) s.0 s.1 in rw (one_more (sign_len bs)) at r))
    (λ _. inl refl)

pub record IsTailOf (bs : List ℕ) (n : ℕ) : Type 0 where
  pub is_tail : IsTail (take n bs)
  pub fits : n ≤ length bs

join_tail : (bs : List ℕ) (f e : ℕ) → Points bs f → Exponents (drop f bs) e → (f + e ≡ 0 → ⊥) → IsTailOf bs (f + e)
join_tail bs f e (inl none) (inl nothing) some = absurd (some (omega arith))
join_tail bs f e (inl none) (inr ex) some =
    rw none (record { is_tail = inr (let x : IsExponent (take e (drop f bs)) = ex.0 in let w : IsExponent (take e bs) = rw none at x in let z : 0 + e ≡ e = omega arith in rw z w); fits = let l : e ≤ length (drop f bs) = ex.1 in omega (arith, length-drop f bs) })
join_tail bs f e (inr pt) (inl nothing) some =
    record {
      is_tail = inl (pt.ds, take e (drop f bs), take-add f e bs ∙ ap (λ (t : List ℕ). t ++ take e (drop f bs)) pt.parts, pt.digits, inl (rw nothing refl));
      fits = let l : f ≤ length bs = pt.fits in omega arith;
    }
join_tail bs f e (inr pt) (inr ex) some =
    record {
      is_tail = inl (pt.ds, take e (drop f bs), take-add f e bs ∙ ap (λ (t : List ℕ). t ++ take e (drop f bs)) pt.parts, pt.digits, inr ex.0);
      fits = let l : f ≤ length bs = pt.fits in let m : e ≤ length (drop f bs) = ex.1 in omega (arith, length-drop f bs);
    }

pub tail_is : (bs : List ℕ) → (tail_len bs ≡ 0 → ⊥) → IsTailOf bs (tail_len bs)
unfolding tail_len
tail_is bs some = join_tail bs (fraction_len bs) (exponent_len (drop (fraction_len bs) bs)) (fraction_points bs) (exponent_exponents (drop (fraction_len bs) bs)) some

-- ---- no tail is longer than what is read

digit_no_sign : (b : ℕ) → is_digit 10 b ≡ true → (b == 43 || b == 45) ≡ false
digit_no_sign b h = let w : (48 ≤ b) × (b ≤ 57) = digit_within b h in grind (arith, nat_tests)

pub sign_exact : (sign ds r : List ℕ) → IsSign sign → IsDigits 10 ds → sign_len (sign ++ (ds ++ r)) ≡ length sign
unfolding sign_len
sign_exact sign [] r k h = absurd (let s : 0 < 0 = h.some in omega arith)
sign_exact sign (d ∷ ds) r (inl e) h = rw e (rw (digit_no_sign d h.digits.0) refl)
sign_exact sign (d ∷ ds) r (inr (inl e)) h = rw e refl
sign_exact sign (d ∷ ds) r (inr (inr e)) h = rw e refl

pub mark_passes : (b : ℕ) → (b ≡ 101) ⊎ (b ≡ 69) → (b == 101 || b == 69) ≡ true
mark_passes b (inl e) = rw e refl
mark_passes b (inr e) = rw e refl

counted_reaches : (before : ℕ) (ds r : List ℕ) → IsDigits 10 ds → before + length ds ≤ counted before (ds ++ r)
counted_reaches before ds r h = rw (first_digit 10 ds r h) (let l = run_longest (is_digit 10) ds r h.digits in omega arith)

exponent_reach : (mark : ℕ) (sign ds r : List ℕ) → (mark ≡ 101) ⊎ (mark ≡ 69) → IsSign sign → IsDigits 10 ds
    → length (mark ∷ (sign ++ ds)) ≤ exponent_len (mark ∷ (sign ++ (ds ++ r)))
unfolding exponent_len
exponent_reach mark sign ds r m s h =
    rw (mark_passes mark m, sign_exact sign ds r s h, one_more (length sign), drop_at sign (ds ++ r) (length sign) refl)
    (let l = counted_reaches (suc (length sign)) ds r h in omega (arith, length-append sign ds))

pub exponent_reaches : (ex r : List ℕ) → IsExponent ex → length ex ≤ exponent_len (ex ++ r)
exponent_reaches ex r x =
    rw x.parts (rw (append_assoc x.sign x.ds r) (exponent_reach x.mark x.sign x.ds r x.is_mark x.is_sign x.digits))

-- the byte at the head of a tail
pub record HasTailHead (bs : List ℕ) : Type 0 where
  pub no_digit : is_digit 10 (get_or bs 0 0) ≡ false
  pub no_x : get_or bs 0 0 ≢ 120
  pub no_o : get_or bs 0 0 ≢ 111

point_head : (bs : List ℕ) → HasTailHead (46 ∷ bs)
unfolding is_digit
point_head bs = record { no_digit = refl; no_x = λ e. omega arith; no_o = λ e. omega arith }

mark_head : (b : ℕ) (bs : List ℕ) → (b ≡ 101) ⊎ (b ≡ 69) → HasTailHead (b ∷ bs)
unfolding is_digit
mark_head b bs (inl e) = rw e (record { no_digit = refl; no_x = λ e. omega arith; no_o = λ e. omega arith })
mark_head b bs (inr e) = rw e (record { no_digit = refl; no_x = λ e. omega arith; no_o = λ e. omega arith })

pub exponent_head : (ex r : List ℕ) → IsExponent ex → HasTailHead (ex ++ r)
exponent_head ex r x = rw x.parts (mark_head x.mark _ x.is_mark)

pub tail_head : (tail r : List ℕ) → IsTail tail → HasTailHead (tail ++ r)
tail_head tail r (inl t) = rw t.2 (point_head _)
tail_head tail r (inr x) = exponent_head tail r x

pub no_point : (b : ℕ) (bs : List ℕ) → (b ≡ 101) ⊎ (b ≡ 69) → fraction_len (b ∷ bs) ≡ 0
unfolding fraction_len
no_point b bs (inl e) = rw e refl
no_point b bs (inr e) = rw e refl

fraction_here : (fs v : List ℕ) → IsDigits 10 fs → fraction_len (46 ∷ (fs ++ v)) ≡ 1 + prefix_len (is_digit 10) (fs ++ v)
unfolding fraction_len
fraction_here fs v h = rw (first_digit 10 fs v h) refl

fraction_reaches : (fs v : List ℕ) → IsDigits 10 fs → length (46 ∷ fs) ≤ fraction_len (46 ∷ (fs ++ v))
fraction_reaches fs v h = let l = run_longest (is_digit 10) fs v h.digits in let e = fraction_here fs v h in omega arith

pub fraction_exact : (fs v : List ℕ) → IsDigits 10 fs → is_digit 10 (get_or v 0 0) ≡ false → fraction_len (46 ∷ (fs ++ v)) ≡ suc (length fs)
fraction_exact fs v h stop = fraction_here fs v h ∙ (let e = run_exact (is_digit 10) fs v h.digits stop in omega arith)

point_alone : (fs r : List ℕ) → IsDigits 10 fs → length (46 ∷ (fs ++ [])) ≤ tail_len (46 ∷ ((fs ++ []) ++ r))
unfolding tail_len
point_alone fs r h = rw (append_assoc fs [] r) (let l = fraction_reaches fs r h in omega (arith, length-append fs []))

point_and_exponent : (fs ex r : List ℕ) → IsDigits 10 fs → IsExponent ex → length (46 ∷ (fs ++ ex)) ≤ tail_len (46 ∷ ((fs ++ ex) ++ r))
unfolding tail_len
point_and_exponent fs ex r h x =
    let e = fraction_exact fs (ex ++ r) h (exponent_head ex r x).no_digit in
    let d : drop (length fs) (fs ++ (ex ++ r)) ≡ ex ++ r = drop_at fs (ex ++ r) (length fs) refl in
    rw (append_assoc fs ex r, e, d) (let l = exponent_reaches ex r x in omega (arith, length-append fs ex))

exponent_alone : (mark : ℕ) (bs : List ℕ) → (mark ≡ 101) ⊎ (mark ≡ 69) → exponent_len (mark ∷ bs) ≤ tail_len (mark ∷ bs)
unfolding tail_len
exponent_alone mark bs m = rw (no_point mark bs m) (omega arith)

pub tail_reaches : (tail r : List ℕ) → IsTail tail → length tail ≤ tail_len (tail ++ r)
tail_reaches tail r (inl (fs, ex, e, h, inl none)) = rw (e, none) (point_alone fs r h)
tail_reaches tail r (inl (fs, ex, e, h, inr x)) = rw e (point_and_exponent fs ex r h x)
tail_reaches tail r (inr x) =
    let l = exponent_reaches tail r x in
    let m : exponent_len (tail ++ r) ≤ tail_len (tail ++ r) = rw x.parts (exponent_alone x.mark _ x.is_mark) in
    omega arith
