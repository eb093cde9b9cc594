-- What is written of an integer in decimal spells it.
use Rattle.std.proofs.Common.{◌≡◌, ℕ, suc, ◌+◌, ◌*◌, ◌/◌, ◌%◌, ◌^◌, ◌<◌, ◌≤◌, Bool, true, false, List, [], ◌∷◌, ◌++◌, refl, sym, ◌∙◌, arith, inl}
use Rattle.std.specs.Prelude.{ℤ, pos, negsuc}
use Rattle.std.specs.Fmt.{decimal, signed_decimal}
use Rattle.std.proofs.lemmas.Fmt.{decimal_by_steps}
use Rattle.std.proofs.lemmas.Bool.Decides.{nat_tests}
use Rattle.std.proofs.lemmas.Int.{ints}
use Rattle.std.proofs.lemmas.List.{length-append}
use Rattle.fzn_lex.specs.Classes.{digit_of, is_digit, value_after, Are}
use Rattle.fzn_lex.specs.Tokens.{IsDigits, IsMagnitude, IsInteger, IsSmall}

-- a digit below ten, and what it is worth
digit_byte : (n : ℕ) → n < 10 → is_digit 10 (48 + n) ≡ true
unfolding is_digit
digit_byte n lt = grind (arith, nat_tests)

digit_worth : (n : ℕ) → n < 10 → digit_of (48 + n) ≡ n
digit_worth n lt = grind (arith, nat_tests)

record Writes (n : ℕ) (ds : List ℕ) : Type 0 where
  digits : IsDigits 10 ds
  value : value_after 10 0 ds ≡ n

Are-push : (test : ℕ → Bool) (ds : List ℕ) (d : ℕ) → Are test ds → test d ≡ true → Are test (ds ++ d ∷ [])
Are-push test [] d h p = (p, tt)
Are-push test (c ∷ ds) d (p', h) p = (p', Are-push test ds d h p)

value_push : (front : ℕ) (ds : List ℕ) (d : ℕ) → value_after 10 front (ds ++ d ∷ []) ≡ 10 * value_after 10 front ds + digit_of d
value_push front [] d = refl
value_push front (c ∷ ds) d = value_push (10 * front + digit_of c) ds d

one_digit : (n : ℕ) → n < 10 → Writes n ((48 + n) ∷ [])
one_digit n lt = record {
  digits = record { some = omega arith; digits = (digit_byte n lt, tt) };
  value = let w = digit_worth n lt in let z : 10 * 0 + digit_of (48 + n) ≡ n = omega arith in z;
}

more_digits : (n : ℕ) (ds : List ℕ) → 10 ≤ n → Writes (n / 10) ds → Writes n (ds ++ ((48 + n % 10) ∷ []))
more_digits n ds le w =
    let lt : n % 10 < 10 = omega arith in
    record {
      digits = record { some = omega (arith, length-append ds ((48 + n % 10) ∷ [])); digits = Are-push (is_digit 10) ds (48 + n % 10) w.digits.digits (digit_byte (n % 10) lt) };
      value = value_push 0 ds (48 + n % 10) ∙ (let v = w.value in let d = digit_worth (n % 10) lt in omega arith);
    }

decimal_writes : (n : ℕ) → n < 2 ^ 64 → Writes n (decimal n)
decimal_writes n lt = decimal_by_steps Writes one_digit more_digits n lt

decimal_magnitude : (n : ℕ) → n < 2 ^ 64 → IsMagnitude (decimal n) n
decimal_magnitude n lt = let w = decimal_writes n lt in inl (w.digits, sym w.value)

small_size : (n : ℕ) → IsSmall (pos n) → n < 2 ^ 64
small_size n h = let k = h.high in omega (arith, ints)

small_negative : (n : ℕ) → IsSmall (negsuc n) → suc n < 2 ^ 64
small_negative n h = let k = h.low in omega (arith, ints)

pub integer_spelled : (z : ℤ) → IsSmall z → IsInteger z (signed_decimal z)
integer_spelled (pos n) h = record { negative = false; size = n; rest = decimal n; parts = refl; magnitude = decimal_magnitude n (small_size n h); value = refl }
integer_spelled (negsuc n) h = record { negative = true; size = suc n; rest = decimal (suc n); parts = refl; magnitude = decimal_magnitude (suc n) (small_negative n h); value = refl }
