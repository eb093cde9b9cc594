-- What a byte is tells what it is not.
use Rattle.std.proofs.Common.{◌≡◌, ℕ, ◌≤◌, true, false, refl, arith, ◌⊎◌}
use Rattle.std.specs.Prelude.{◌==◌}
use Rattle.std.proofs.lemmas.Bool.Decides.{nat_tests}
use Rattle.fzn_lex.specs.Classes.{is_digit, is_letter, is_blank, is_inline, is_plain}

pub digit_within : (b : ℕ) → is_digit 10 b ≡ true → (48 ≤ b) × (b ≤ 57)
unfolding is_digit
digit_within b h = grind (arith, nat_tests)

pub digit_is_no_letter : (b : ℕ) → is_digit 10 b ≡ true → is_letter b ≡ false
unfolding is_letter
digit_is_no_letter b h = let w : (48 ≤ b) × (b ≤ 57) = digit_within b h in grind (arith, nat_tests)

-- the bytes that are blanks
pub blank_cases : (b : ℕ) → is_blank b ≡ true → (b ≡ 32) ⊎ ((b ≡ 9) ⊎ ((b ≡ 13) ⊎ (b ≡ 10)))
unfolding is_blank
blank_cases b h = grind (arith, nat_tests)

pub record IsPlain (b : ℕ) : Type 0 where
  pub no_newline : (b == 10) ≡ false
  pub no_quote : (b == 34) ≡ false
  pub no_backslash : (b == 92) ≡ false

pub plain_parts : (b : ℕ) → is_plain b ≡ true → IsPlain b
unfolding is_plain
plain_parts b h = record { no_newline = grind (arith, nat_tests); no_quote = grind (arith, nat_tests); no_backslash = grind (arith, nat_tests) }

pub plain_from : (b : ℕ) → IsPlain b → is_plain b ≡ true
unfolding is_plain
plain_from b p = rw (p.no_quote, p.no_backslash, p.no_newline) refl

pub inline_test : (b : ℕ) → is_inline b ≡ true → (b == 10) ≡ false
unfolding is_inline
inline_test b h = grind (arith, nat_tests)

pub inline_from : (b : ℕ) → (b == 10) ≡ false → is_inline b ≡ true
unfolding is_inline
inline_from b h = rw h refl
