-- The bytes between quotes, as they are read with one flag.
use Rattle.std.proofs.Common.{◌≡◌, ℕ, suc, ◌+◌, ◌≤◌, Bool, true, false, List, [], ◌∷◌, ◌++◌, length, take, refl, ap, arith, inl, inr, Option, Some, None}
use Rattle.std.specs.Prelude.{◌==◌}
use Rattle.std.proofs.lemmas.Bool.{cases_Bool, cond_both, eqb-true}
use Rattle.fzn_lex.specs.Classes.{is_plain, is_inline}
use Rattle.fzn_lex.specs.Tokens.{IsInside, nothing, plain, escaped}
use Rattle.fzn_lex.specs.Scan.{inside_len, more}
use Rattle.fzn_lex.proofs.ByteClasses.{plain_parts, plain_from, inline_test, inline_from}
use Rattle.fzn_lex.proofs.Runs.{one_more}

-- up to the quote stands the inside of a text
pub record IsClosed (bs : List ℕ) (n : ℕ) : Type 0 where
  pub body : List ℕ
  pub parts : take n bs ≡ body ++ 34 ∷ []
  pub inside : IsInside body
  pub fits : n ≤ length bs

-- behind a backslash stands one byte more
pub record IsTaken (bs : List ℕ) (n : ℕ) : Type 0 where
  pub byte : ℕ
  pub body : List ℕ
  pub parts : take n bs ≡ byte ∷ (body ++ 34 ∷ [])
  pub inline : is_inline byte ≡ true
  pub inside : IsInside body
  pub fits : n ≤ length bs

abbrev pub Closes : Bool → List ℕ → Option ℕ → Type 0
Closes flag bs None = Unit {0}
Closes false bs (Some n) = IsClosed bs n
Closes true bs (Some n) = IsTaken bs n

take_step : (b n : ℕ) (bs us : List ℕ) → take n bs ≡ us → take (1 + n) (b ∷ bs) ≡ b ∷ us
take_step b n bs us e = rw (one_more n, e) refl

behind : (b : ℕ) (bs : List ℕ) → (b == 10) ≡ false → (o : Option ℕ) → Closes false bs o → Closes true (b ∷ bs) (more 1 o)
behind b bs line None h = tt
behind b bs line (Some n) h = record {
  byte = b;
  body = h.body;
  parts = take_step b n bs _ h.parts;
  inline = inline_from b line;
  inside = h.inside;
  fits = let f : n ≤ length bs = h.fits in omega arith;
}

after_plain : (b : ℕ) (bs : List ℕ) → is_plain b ≡ true → (o : Option ℕ) → Closes false bs o → Closes false (b ∷ bs) (more 1 o)
after_plain b bs p None h = tt
after_plain b bs p (Some n) h = record {
  body = b ∷ h.body;
  parts = take_step b n bs _ h.parts;
  inside = plain p h.inside;
  fits = let f : n ≤ length bs = h.fits in omega arith;
}

after_backslash : (b : ℕ) (bs : List ℕ) → b ≡ 92 → (o : Option ℕ) → Closes true bs o → Closes false (b ∷ bs) (more 1 o)
after_backslash b bs e None h = tt
after_backslash b bs e (Some n) h = record {
  body = b ∷ h.byte ∷ h.body;
  parts = take_step b n bs _ h.parts;
  inside = escaped e h.inline h.inside;
  fits = let f : n ≤ length bs = h.fits in omega arith;
}

at_quote : (b : ℕ) (bs : List ℕ) → b ≡ 34 → Closes false (b ∷ bs) (Some 1)
at_quote b bs e = record { body = []; parts = ap (λ (x : ℕ). x ∷ []) e; inside = nothing; fits = omega arith }

pub inside_closes : (flag : Bool) (bs : List ℕ) → Closes flag bs (inside_len flag bs)
inside_closes true [] = tt
inside_closes false [] = tt
inside_closes true (b ∷ bs) =
    cond_both (b == 10) _ _ (Closes true (b ∷ bs)) (λ _. tt) (λ line. behind b bs line (inside_len false bs) (inside_closes false bs))
inside_closes false (b ∷ bs) =
    cond_both (b == 10) _ _ (Closes false (b ∷ bs)) (λ _. tt) (λ line.
    cond_both (b == 34) _ _ (Closes false (b ∷ bs)) (λ e. at_quote b bs (eqb-true b 34 e)) (λ quote.
    elim (cases_Bool (b == 92)) [
      | inl back ↦ rw back (after_backslash b bs (eqb-true b 92 back) (inside_len true bs) (inside_closes true bs))
      | inr other ↦ rw other (after_plain b bs (plain_from b (record { no_newline = line; no_quote = quote; no_backslash = other })) (inside_len false bs) (inside_closes false bs))
    ]))

pub inside_found : {body : List ℕ} → IsInside body → (r : List ℕ) → inside_len false (body ++ 34 ∷ r) ≡ Some (length body + 1)
inside_found nothing r = refl
inside_found (plain {b} {bs} p d) r =
    let w = plain_parts b p in
    rw (w.no_newline, w.no_quote, w.no_backslash, inside_found d r) (let e : 1 + (length bs + 1) ≡ suc (length bs) + 1 = omega arith in ap Some e)
inside_found (escaped {b} {c} {bs} e p d) r =
    rw e (rw (inline_test c p, inside_found d r) (let e : 1 + (1 + (length bs + 1)) ≡ suc (suc (length bs)) + 1 = omega arith in ap Some e))
