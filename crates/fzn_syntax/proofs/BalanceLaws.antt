-- The reader of words whose brackets match.
use Rattle.std.proofs.Common.{◌≡◌, ℕ, Bool, true, false, ◌==◌, List, [], ◌∷◌, ◌++◌, Option, Some, None, inl, inr, refl, ap, ◌∙◌, append_assoc}
use Rattle.std.proofs.lemmas.Bool.{eqb-true}
use Rattle.reading.specs.Language.{◌⨾◌}
use Rattle.reading.specs.Readers.{none}
use Rattle.reading.specs.Machine.{run}
use Rattle.reading.proofs.Laws.{Reads}
use Rattle.reading.proofs.Machines.{Back, Came, Machine, run_reads}
use Rattle.fzn_words.specs.declared.word.Word.{Word}
use Rattle.fzn_syntax.specs.declared.bracket.Bracket.{Bracket}
use Rattle.fzn_syntax.specs.declared.bracket.Bracket.TheVariants as brackets
use Rattle.fzn_syntax.specs.Around.{Around}
use Rattle.fzn_words.specs.Words.{code, terminal}
use Rattle.fzn_syntax.specs.Grammar.{Sign}
use Rattle.fzn_syntax.specs.Balance.{opening, closing, is_inert, Balanced, no_words, inert, matched, IsBody, covered, uncovered, around_by, around_step, enclosed, body_at}
use Rattle.fzn_syntax.proofs.Enclosures.{enclosed_reads}
use Rattle.fzn_syntax.proofs.Firsts.{is_example}
use Rattle.fzn_syntax.proofs.Places.{choose, sign_by, three_parts}
use Rattle.fzn_syntax.proofs.PlacesForth.{sign_code}

-- what may stand up to the end of the outermost bracket
abbrev Behind : List Bracket → List Word → Type 0
Behind [] ws = ws ≡ []
Behind (b ∷ below) ws = (Balanced ⨾ Sign (closing b) ⨾ Behind below) ws

abbrev Follows : Around → List Word → Type 0
Follows p = Behind (p.bracket ∷ p.below)

abbrev at : Bracket → List Bracket → Around
at b s = record { bracket = b; below = s }

-- ---- backwards

opened_back : (k b : Bracket) (s : List Bracket) (w : Word) → Sign (opening k) (w ∷ []) → (ws : List Word) → Behind (k ∷ b ∷ s) ws → Behind (b ∷ s) (w ∷ ws)
opened_back k b s w d ws l =
    let i = l.0 in
    let c = l.4.0 in
    let x = l.4.4.0 in
    let y = l.4.4.1 in
    let parts : ws ≡ (i ++ (c ++ x)) ++ y = three_parts i c x y l.1 l.4.1 ws l.2 l.4.2 l.4.4.2 in
    (w ∷ (i ++ (c ++ x)), y, ap (λ (r : List Word). w ∷ r) parts, matched k (w ∷ []) i c x refl d l.3 l.4.3 l.4.4.3, l.4.4.4)

closed_back : (b : Bracket) (s : List Bracket) (w : Word) → Sign (closing b) (w ∷ []) → Back Follows (at b s) w (Some (uncovered s))
closed_back b [] w d = ([], w ∷ [], refl, no_words refl, (w ∷ [], [], refl, d, refl))
closed_back b (c ∷ s) w d = λ ws l. ([], w ∷ ws, refl, no_words refl, (w ∷ [], ws, refl, d, l))

around_back : (b : Bracket) (s : List Bracket) (w : Word) → Back Follows (at b s) w (around_step (at b s) w)
around_back b s w =
    let n = code (terminal w) in
    let P : Option (Option Around) → Type 0 = Back Follows (at b s) w in
    choose P (n == 4) (covered brackets.Paren (at b s)) _ (λ e. opened_back brackets.Paren b s w (sign_by (opening brackets.Paren) w e))
    (λ _. choose P (n == 6) (covered brackets.Square (at b s)) _ (λ e. opened_back brackets.Square b s w (sign_by (opening brackets.Square) w e))
    (λ _. choose P (n == 8) (covered brackets.Brace (at b s)) _ (λ e. opened_back brackets.Brace b s w (sign_by (opening brackets.Brace) w e))
    (λ _. choose P (n == code (closing b)) (Some (uncovered s)) _ (λ e. closed_back b s w (sign_by (closing b) w e))
    (λ _. choose P (is_inert n) (Some (Some (at b s))) None (λ e. λ ws l. (w ∷ l.0, l.1, ap (λ (r : List Word). w ∷ r) l.2, inert w l.0 refl e l.3, l.4)) (λ _. tt)))))

-- ---- forwards

closing_inert : (b : Bracket) → is_inert (code (closing b)) ≡ false
closing_inert brackets.Paren = refl
closing_inert brackets.Square = refl
closing_inert brackets.Brace = refl

inert_not : (n k : ℕ) (t : Bool) → (n == k) ≡ t → is_inert n ≡ true → is_inert k ≡ false → t ≡ false
inert_not n k true e i j = absurd (let same : n ≡ k = eqb-true n k e in let f : is_inert n ≡ false = rw same j in cc)
inert_not n k false e i j = refl

inert_step : (b : Bracket) (s : List Bracket) (n : ℕ) → is_inert n ≡ true → around_by (at b s) n ≡ Some (Some (at b s))
inert_step b s n i =
    let paren : (n == 4) ≡ false = inert_not n 4 (n == 4) refl i refl in
    let square : (n == 6) ≡ false = inert_not n 6 (n == 6) refl i refl in
    let brace : (n == 8) ≡ false = inert_not n 8 (n == 8) refl i refl in
    let close : (n == code (closing b)) ≡ false = inert_not n (code (closing b)) (n == code (closing b)) refl i (closing_inert b) in
    rw (i, paren, square, brace, close) refl

open_step : (k b : Bracket) (s : List Bracket) → around_by (at b s) (code (opening k)) ≡ Some (Some (at k (b ∷ s)))
open_step brackets.Paren b s = refl
open_step brackets.Square b s = refl
open_step brackets.Brace b s = refl

close_step : (b : Bracket) (s : List Bracket) → around_by (at b s) (code (closing b)) ≡ Some (uncovered s)
close_step brackets.Paren s = refl
close_step brackets.Square s = refl
close_step brackets.Brace s = refl

closes : (b : Bracket) (s : List Bracket) (c t ws : List Word) → ws ≡ c ++ t → Sign (closing b) c → Behind s t → Came around_step Follows (at b s) ws
closes b [] c t ws parts d l =
    let same = sign_code (closing b) c d in
    let stepped : around_step (at b []) d.0 ≡ Some None = rw same (close_step b []) in
    (d.0, t, parts ∙ ap (λ (x : List Word). x ++ t) d.2, inl (stepped, l))
closes b (k ∷ s) c t ws parts d l =
    let same = sign_code (closing b) c d in
    let stepped : around_step (at b (k ∷ s)) d.0 ≡ Some (Some (at k s)) = rw same (close_step b (k ∷ s)) in
    (d.0, t, parts ∙ ap (λ (x : List Word). x ++ t) d.2, inr (at k s, stepped, l))

comes_by : (b : Bracket) (s : List Bracket) (x r ws : List Word) → ws ≡ x ++ r → Balanced x → (Sign (closing b) ⨾ Behind s) r → Came around_step Follows (at b s) ws
comes_by b s x r ws parts (no_words e) d = closes b s d.0 d.1 ws (parts ∙ ap (λ (y : List Word). y ++ r) e ∙ d.2) d.3 d.4
comes_by b s x r ws parts (inert w y e i balanced) d =
    (w, y ++ r, parts ∙ ap (λ (l : List Word). l ++ r) e, inr (at b s, inert_step b s (code (terminal w)) i, (y, r, refl, balanced, d)))
comes_by b s x r ws parts (matched k o i c y e opens inside closing_it balanced) d =
    let w = opens.0 in
    let same = sign_code (opening k) o opens in
    let stepped : around_step (at b s) w ≡ Some (Some (at k (b ∷ s))) = rw same (open_step k b s) in (
      w,
      (i ++ (c ++ y)) ++ r,
      parts ∙ ap (λ (l : List Word). l ++ r) (e ∙ ap (λ (l : List Word). l ++ (i ++ (c ++ y))) opens.2),
      inr (at k (b ∷ s), stepped, (i, (c ++ y) ++ r, append_assoc i (c ++ y) r, inside, (c, y ++ r, append_assoc c y r, closing_it, (y, r, refl, balanced, d)))),
    )

around_ends : (s : List Bracket) → (ws : List Word) × Behind s ws
around_ends [] = ([], refl)
around_ends (b ∷ s) =
    let e = is_example (closing b) in
    let t = around_ends s in
    (e.0 ∷ t.0, ([], e.0 ∷ t.0, refl, no_words refl, (e.0 ∷ [], t.0, refl, sign_by (closing b) e.0 e.1, t.1)))

machine : Machine around_step Follows
machine = record {
  back = λ p w. around_back p.bracket p.below w;
  comes = λ p ws d. comes_by p.bracket p.below d.0 d.1 ws d.2 d.3 d.4;
  ending = λ p. around_ends (p.bracket ∷ p.below);
}

pub body_reads : Reads IsBody none body_at
unfolding body_at
body_reads = enclosed_reads Balanced (run around_step enclosed) (run_reads around_step Follows machine enclosed)
