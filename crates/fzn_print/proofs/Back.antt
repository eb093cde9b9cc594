-- The words of a printed production are that production again, places aside.
use Rattle.std.proofs.Common.{◌≡◌, ◌≢◌, ℕ, zero, suc, ◌+◌, ◌-◌, Bool, true, false, cond, List, [], ◌∷◌, ◌++◌, length, map, take, drop, Option, Some, None, refl, sym, ap, subst, ◌∙◌, append_assoc, codes}
use Rattle.std.proofs.lemmas.Bool.{eq-eqb}
use Rattle.fzn_lex.specs.declared.words.What.{What}
use Rattle.fzn_lex.specs.declared.words.What.TheVariants as what
use Rattle.fzn_lex.specs.declared.tokens.Token.{Token}
use Rattle.fzn_lex.specs.Cutting.{Cutting, bytes_of, tokens_of}
use Rattle.fzn_lex.proofs.TightPieces.{Spelling, words_of, read_word, words_read}
use Rattle.fzn_print.specs.Spelling.{spelling_of}
use Rattle.reading.specs.Language.{◌⨾◌, Nothing, One, Each, MaybeListed}
use Rattle.fzn_words.specs.declared.word.Word.{Word}
use Rattle.fzn_syntax.specs.declared.identifier.Identifier.{Identifier}
use Rattle.fzn_syntax.specs.declared.number.Number.{Number}
use Rattle.fzn_syntax.specs.declared.number.Number.TheVariants as numbers
use Rattle.fzn_syntax.specs.declared.number.Bounds.{Bounds}
use Rattle.fzn_syntax.specs.declared.element.Element.{Element}
use Rattle.fzn_syntax.specs.declared.element.Element.TheVariants as elements
use Rattle.fzn_syntax.specs.declared.element.ParameterType.{ParameterType}
use Rattle.fzn_syntax.specs.declared.element.ParameterType.TheVariants as parameters
use Rattle.fzn_syntax.specs.declared.element.VariableType.{VariableType}
use Rattle.fzn_syntax.specs.declared.element.VariableType.TheVariants as variables
use Rattle.fzn_words.specs.Words.{code, terminal_by, terminal, kept_text, word_of, words, is}
use Rattle.fzn_syntax.specs.Grammar.{number_of, IsName, IsNumber, IsBounds, IsSet, IsElement, IsParameterType, IsDomain, IsVariableType}
use Rattle.fzn_print.proofs.Codes.{Coded, coded_is, bool_code, comma_code, dot_dot_code, float_word_code, int_word_code, left_brace_code, of_code, right_brace_code, set_code, var_code}
use Rattle.fzn_print.specs.Marks.{Mark, token, space, newline, symbol, name, text_of, others, listed}
use Rattle.fzn_print.specs.Canonical.{number_marks, bounds_marks, set_marks, element_marks, set_of_marks, parameter_type_marks, domain_marks, variable_type_marks}
use Rattle.fzn_print.proofs.Apart.{piece_of, pieces_of, pieces_text}

-- the words are those of the marks, wherever they stand
abbrev pub AreAlike : List Word → List Mark → Type 0
AreAlike ws [] = ws ≡ []
AreAlike ws (token w text ∷ ms) = (v : Word) × (vs : List Word) × (ws ≡ v ∷ vs) × (v.what ≡ w) × (v.text ≡ kept_text w text) × AreAlike vs ms
AreAlike ws (space ∷ ms) = AreAlike ws ms
AreAlike ws (newline ∷ ms) = AreAlike ws ms

pub record AlikeParts (ws : List Word) (ms ns : List Mark) : Type 0 where
  pub front : List Word
  pub back : List Word
  pub parts : ws ≡ front ++ back
  pub front_is : AreAlike front ms
  pub back_is : AreAlike back ns

pub alike_parts : (ws : List Word) (ms ns : List Mark) → AreAlike ws (ms ++ ns) → AlikeParts ws ms ns
alike_parts ws [] ns h = record { front = []; back = ws; parts = refl; front_is = refl; back_is = h }
alike_parts ws (token w text ∷ ms) ns (v, vs, e, is, same, h) =
    let p = alike_parts vs ms ns h in
    record { front = v ∷ p.front; back = p.back; parts = e ∙ ap (λ (l : List Word). v ∷ l) p.parts; front_is = (v, p.front, refl, is, same, p.front_is); back_is = p.back_is }
alike_parts ws (space ∷ ms) ns h = let p = alike_parts ws ms ns h in record { front = p.front; back = p.back; parts = p.parts; front_is = p.front_is; back_is = p.back_is }
alike_parts ws (newline ∷ ms) ns h = let p = alike_parts ws ms ns h in record { front = p.front; back = p.back; parts = p.parts; front_is = p.front_is; back_is = p.back_is }

-- ---- the words that the lexer gives

spelled_kept : (w : What) (text : List ℕ) → kept_text w (spelling_of w text) ≡ kept_text w text
spelled_kept what.Name text = refl
spelled_kept what.Float text = refl
spelled_kept what.Text text = refl
spelled_kept (what.Int z) text = refl
spelled_kept what.LeftParen text = refl
spelled_kept what.RightParen text = refl
spelled_kept what.LeftBracket text = refl
spelled_kept what.RightBracket text = refl
spelled_kept what.LeftBrace text = refl
spelled_kept what.RightBrace text = refl
spelled_kept what.Comma text = refl
spelled_kept what.Semicolon text = refl
spelled_kept what.Colon text = refl
spelled_kept what.DoubleColon text = refl
spelled_kept what.Equal text = refl
spelled_kept what.DotDot text = refl

no_words : (bytes : List ℕ) (ts : List Token) → map (read_word bytes) ts ≡ [] → words bytes ts ≡ []
no_words bytes [] e = refl
no_words bytes (t ∷ ts) e = absurd cc

one_word : (bytes : List ℕ) (ts : List Token) (w : What) (text : List ℕ) (more : List Spelling) (ms : List Mark)
    → ((us : List Token) → map (read_word bytes) us ≡ more → AreAlike (words bytes us) ms)
    → map (read_word bytes) ts ≡ record { what = w; text = spelling_of w text } ∷ more → AreAlike (words bytes ts) (token w text ∷ ms)
one_word bytes [] w text more ms go e = absurd cc
one_word bytes (t ∷ ts) w text more ms go e =
    let head : read_word bytes t ≡ record { what = w; text = spelling_of w text } = cc in
    let tail : map (read_word bytes) ts ≡ more = cc in
    let is : t.what ≡ w = ap (λ (s : Spelling). s.what) head in
    let same : take (t.end - t.start) (drop t.start bytes) ≡ spelling_of w text = ap (λ (s : Spelling). s.text) head in
    (word_of bytes t, words bytes ts, refl, is, rw (is, same) (spelled_kept w text), go ts tail)

alike_words : (bytes : List ℕ) (ts : List Token) (ms : List Mark) → map (read_word bytes) ts ≡ words_of (pieces_of ms) → AreAlike (words bytes ts) ms
alike_words bytes ts [] e = no_words bytes ts e
alike_words bytes ts (token w text ∷ ms) e = one_word bytes ts w text (words_of (pieces_of ms)) ms (λ us f. alike_words bytes us ms f) e
alike_words bytes ts (space ∷ ms) e = alike_words bytes ts ms e
alike_words bytes ts (newline ∷ ms) e = alike_words bytes ts ms e

-- the tokens that a printed text is cut into are its marks
pub printed_words : (ms : List Mark) → AreAlike (words (text_of ms) (tokens_of 0 (pieces_of ms))) ms
printed_words ms = alike_words (text_of ms) (tokens_of 0 (pieces_of ms)) ms (rw (← pieces_text ms) (words_read (pieces_of ms)))

-- ---- single words

pub sign_back : (n : ℕ) (w : What) (text : List ℕ) (ws : List Word) → code (terminal_by w (kept_text w text)) ≡ n → AreAlike ws (token w text ∷ []) → Coded n ws
sign_back n w text ws e (v, vs, parts, is, same, none) = (v, coded_is n v (rw (is, same) e), parts ∙ ap (λ (l : List Word). v ∷ l) none)

pub number_back : (n : Number) (ws : List Word) → AreAlike ws (number_marks n) → IsNumber n ws
number_back (numbers.Int z) ws (v, vs, parts, is, same, none) = (v, rw is refl, parts ∙ ap (λ (l : List Word). v ∷ l) none)
number_back (numbers.Float text) ws (v, vs, parts, is, same, none) = (v, rw (is, same) refl, parts ∙ ap (λ (l : List Word). v ∷ l) none)

-- a first token and what stands behind it
pub cons_back : (A B : List Word → Type 0) (w : What) (text : List ℕ) (ms : List Mark) (ws : List Word) → ((us : List Word) → AreAlike us (token w text ∷ []) → A us)
    → ((us : List Word) → AreAlike us ms → B us) → AreAlike ws (token w text ∷ ms) → (A ⨾ B) ws
cons_back A B w text ms ws first then_rest (v, vs, parts, is, same, h) = (v ∷ [], vs, parts, first (v ∷ []) (v, [], refl, is, same, refl), then_rest vs h)

pub parts_back : (A B : List Word → Type 0) (ms ns : List Mark) (ws : List Word) → ((us : List Word) → AreAlike us ms → A us)
    → ((us : List Word) → AreAlike us ns → B us) → AreAlike ws (ms ++ ns) → (A ⨾ B) ws
parts_back A B ms ns ws first then_rest h =
    let p = alike_parts ws ms ns h in (p.front, p.back, p.parts, first p.front p.front_is, then_rest p.back p.back_is)

pub dots_terminal : code (terminal_by what.DotDot []) ≡ dot_dot_code
unfolding terminal_by
dots_terminal = refl

pub comma_terminal : code (terminal_by what.Comma []) ≡ comma_code
unfolding terminal_by
comma_terminal = refl

open_brace_terminal : code (terminal_by what.LeftBrace []) ≡ left_brace_code
unfolding terminal_by
open_brace_terminal = refl

close_brace_terminal : code (terminal_by what.RightBrace []) ≡ right_brace_code
unfolding terminal_by
close_brace_terminal = refl

pub bounds_back : (b : Bounds) (ws : List Word) → AreAlike ws (bounds_marks b) → IsBounds b ws
bounds_back b ws h =
    parts_back (IsNumber b.lower) (Coded dot_dot_code ⨾ IsNumber b.upper) (number_marks b.lower) (symbol what.DotDot ∷ number_marks b.upper) ws (number_back b.lower)
    (λ us g. cons_back (Coded dot_dot_code) (IsNumber b.upper) what.DotDot [] (number_marks b.upper) us (λ vs k. sign_back dot_dot_code what.DotDot [] vs dots_terminal k) (number_back b.upper) g) h

-- lists with commas
module _ {X : Type 0} (f : X → List Mark) (D : X → List Word → Type 0) (back : (x : X) (ws : List Word) → AreAlike ws (f x) → D x ws) where
  others_back : (xs : List X) (ws : List Word) → AreAlike ws (others f xs) → Each (λ y. Coded comma_code ⨾ D y) xs ws
  others_back [] ws h = h
  others_back (x ∷ xs) (ws) (v, vs, parts, is, same, h) =
      let p = alike_parts vs (f x) (others f xs) h in (
        v ∷ p.front,
        p.back,
        parts ∙ ap (λ (l : List Word). v ∷ l) p.parts,
        (v ∷ [], p.front, refl, sign_back comma_code what.Comma [] (v ∷ []) comma_terminal (v, [], refl, is, same, refl), back x p.front p.front_is),
        others_back xs p.back p.back_is,
      )

  pub listed_back : (xs : List X) (ws : List Word) → AreAlike ws (listed f xs) → MaybeListed (Coded comma_code) D xs ws
  listed_back [] ws h = h
  listed_back (x ∷ xs) ws h =
      parts_back (D x) (Each (λ y. Coded comma_code ⨾ D y) xs) (f x) (others f xs) ws (back x) (others_back xs) h

pub set_back : (ns : List Number) (ws : List Word) → AreAlike ws (set_marks ns) → IsSet ns ws
set_back ns ws h =
    cons_back (Coded left_brace_code) (MaybeListed (Coded comma_code) IsNumber ns ⨾ Coded right_brace_code) what.LeftBrace [] (listed number_marks ns ++ symbol what.RightBrace ∷ []) ws
    (λ us k. sign_back left_brace_code what.LeftBrace [] us open_brace_terminal k)
    (λ us g. parts_back (MaybeListed (Coded comma_code) IsNumber ns) (Coded right_brace_code) (listed number_marks ns) (symbol what.RightBrace ∷ []) us
    (listed_back number_marks IsNumber number_back ns) (λ vs k. sign_back right_brace_code what.RightBrace [] vs close_brace_terminal k) g) h

-- ---- types

-- one reserved word
pub word_back : (n : ℕ) (text : List ℕ) (ws : List Word) → code (terminal_by what.Name text) ≡ n → AreAlike ws (name text ∷ []) → Coded n ws
word_back n text ws e h = sign_back n what.Name text ws e h

int_terminal : code (terminal_by what.Name (codes "int")) ≡ int_word_code
unfolding terminal_by
int_terminal = refl

float_terminal : code (terminal_by what.Name (codes "float")) ≡ float_word_code
unfolding terminal_by
float_terminal = refl

bool_terminal : code (terminal_by what.Name (codes "bool")) ≡ bool_code
unfolding terminal_by
bool_terminal = refl

set_terminal : code (terminal_by what.Name (codes "set")) ≡ set_code
unfolding terminal_by
set_terminal = refl

pub of_terminal : code (terminal_by what.Name (codes "of")) ≡ of_code
unfolding terminal_by
of_terminal = refl

var_terminal : code (terminal_by what.Name (codes "var")) ≡ var_code
unfolding terminal_by
var_terminal = refl

pub element_back : (e : Element) (ws : List Word) → AreAlike ws (element_marks e) → IsElement e ws
element_back elements.Int ws h = word_back int_word_code (codes "int") ws int_terminal h
element_back elements.Float ws h = word_back float_word_code (codes "float") ws float_terminal h
element_back (elements.Range b) ws h = bounds_back b ws h
element_back (elements.Set ns) ws h = set_back ns ws h

-- a reserved word and a space before the rest
pub spaced_back : (n : ℕ) (text : List ℕ) (B : List Word → Type 0) (ms : List Mark) (ws : List Word) → code (terminal_by what.Name text) ≡ n → ((us : List Word) → AreAlike us ms → B us)
    → AreAlike ws (name text ∷ space ∷ ms) → (Coded n ⨾ B) ws
spaced_back n text B ms ws e then_rest h = cons_back (Coded n) B what.Name text (space ∷ ms) ws (λ us g. word_back n text us e g) then_rest h

set_of_back : (e : Element) (ws : List Word) → AreAlike ws (set_of_marks e) → (Coded set_code ⨾ Coded of_code ⨾ IsElement e) ws
set_of_back e ws h =
    spaced_back set_code (codes "set") (Coded of_code ⨾ IsElement e) (name (codes "of") ∷ space ∷ element_marks e) ws set_terminal
    (λ us g. spaced_back of_code (codes "of") (IsElement e) (element_marks e) us of_terminal (element_back e) g) h

pub parameter_type_back : (t : ParameterType) (ws : List Word) → AreAlike ws (parameter_type_marks t) → IsParameterType t ws
parameter_type_back parameters.Bool ws h = word_back bool_code (codes "bool") ws bool_terminal h
parameter_type_back parameters.Int ws h = word_back int_word_code (codes "int") ws int_terminal h
parameter_type_back parameters.Float ws h = word_back float_word_code (codes "float") ws float_terminal h
parameter_type_back (parameters.SetOf e) ws h = set_of_back e ws h

domain_back : (t : VariableType) (ws : List Word) → AreAlike ws (domain_marks t) → IsDomain t ws
domain_back variables.Bool ws h = word_back bool_code (codes "bool") ws bool_terminal h
domain_back (variables.Plain e) ws h = element_back e ws h
domain_back (variables.SetOf e) ws h = set_of_back e ws h

pub variable_type_back : (t : VariableType) (ws : List Word) → AreAlike ws (variable_type_marks t) → IsVariableType t ws
variable_type_back t ws h = spaced_back var_code (codes "var") (IsDomain t) (domain_marks t) ws var_terminal (domain_back t) h
