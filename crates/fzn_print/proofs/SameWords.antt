-- Words that are the same, places aside, are of the same productions.
use Rattle.std.proofs.Common.{◌≡◌, ℕ, Bool, true, false, cond, List, [], ◌∷◌, ◌++◌, Option, Some, None, refl, sym, ap, subst, ◌∙◌}
use Rattle.std.proofs.lemmas.Option.{cond_some}
use Rattle.std.specs.Prelude.{◌==◌}
use Rattle.std.specs.List.{AllByRecursion}
use Rattle.fzn_lex.specs.declared.words.What.TheVariants as what
use Rattle.reading.specs.Language.{◌⨾◌, Nothing, One, Each, MaybeListed}
use Rattle.fzn_words.specs.declared.word.Word.{Word}
use Rattle.fzn_syntax.specs.declared.identifier.Identifier.{Identifier}
use Rattle.fzn_syntax.specs.declared.number.Number.{Number}
use Rattle.fzn_syntax.specs.declared.number.Bounds.{Bounds}
use Rattle.fzn_syntax.specs.declared.expression.Basic.{Basic}
use Rattle.fzn_syntax.specs.declared.expression.Basic.TheVariants as basics
use Rattle.fzn_words.specs.Words.{code, terminal_by, terminal, kept_text}
use Rattle.fzn_syntax.specs.Grammar.{number_worth, name_worth, IsName, IsNumber, IsBounds, IsSet, IsBasic}
use Rattle.fzn_syntax.specs.Arguments.{Argument, basic, text, call, list, Inside, empty, filled, Others, no_others, next, IsArguments}
use Rattle.fzn_syntax.specs.Balance.{opening, closing, is_inert, Balanced, no_words, inert, matched, IsBody}
use Rattle.fzn_print.specs.Marks.{Mark, token, each}
use Rattle.fzn_print.specs.Canonical.{word_marks, flat_marks}
use Rattle.fzn_print.proofs.Codes.{coded, Coded, name_code, left_brace_code, right_brace_code, comma_code, dot_dot_code, left_paren_code, right_paren_code, left_bracket_code, right_bracket_code, true_code, false_code, text_code}
use Rattle.fzn_print.proofs.Back.{AreAlike}
use Rattle.fzn_syntax.proofs.Spelled.{AreKept}

-- the words are the same, places aside
abbrev pub AreSame : List Word → List Word → Type 0
AreSame [] us = us ≡ []
AreSame (w ∷ ws) us = (v : Word) × (vs : List Word) × (us ≡ v ∷ vs) × (v.what ≡ w.what) × (v.text ≡ w.text) × AreSame ws vs

pub record SameParts (a b us : List Word) : Type 0 where
  pub front : List Word
  pub back : List Word
  pub parts : us ≡ front ++ back
  pub front_is : AreSame a front
  pub back_is : AreSame b back

pub same_parts : (a b us : List Word) → AreSame (a ++ b) us → SameParts a b us
same_parts [] b us h = record { front = []; back = us; parts = refl; front_is = refl; back_is = h }
same_parts (w ∷ a) b us (v, vs, e, is, same, h) =
    let p = same_parts a b vs h in
    record { front = v ∷ p.front; back = p.back; parts = e ∙ ap (λ (l : List Word). v ∷ l) p.parts; front_is = (v, p.front, refl, is, same, p.front_is); back_is = p.back_is }

-- the words of flat marks
pub flat_same : (ws us : List Word) → AreKept ws → AreAlike us (flat_marks ws) → AreSame ws us
flat_same [] us k h = h
flat_same (w ∷ ws) us (good, k) (v, vs, e, is, same, h) = (v, vs, e, is, same ∙ sym good.1, flat_same ws vs k h)

-- ---- single words

one_same : {X : Type 0} (f : Word → Option X) (x : X) (ws us : List Word) → ((v s : Word) → v.what ≡ s.what → v.text ≡ s.text → f v ≡ f s) → One f x ws → AreSame ws us → One f x us
one_same f x ws us same (s, worth, e) h =
    let k : AreSame (s ∷ []) us = subst (λ (l : List Word). AreSame l us) e h in
    (k.0, same k.0 s k.3 k.4 ∙ worth, k.2 ∙ ap (λ (l : List Word). k.0 ∷ l) k.5)

coded_alike : (n : ℕ) (v s : Word) → v.what ≡ s.what → v.text ≡ s.text → coded n v ≡ coded n s
coded_alike n v s e d = rw (e, d) refl

pub coded_same : (n : ℕ) (ws us : List Word) → Coded n ws → AreSame ws us → Coded n us
coded_same n ws us d h = one_same (coded n) tt ws us (coded_alike n) d h

number_alike : (v s : Word) → v.what ≡ s.what → v.text ≡ s.text → number_worth v ≡ number_worth s
number_alike v s e d = rw (e, d) refl

number_same : (n : Number) (ws us : List Word) → IsNumber n ws → AreSame ws us → IsNumber n us
number_same n ws us d h = one_same number_worth n ws us number_alike d h

named : (v s : Word) → v.what ≡ s.what → v.text ≡ s.text → (code (terminal s) == name_code) ≡ true → name_worth v ≡ Some (record { name = v.text; at = v.at })
named v s e d h = let k : (code (terminal v) == name_code) ≡ true = rw (e, d) h in rw k refl

pub name_same : (n : Identifier) (ws us : List Word) → IsName n ws → AreSame ws us → (m : Identifier) × IsName m us
name_same n ws us (s, worth, e) h =
    let k : AreSame (s ∷ []) us = subst (λ (l : List Word). AreSame l us) e h in
    let is = (cond_some (code (terminal s) == name_code) (record { name = s.text; at = s.at }) n worth).0 in
    (record { name = k.0.text; at = k.0.at }, (k.0, named k.0 s k.3 k.4 is, k.2 ∙ ap (λ (l : List Word). k.0 ∷ l) k.5))

-- ---- joined

both_same : (A B C D : List Word → Type 0) (ws us : List Word) → ((x y : List Word) → A x → AreSame x y → C y) → ((x y : List Word) → B x → AreSame x y → D y)
    → (A ⨾ B) ws → AreSame ws us → (C ⨾ D) us
both_same A B C D ws us f g (a, b, e, x, y) h =
    let p = same_parts a b us (subst (λ (l : List Word). AreSame l us) e h) in
    (p.front, p.back, p.parts, f a p.front x p.front_is, g b p.back y p.back_is)

bounds_same : (b : Bounds) (ws us : List Word) → IsBounds b ws → AreSame ws us → IsBounds b us
bounds_same b ws us d h =
    both_same (IsNumber b.lower) (Coded dot_dot_code ⨾ IsNumber b.upper) (IsNumber b.lower) (Coded dot_dot_code ⨾ IsNumber b.upper) ws us (number_same b.lower)
    (λ x y. both_same (Coded dot_dot_code) (IsNumber b.upper) (Coded dot_dot_code) (IsNumber b.upper) x y (coded_same dot_dot_code) (number_same b.upper)) d h

others_same : (ns : List Number) (ws us : List Word) → Each (λ n. Coded comma_code ⨾ IsNumber n) ns ws → AreSame ws us → Each (λ n. Coded comma_code ⨾ IsNumber n) ns us
others_same [] ws us d h = subst (λ (l : List Word). AreSame l us) d h
others_same (n ∷ ns) ws us d h =
    both_same (Coded comma_code ⨾ IsNumber n) (Each (λ m. Coded comma_code ⨾ IsNumber m) ns) (Coded comma_code ⨾ IsNumber n) (Each (λ m. Coded comma_code ⨾ IsNumber m) ns) ws us
    (λ x y. both_same (Coded comma_code) (IsNumber n) (Coded comma_code) (IsNumber n) x y (coded_same comma_code) (number_same n)) (others_same ns) d h

listed_same : (ns : List Number) (ws us : List Word) → MaybeListed (Coded comma_code) IsNumber ns ws → AreSame ws us → MaybeListed (Coded comma_code) IsNumber ns us
listed_same [] ws us d h = subst (λ (l : List Word). AreSame l us) d h
listed_same (n ∷ ns) ws us d h =
    both_same (IsNumber n) (Each (λ m. Coded comma_code ⨾ IsNumber m) ns) (IsNumber n) (Each (λ m. Coded comma_code ⨾ IsNumber m) ns) ws us (number_same n) (others_same ns) d h

set_same : (ns : List Number) (ws us : List Word) → IsSet ns ws → AreSame ws us → IsSet ns us
set_same ns ws us d h =
    both_same (Coded left_brace_code) (MaybeListed (Coded comma_code) IsNumber ns ⨾ Coded right_brace_code) (Coded left_brace_code) (MaybeListed (Coded comma_code) IsNumber ns ⨾ Coded right_brace_code)
    ws us (coded_same left_brace_code)
    (λ x y. both_same (MaybeListed (Coded comma_code) IsNumber ns) (Coded right_brace_code) (MaybeListed (Coded comma_code) IsNumber ns) (Coded right_brace_code) x y (listed_same ns) (coded_same right_brace_code)) d h

basic_same : (b : Basic) (ws us : List Word) → IsBasic b ws → AreSame ws us → (c : Basic) × IsBasic c us
basic_same basics.True ws us d h = (basics.True, coded_same true_code ws us d h)
basic_same basics.False ws us d h = (basics.False, coded_same false_code ws us d h)
basic_same (basics.Name n) ws us d h = let m = name_same n ws us d h in (basics.Name m.0, m.1)
basic_same (basics.Number n) ws us d h = (basics.Number n, number_same n ws us d h)
basic_same (basics.Range b) ws us d h = (basics.Range b, bounds_same b ws us d h)
basic_same (basics.Set ns) ws us d h = (basics.Set ns, set_same ns ws us d h)

-- ---- nested

mutual
  argument_same : {ws : List Word} → Argument ws → (us : List Word) → AreSame ws us → Argument us
  argument_same {ws} (basic x d) us h = let b = basic_same x ws us d h in basic b.0 b.1
  argument_same {ws} (text d) us h = text (coded_same text_code ws us d h)
  argument_same {ws} (call n a o i c e d op k cl) us h =
      let p = same_parts a (o ++ (i ++ c)) us (subst (λ (l : List Word). AreSame l us) e h) in
      let q = same_parts o (i ++ c) p.back p.back_is in
      let r = same_parts i c q.back q.back_is in
      let m = name_same n a p.front d p.front_is in
      call m.0 p.front q.front r.front r.back (p.parts ∙ ap (λ (l : List Word). p.front ++ l) (q.parts ∙ ap (λ (l : List Word). q.front ++ l) r.parts))
      m.1 (coded_same left_paren_code o q.front op q.front_is) (inside_same k r.front r.front_is) (coded_same right_paren_code c r.back cl r.back_is)
  argument_same {ws} (list o i c e op k cl) us h =
      let q = same_parts o (i ++ c) us (subst (λ (l : List Word). AreSame l us) e h) in
      let r = same_parts i c q.back q.back_is in
      list q.front r.front r.back (q.parts ∙ ap (λ (l : List Word). q.front ++ l) r.parts)
      (coded_same left_bracket_code o q.front op q.front_is) (inside_same k r.front r.front_is) (coded_same right_bracket_code c r.back cl r.back_is)

  inside_same : {ws : List Word} → Inside ws → (us : List Word) → AreSame ws us → Inside us
  inside_same {ws} (empty e) us h = empty (subst (λ (l : List Word). AreSame l us) e h)
  inside_same {ws} (filled a b e x y) us h =
      let p = same_parts a b us (subst (λ (l : List Word). AreSame l us) e h) in
      filled p.front p.back p.parts (argument_same x p.front p.front_is) (others_arguments y p.back p.back_is)

  others_arguments : {ws : List Word} → Others ws → (us : List Word) → AreSame ws us → Others us
  others_arguments {ws} (no_others e) us h = no_others (subst (λ (l : List Word). AreSame l us) e h)
  others_arguments {ws} (next c a b e s x y) us h =
      let p = same_parts c (a ++ b) us (subst (λ (l : List Word). AreSame l us) e h) in
      let q = same_parts a b p.back p.back_is in
      next p.front q.front q.back (p.parts ∙ ap (λ (l : List Word). p.front ++ l) q.parts) (coded_same comma_code c p.front s p.front_is) (argument_same x q.front q.front_is) (others_arguments y q.back q.back_is)

pub arguments_same : (ws us : List Word) → IsArguments ws ws → AreSame ws us → IsArguments us us
arguments_same ws us (e, d) h = (
  refl,
  both_same (Coded left_paren_code) (Inside ⨾ Coded right_paren_code) (Coded left_paren_code) (Inside ⨾ Coded right_paren_code) ws us (coded_same left_paren_code)
      (λ x y. both_same Inside (Coded right_paren_code) Inside (Coded right_paren_code) x y (λ a b k s. inside_same k b s) (coded_same right_paren_code)) d h,
)

inert_same : (v w : Word) → v.what ≡ w.what → v.text ≡ w.text → is_inert (code (terminal w)) ≡ true → is_inert (code (terminal v)) ≡ true
inert_same v w e d h = rw (e, d) h

balanced_same : {ws : List Word} → Balanced ws → (us : List Word) → AreSame ws us → Balanced us
balanced_same {ws} (no_words e) us h = no_words (subst (λ (l : List Word). AreSame l us) e h)
balanced_same {ws} (inert w r e i d) us h =
    let k : AreSame (w ∷ r) us = subst (λ (l : List Word). AreSame l us) e h in
    inert k.0 k.1 k.2 (inert_same k.0 w k.3 k.4 i) (balanced_same d k.1 k.5)
balanced_same {ws} (matched b o i c r e op x cl y) us h =
    let p = same_parts o (i ++ (c ++ r)) us (subst (λ (l : List Word). AreSame l us) e h) in
    let q = same_parts i (c ++ r) p.back p.back_is in
    let s = same_parts c r q.back q.back_is in
    matched b p.front q.front s.front s.back (p.parts ∙ ap (λ (l : List Word). p.front ++ l) (q.parts ∙ ap (λ (l : List Word). q.front ++ l) s.parts))
    (coded_same (code (opening b)) o p.front op p.front_is) (balanced_same x q.front q.front_is) (coded_same (code (closing b)) c s.front cl s.front_is) (balanced_same y s.back s.back_is)

pub body_same : (ws us : List Word) → IsBody ws ws → AreSame ws us → IsBody us us
body_same ws us (e, d) h = (
  refl,
  both_same (Coded left_paren_code) (Balanced ⨾ Coded right_paren_code) (Coded left_paren_code) (Balanced ⨾ Coded right_paren_code) ws us (coded_same left_paren_code)
      (λ x y. both_same Balanced (Coded right_paren_code) Balanced (Coded right_paren_code) x y (λ a b k s. balanced_same k b s) (coded_same right_paren_code)) d h,
)
