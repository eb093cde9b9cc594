-- No word of flat arguments or of a predicate's body goes on into what follows it.
use Rattle.std.proofs.Common.{◌≡◌, ◌≢◌, ℕ, suc, ◌+◌, ◌-◌, ◌≤◌, Bool, true, false, cond, List, [], ◌∷◌, ◌++◌, length, take, drop, Option, Some, None, refl, sym, ap, subst, ◌∙◌, append_assoc, arith}
use Rattle.std.proofs.lemmas.Option.{cond_some}
use Rattle.std.specs.Prelude.{◌==◌}
use Rattle.std.specs.List.{AllByRecursion}
use Rattle.std.proofs.lemmas.Bool.{eqb-true}
use Rattle.std.proofs.lemmas.List.{length-append, take_at, drop_at, append-nil}
use Rattle.fzn_lex.specs.declared.words.What.{What}
use Rattle.fzn_lex.specs.declared.words.What.TheVariants as what
use Rattle.fzn_lex.proofs.TightPieces.{NumberStops}
use Rattle.fzn_print.specs.Spelling.{spelling_of}
use Rattle.fzn_print.proofs.Spelled.{TokenStops}
use Rattle.reading.specs.Language.{◌⨾◌, Nothing, One, Each, MaybeListed}
use Rattle.fzn_words.specs.declared.word.Word.{Word}
use Rattle.fzn_syntax.specs.declared.identifier.Identifier.{Identifier}
use Rattle.fzn_syntax.specs.declared.number.Number.{Number}
use Rattle.fzn_syntax.specs.declared.number.Number.TheVariants as numbers
use Rattle.fzn_syntax.specs.declared.number.Bounds.{Bounds}
use Rattle.fzn_syntax.specs.declared.expression.Basic.{Basic}
use Rattle.fzn_syntax.specs.declared.expression.Basic.TheVariants as basics
use Rattle.fzn_words.specs.Words.{code, terminal_by, terminal, kept_text}
use Rattle.fzn_syntax.specs.Grammar.{number_of, number_worth, name_worth, IsName, IsNumber, IsBounds, IsSet, IsBasic}
use Rattle.fzn_syntax.specs.Arguments.{Argument, basic, text, call, list, Inside, empty, filled, Others, no_others, next, IsArguments}
use Rattle.fzn_syntax.specs.Balance.{Balanced, IsBody}
use Rattle.fzn_print.specs.Marks.{Mark, token, space, text_of, each}
use Rattle.fzn_print.specs.Canonical.{word_marks, flat_marks, spaced_word, spaced_marks, body_marks}
use Rattle.fzn_print.proofs.Codes.{coded, Coded, name_code, left_brace_code, right_brace_code, comma_code, colon_code, dot_dot_code, left_paren_code, right_paren_code, left_bracket_code, right_bracket_code, true_code, false_code, text_code}
use Rattle.fzn_print.proofs.Texts.{each-append, text_of-append}
use Rattle.fzn_print.proofs.Apart.{AreApart, AreApart-append, at_space}
use Rattle.fzn_syntax.proofs.Spelled.{AreKept, IsKeptWord, kept_parts}
use Rattle.fzn_print.proofs.WordStops.{symbol_stops, any_stops, symbol_free, space_stops, closing_stops}

-- words that stand before what ends a number are apart
abbrev pub Ends : List Word → Type 0
Ends ws = (rest : List ℕ) → NumberStops rest → AreApart (flat_marks ws) rest

-- one word, by its number
coded_code : (b : Bool) → ◌≡◌ {A = Option (Unit {0})} (cond b (Some tt) None) (Some tt) → b ≡ true
coded_code true e = refl
coded_code false e = absurd cc

pub word_ends : (w : Word) → IsKeptWord w → code (terminal w) ≢ colon_code → Ends (w ∷ [])
word_ends w good other rest stop = (good.0, any_stops w.what w.text rest other stop, tt)

coded_ends : (n : ℕ) (ws : List Word) → n ≢ colon_code → Coded n ws → AreKept ws → Ends ws
coded_ends n ws other (s, worth, e) k =
    let is : code (terminal s) ≡ n = eqb-true (code (terminal s)) n (coded_code (code (terminal s) == n) worth) in
    subst Ends (sym e) (word_ends s (subst AreKept e k).0 (λ d. other (sym is ∙ d)))

-- a symbol ends what stands before it
coded_stops : (n : ℕ) (ws : List Word) (rest : List ℕ) → 4 ≤ n → n ≤ 15 → Coded n ws → NumberStops (text_of (flat_marks ws) ++ rest)
coded_stops n ws rest low high (s, worth, e) =
    let is : code (terminal s) ≡ n = eqb-true (code (terminal s)) n (coded_code (code (terminal s) == n) worth) in
    rw e (rw (append-nil (spelling_of s.what s.text)) (symbol_stops s.what s.text rest (omega arith) (omega arith)))

number_code : (w : What) (t : List ℕ) (n : Number) → number_of w t ≡ Some n → code (terminal_by w t) ≢ colon_code
unfolding terminal_by
number_code (what.Int z) t n e = λ d. omega arith
number_code what.Float t n e = λ d. omega arith
number_code _ t n e = absurd cc

number_ends : (n : Number) (ws : List Word) → IsNumber n ws → AreKept ws → Ends ws
number_ends n ws (s, worth, e) k = subst Ends (sym e) (word_ends s (subst AreKept e k).0 (number_code s.what s.text n worth))

name_ends : (n : Identifier) (ws : List Word) → IsName n ws → AreKept ws → Ends ws
name_ends n ws (s, worth, e) k =
    let is : code (terminal s) ≡ name_code = eqb-true (code (terminal s)) name_code (cond_some (code (terminal s) == name_code) (record { name = s.text; at = s.at }) n worth).0 in
    subst Ends (sym e) (word_ends s (subst AreKept e k).0 (λ d. absurd (let z : name_code ≡ colon_code = sym is ∙ d in omega arith)))

-- two parts, the second of which ends what stands before it
join_ends : (a b : List Word) → Ends a → Ends b → ((rest : List ℕ) → NumberStops rest → NumberStops (text_of (flat_marks b) ++ rest)) → Ends (a ++ b)
join_ends a b h k stops rest stop =
    rw (each-append word_marks a b) (AreApart-append (flat_marks a) (flat_marks b) rest (h (text_of (flat_marks b) ++ rest) (stops rest stop)) (k rest stop))

-- two parts, the first of which is ended by anything that ends a number, at the front
front_stops : (a b : List Word) (rest : List ℕ) → ((r : List ℕ) → NumberStops (text_of (flat_marks a) ++ r)) → NumberStops (text_of (flat_marks (a ++ b)) ++ rest)
front_stops a b rest h = rw (each-append word_marks a b, text_of-append (flat_marks a) (flat_marks b), append_assoc (text_of (flat_marks a)) (text_of (flat_marks b)) rest) (h (text_of (flat_marks b) ++ rest))

-- words that go on into nothing
abbrev pub IsFree : List Word → Type 0
IsFree ws = (rest : List ℕ) → AreApart (flat_marks ws) rest

free_ends : (ws : List Word) → IsFree ws → Ends ws
free_ends ws h rest stop = h rest

coded_free : (n : ℕ) (ws : List Word) → 4 ≤ n → n ≤ 15 → n ≢ colon_code → Coded n ws → AreKept ws → IsFree ws
coded_free n ws low high other (s, worth, e) k =
    let is : code (terminal s) ≡ n = eqb-true (code (terminal s)) n (coded_code (code (terminal s) == n) worth) in
    subst IsFree (sym e) (λ rest. ((subst AreKept e k).0.0, symbol_free s.what s.text rest (omega arith) (omega arith) (λ d. other (sym is ∙ d)), tt))

join_free : (a b : List Word) → IsFree a → Ends b → Ends (a ++ b)
join_free a b h k rest stop = rw (each-append word_marks a b) (AreApart-append (flat_marks a) (flat_marks b) rest (h (text_of (flat_marks b) ++ rest)) (k rest stop))

nothing_ends : (ws : List Word) → ws ≡ [] → Ends ws
nothing_ends ws e = subst Ends (sym e) (λ rest stop. tt)

bounds_ends : (b : Bounds) (ws : List Word) → IsBounds b ws → AreKept ws → Ends ws
bounds_ends b ws (x, y, e, low, (u, v, e', dots, high)) k =
    let p = kept_parts x y (subst AreKept e k) in
    let q = kept_parts u v (subst AreKept e' p.1) in
    let whole : ws ≡ x ++ (u ++ v) = e ∙ ap (λ (l : List Word). x ++ l) e' in
    subst Ends (sym whole)
    (join_ends x (u ++ v) (number_ends b.lower x low p.0)
    (join_free u v (coded_free dot_dot_code u (omega arith) (omega arith) (λ d. omega arith) dots q.0) (number_ends b.upper v high q.1))
    (λ rest stop. front_stops u v rest (λ r. coded_stops dot_dot_code u r (omega arith) (omega arith) dots)))

more_stop : (ns : List Number) (ws : List Word) → Each (λ n. Coded comma_code ⨾ IsNumber n) ns ws → (rest : List ℕ) → NumberStops rest → NumberStops (text_of (flat_marks ws) ++ rest)
more_stop [] ws e rest stop = rw e stop
more_stop (n ∷ ns) ws (a, b, e, (u, v, e', comma, d), more) rest stop =
    rw (e, e') (front_stops (u ++ v) b rest (λ r. front_stops u v r (λ t. coded_stops comma_code u t (omega arith) (omega arith) comma)))

more_ends : (ns : List Number) (ws : List Word) → Each (λ n. Coded comma_code ⨾ IsNumber n) ns ws → AreKept ws → Ends ws
more_ends [] ws e k = nothing_ends ws e
more_ends (n ∷ ns) ws (a, b, e, (u, v, e', comma, d), more) k =
    let p = kept_parts a b (subst AreKept e k) in
    let q = kept_parts u v (subst AreKept e' p.0) in
    subst Ends (sym e)
    (join_ends a b (subst Ends (sym e') (join_free u v (coded_free comma_code u (omega arith) (omega arith) (λ z. omega arith) comma q.0) (number_ends n v d q.1)))
    (more_ends ns b more p.1) (λ rest stop. more_stop ns b more rest stop))

listed_ends : (ns : List Number) (ws : List Word) → MaybeListed (Coded comma_code) IsNumber ns ws → AreKept ws → Ends ws
listed_ends [] ws e k = nothing_ends ws e
listed_ends (n ∷ ns) ws (a, b, e, d, more) k =
    let p = kept_parts a b (subst AreKept e k) in
    subst Ends (sym e) (join_ends a b (number_ends n a d p.0) (more_ends ns b more p.1) (λ rest stop. more_stop ns b more rest stop))

set_ends : (ns : List Number) (ws : List Word) → IsSet ns ws → AreKept ws → Ends ws
set_ends ns ws (a, b, e, first, (u, v, e', d, last)) k =
    let p = kept_parts a b (subst AreKept e k) in
    let q = kept_parts u v (subst AreKept e' p.1) in
    let whole : ws ≡ a ++ (u ++ v) = e ∙ ap (λ (l : List Word). a ++ l) e' in
    subst Ends (sym whole)
    (join_free a (u ++ v) (coded_free left_brace_code a (omega arith) (omega arith) (λ z. omega arith) first p.0)
    (join_ends u v (listed_ends ns u d q.0) (coded_ends right_brace_code v (λ z. omega arith) last q.1) (λ rest stop. coded_stops right_brace_code v rest (omega arith) (omega arith) last)))

basic_ends : (b : Basic) (ws : List Word) → IsBasic b ws → AreKept ws → Ends ws
basic_ends basics.True ws d k = coded_ends true_code ws (λ z. omega arith) d k
basic_ends basics.False ws d k = coded_ends false_code ws (λ z. omega arith) d k
basic_ends (basics.Name n) ws d k = name_ends n ws d k
basic_ends (basics.Number n) ws d k = number_ends n ws d k
basic_ends (basics.Range b) ws d k = bounds_ends b ws d k
basic_ends (basics.Set ns) ws d k = set_ends ns ws d k

-- ---- nested arguments

others_stop : {ws : List Word} → Others ws → (rest : List ℕ) → NumberStops rest → NumberStops (text_of (flat_marks ws) ++ rest)
others_stop {ws} (no_others e) rest stop = rw e stop
others_stop {ws} (next c a b e comma x y) rest stop = rw e (front_stops c (a ++ b) rest (λ r. coded_stops comma_code c r (omega arith) (omega arith) comma))

-- brackets round words
bracket_ends : (n m : ℕ) (o i c : List Word) → 4 ≤ n → n ≤ 15 → n ≢ colon_code → 4 ≤ m → m ≤ 15 → m ≢ colon_code → Coded n o → Coded m c → AreKept o → AreKept c → Ends i → Ends (o ++ (i ++ c))
bracket_ends n m o i c low high other low' high' other' open_is close_is ko kc h =
    join_free o (i ++ c) (coded_free n o low high other open_is ko)
    (join_ends i c h (coded_ends m c other' close_is kc) (λ rest stop. coded_stops m c rest low' high' close_is))

mutual
  argument_ends : {ws : List Word} → Argument ws → AreKept ws → Ends ws
  argument_ends {ws} (basic x d) k = basic_ends x ws d k
  argument_ends {ws} (text d) k = coded_ends text_code ws (λ z. omega arith) d k
  argument_ends {ws} (call n a o i c e d op h cl) k =
      let p = kept_parts a (o ++ (i ++ c)) (subst AreKept e k) in
      let q = kept_parts o (i ++ c) p.1 in
      let r = kept_parts i c q.1 in
      subst Ends (sym e)
      (join_ends a (o ++ (i ++ c)) (name_ends n a d p.0)
      (bracket_ends left_paren_code right_paren_code o i c (omega arith) (omega arith) (λ z. omega arith) (omega arith) (omega arith) (λ z. omega arith) op cl q.0 r.1 (inside_ends h r.0))
      (λ rest stop. front_stops o (i ++ c) rest (λ t. coded_stops left_paren_code o t (omega arith) (omega arith) op)))
  argument_ends {ws} (list o i c e op h cl) k =
      let q = kept_parts o (i ++ c) (subst AreKept e k) in
      let r = kept_parts i c q.1 in
      subst Ends (sym e)
      (bracket_ends left_bracket_code right_bracket_code o i c (omega arith) (omega arith) (λ z. omega arith) (omega arith) (omega arith) (λ z. omega arith) op cl q.0 r.1 (inside_ends h r.0))

  inside_ends : {ws : List Word} → Inside ws → AreKept ws → Ends ws
  inside_ends {ws} (empty e) k = nothing_ends ws e
  inside_ends {ws} (filled a b e x y) k =
      let p = kept_parts a b (subst AreKept e k) in
      subst Ends (sym e) (join_ends a b (argument_ends x p.0) (others_ends y p.1) (λ rest stop. others_stop y rest stop))

  others_ends : {ws : List Word} → Others ws → AreKept ws → Ends ws
  others_ends {ws} (no_others e) k = nothing_ends ws e
  others_ends {ws} (next c a b e comma x y) k =
      let p = kept_parts c (a ++ b) (subst AreKept e k) in
      let q = kept_parts a b p.1 in
      subst Ends (sym e)
      (join_free c (a ++ b) (coded_free comma_code c (omega arith) (omega arith) (λ z. omega arith) comma p.0)
      (join_ends a b (argument_ends x q.0) (others_ends y q.1) (λ rest stop. others_stop y rest stop)))

pub arguments_ends : (ws : List Word) → IsArguments ws ws → AreKept ws → Ends ws
arguments_ends ws (e, (o, r, e', op, (i, c, e'', h, cl))) k =
    let p = kept_parts o r (subst AreKept e' k) in
    let q = kept_parts i c (subst AreKept e'' p.1) in
    let whole : ws ≡ o ++ (i ++ c) = e' ∙ ap (λ (l : List Word). o ++ l) e'' in
    subst Ends (sym whole)
    (bracket_ends left_paren_code right_paren_code o i c (omega arith) (omega arith) (λ z. omega arith) (omega arith) (omega arith) (λ z. omega arith) op cl p.0 q.1 (inside_ends h q.0))

-- arguments begin with a parenthesis
pub arguments_stop : (ws : List Word) (rest : List ℕ) → IsArguments ws ws → NumberStops (text_of (flat_marks ws) ++ rest)
arguments_stop ws rest (e, (o, r, e', op, more)) = rw e' (front_stops o r rest (λ t. coded_stops left_paren_code o t (omega arith) (omega arith) op))

-- ---- bodies

-- each word ends here
abbrev Closes : List ℕ → Type 0
Closes rest = (w : What) → TokenStops w rest

spaced_rest : (w : Word) (ws : List Word) (rest : List ℕ) → Closes rest → TokenStops w.what (text_of (each spaced_word ws) ++ rest)
spaced_rest w [] rest closes = closes w.what
spaced_rest w (v ∷ vs) rest closes = space_stops w.what (spelling_of v.what v.text ++ text_of (each spaced_word vs) ++ rest)

each_spaced : (ws : List Word) (rest : List ℕ) → AreKept ws → Closes rest → AreApart (each spaced_word ws) rest
each_spaced [] rest k closes = tt
each_spaced (w ∷ ws) rest (good, k) closes = (good.0, spaced_rest w ws rest closes, each_spaced ws rest k closes)

spaced_apart : (ws : List Word) (rest : List ℕ) → AreKept ws → Closes rest → AreApart (spaced_marks ws) rest
spaced_apart [] rest k closes = tt
spaced_apart (w ∷ ws) rest (good, k) closes = (good.0, spaced_rest w ws rest closes, each_spaced ws rest k closes)

pub body_shape : (s : Word) (i : List Word) (t : Word) → body_marks (s ∷ (i ++ t ∷ [])) ≡ flat_marks (s ∷ []) ++ (spaced_marks i ++ flat_marks (t ∷ []))
body_shape s i t =
    let n : suc (length (i ++ t ∷ [])) - 2 ≡ length i = omega (arith, length-append i (t ∷ [])) in
    rw (n, take_at i (t ∷ []) (length i) refl, drop_at i (t ∷ []) (length i) refl) refl

-- a body is a parenthesis, words and a parenthesis
pub record BodyParts (ws : List Word) : Type 0 where
  pub first : Word
  pub inner : List Word
  pub last : Word
  pub parts : ws ≡ first ∷ (inner ++ last ∷ [])
  pub first_is : code (terminal first) ≡ left_paren_code
  pub last_is : code (terminal last) ≡ right_paren_code

pub body_parts : (ws : List Word) → IsBody ws ws → BodyParts ws
body_parts ws (e, (o, r, e', (s, ws_is, es), (i, c, e'', h, (t, wt, et)))) = record {
  first = s;
  inner = i;
  last = t;
  parts = e' ∙ ap (λ (l : List Word). l ++ r) es ∙ ap (λ (l : List Word). s ∷ l) (e'' ∙ ap (λ (l : List Word). i ++ l) et);
  first_is = eqb-true (code (terminal s)) left_paren_code (coded_code (code (terminal s) == left_paren_code) ws_is);
  last_is = eqb-true (code (terminal t)) right_paren_code (coded_code (code (terminal t) == right_paren_code) wt);
}

free_word : (w : Word) → IsKeptWord w → 4 ≤ code (terminal w) → code (terminal w) ≤ 15 → code (terminal w) ≢ colon_code → IsFree (w ∷ [])
free_word w good low high other rest = (good.0, symbol_free w.what w.text rest low high other, tt)

body_apart_at : (s : Word) (i : List Word) (t : Word) (rest : List ℕ) → code (terminal s) ≡ left_paren_code → code (terminal t) ≡ right_paren_code → AreKept (s ∷ (i ++ t ∷ []))
    → AreApart (flat_marks (s ∷ []) ++ (spaced_marks i ++ flat_marks (t ∷ []))) rest
body_apart_at s i t rest first last (good, k) =
    let p = kept_parts i (t ∷ []) k in
    let closes : Closes (text_of (flat_marks (t ∷ [])) ++ rest) = λ w. rw (append-nil (spelling_of t.what t.text)) (closing_stops w t.what t.text rest last) in
    AreApart-append (flat_marks (s ∷ [])) (spaced_marks i ++ flat_marks (t ∷ [])) rest (free_word s good (omega arith) (omega arith) (λ z. omega arith) (text_of (spaced_marks i ++ flat_marks (t ∷ [])) ++ rest))
    (AreApart-append (spaced_marks i) (flat_marks (t ∷ [])) rest (spaced_apart i (text_of (flat_marks (t ∷ [])) ++ rest) p.0 closes)
    (free_word t p.1.0 (omega arith) (omega arith) (λ z. omega arith) rest))

pub body_apart : (ws : List Word) (rest : List ℕ) → IsBody ws ws → AreKept ws → AreApart (body_marks ws) rest
body_apart ws rest h k =
    let b = body_parts ws h in
    let marks : body_marks ws ≡ flat_marks (b.first ∷ []) ++ (spaced_marks b.inner ++ flat_marks (b.last ∷ [])) = ap body_marks b.parts ∙ body_shape b.first b.inner b.last in
    rw marks (body_apart_at b.first b.inner b.last rest b.first_is b.last_is (subst AreKept b.parts k))
