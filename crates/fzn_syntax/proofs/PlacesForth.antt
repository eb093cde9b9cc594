-- Forwards: what stands in the language of a place begins with a word with which the machine goes on in it.
use Rattle.std.proofs.Common.{◌≡◌, ℕ, Bool, true, false, cond, ◌==◌, List, [], ◌∷◌, ◌++◌, Option, Some, None, inl, inr, refl, ap, ◌∙◌, append_assoc}
use Rattle.std.proofs.lemmas.Option.{cond_some}
use Rattle.std.proofs.lemmas.Bool.{eqb-true}
use Rattle.reading.specs.Language.{◌⨾◌, MaybeListed}
use Rattle.reading.proofs.Machines.{Came}
use Rattle.fzn_words.specs.declared.terminal.Terminal.{Terminal}
use Rattle.fzn_words.specs.declared.terminal.Terminal.TheVariants as terminals
use Rattle.fzn_words.specs.declared.word.Word.{Word}
use Rattle.fzn_syntax.specs.declared.identifier.Identifier.{Identifier}
use Rattle.fzn_syntax.specs.declared.number.Number.{Number}
use Rattle.fzn_syntax.specs.declared.expression.Basic.{Basic}
use Rattle.fzn_syntax.specs.declared.expression.Basic.TheVariants as basics
use Rattle.fzn_syntax.specs.declared.turn.Place.{Place}
use Rattle.fzn_syntax.specs.declared.turn.Place.TheVariants as places
use Rattle.fzn_syntax.specs.declared.turn.Turn.{Turn}
use Rattle.fzn_syntax.specs.declared.turn.Turn.TheVariants as turns
use Rattle.fzn_syntax.specs.Position.{Position}
use Rattle.fzn_words.specs.Words.{code, terminal, is}
use Rattle.fzn_syntax.specs.Grammar.{Sign, IsName, IsNumber, IsBasic}
use Rattle.fzn_syntax.specs.Arguments.{Argument, Inside, Others, basic, text, call, list, empty, filled, no_others, next}
use Rattle.fzn_syntax.specs.Turns.{closer, start, finish, member, turn, moved, step}
use Rattle.fzn_syntax.proofs.Places.{Closer, Tail, Lang, Follows, number_code_by}
use Rattle.fzn_syntax.proofs.PlacesBack.{at}

abbrev Comes : Position → List Word → Type 0
Comes = Came step Follows

-- ---- one word first

pub sign_code : (k : Terminal) (o : List Word) (d : Sign k o) → code (terminal d.0) ≡ code k
sign_code k o d = eqb-true (code (terminal d.0)) (code k) (cond_some (is k d.0) tt tt d.1).0

name_code : (n : Identifier) (a : List Word) (d : IsName n a) → code (terminal d.0) ≡ 0
name_code n a d = eqb-true (code (terminal d.0)) 0 (cond_some (is terminals.Name d.0) (record { name = d.0.text; at = d.0.at }) n d.1).0

module _ (place : Place) (b : Bool) (s : List Bool) where
  go_on : (n : ℕ) (o r ws : List Word) (w : Word) → ws ≡ o ++ r → o ≡ w ∷ [] → code (terminal w) ≡ n → (q : Position) → moved (turn place b n) b s ≡ Some (Some q) → Follows q r → Comes (at place b s) ws
  go_on n o r ws w parts one same q is l =
      let stepped : step (at place b s) w ≡ Some (Some q) = rw same is in
      (w, r, parts ∙ ap (λ (x : List Word). x ++ r) one, inr (q, stepped, l))

  sign_goes : (k : Terminal) (o r ws : List Word) → ws ≡ o ++ r → Sign k o → (q : Position) → moved (turn place b (code k)) b s ≡ Some (Some q) → Follows q r → Comes (at place b s) ws
  sign_goes k o r ws parts d q is l = go_on (code k) o r ws d.0 parts d.2 (sign_code k o d) q is l

  name_goes : (n : Identifier) (o r ws : List Word) → ws ≡ o ++ r → IsName n o → (q : Position) → moved (turn place b 0) b s ≡ Some (Some q) → Follows q r → Comes (at place b s) ws
  name_goes n o r ws parts d q is l = go_on 0 o r ws d.0 parts d.2 (name_code n o d) q is l

  number_goes : (n : Number) (o r ws : List Word) → ws ≡ o ++ r → IsNumber n o → (q : Position) → moved (turn place b 3) b s ≡ Some (Some q) → moved (turn place b 1) b s ≡ Some (Some q) → Follows q r → Comes (at place b s) ws
  number_goes n o r ws parts d q int float l =
      let stepped : step (at place b s) d.0 ≡ Some (Some q) = number_code_by (λ k. moved (turn place b k) b s ≡ Some (Some q)) int float d.0.what d.0.text n d.1 in
      (d.0, r, parts ∙ ap (λ (x : List Word). x ++ r) d.2, inr (q, stepped, l))

  -- ---- a bracket is closed

  closed_code : (n : ℕ) (o r ws : List Word) (w : Word) → ws ≡ o ++ r → o ≡ w ∷ [] → code (terminal w) ≡ n → turn place b n ≡ turns.Pop → Tail s r → Comes (at place b s) ws
  closed_code n o r ws w parts one same is l = by_stack s l (let e : turn place b (code (terminal w)) ≡ turns.Pop = rw same is in e) where
    by_stack : (below : List Bool) → Tail below r → turn place b (code (terminal w)) ≡ turns.Pop → Came step Follows (at place b below) ws
    by_stack [] l e = (w, r, parts ∙ ap (λ (x : List Word). x ++ r) one, inl (rw e refl, l))
    by_stack (c ∷ below) l e = (w, r, parts ∙ ap (λ (x : List Word). x ++ r) one, inr (at places.After c below, rw e refl, l))

closes : (place : Place) (b : Bool) (s : List Bool) (o r ws : List Word) → ws ≡ o ++ r → Closer b o → turn place b (closer b) ≡ turns.Pop → Tail s r → Comes (at place b s) ws
closes place true s o r ws parts d is l = closed_code place true s 5 o r ws d.0 parts d.2 (sign_code terminals.RightParen o d) is l
closes place false s o r ws parts d is l = closed_code place false s 7 o r ws d.0 parts d.2 (sign_code terminals.RightBracket o d) is l

-- ---- one place as another

goes_same : (p q : Position) (ws : List Word) → ((w : Word) (o : Option Position) → step p w ≡ Some o → step q w ≡ Some o) → Comes p ws → Comes q ws
goes_same p q ws same (w, r, parts, inl e) = (w, r, parts, inl (same w None e.0, e.1))
goes_same p q ws same (w, r, parts, inr e) = (w, r, parts, inr (e.0, same w (Some e.0) e.1, e.2))

-- the test fails where the other turn goes on
other_turn : (test : Bool) (x y : Turn) (b : Bool) (s : List Bool) (o : Option Position) → (test ≡ true → y ≡ turns.Stop) → moved y b s ≡ Some o → moved (cond test x y) b s ≡ Some o
other_turn true x y b s o stops e = absurd (let f : moved y b s ≡ None = ap (λ (t : Turn). moved t b s) (stops refl) in cc)
other_turn false x y b s o stops e = e

start_closer : (b : Bool) (n : ℕ) → (n == closer b) ≡ true → start n ≡ turns.Stop
start_closer true n e = let same : n ≡ 5 = eqb-true n 5 e in rw same refl
start_closer false n e = let same : n ≡ 7 = eqb-true n 7 e in rw same refl

finish_other : (b : Bool) (k n : ℕ) → finish true k ≡ turns.Stop → finish false k ≡ turns.Stop → (n == k) ≡ true → finish b n ≡ turns.Stop
finish_other true k n f g e = let same : n ≡ k = eqb-true n k e in rw same f
finish_other false k n f g e = let same : n ≡ k = eqb-true n k e in rw same g

want_as_first : (b : Bool) (s : List Bool) (w : Word) (o : Option Position) → step (at places.Want b s) w ≡ Some o → step (at places.First b s) w ≡ Some o
unfolding turn
want_as_first b s w o e = other_turn (code (terminal w) == closer b) turns.Pop (start (code (terminal w))) b s o (start_closer b (code (terminal w))) e

after_as_named : (b : Bool) (s : List Bool) (w : Word) (o : Option Position) → step (at places.After b s) w ≡ Some o → step (at places.Named b s) w ≡ Some o
unfolding turn
after_as_named b s w o e = other_turn (code (terminal w) == 4) (turns.Push true) (finish b (code (terminal w))) b s o (finish_other b 4 (code (terminal w)) refl refl) e

after_as_number : (b : Bool) (s : List Bool) (w : Word) (o : Option Position) → step (at places.After b s) w ≡ Some o → step (at places.Number b s) w ≡ Some o
unfolding turn
after_as_number b s w o e = other_turn (code (terminal w) == 15) (turns.Stay places.Dots) (finish b (code (terminal w))) b s o (finish_other b 15 (code (terminal w)) refl refl) e

member_brace : (n : ℕ) → (n == 9) ≡ true → member n ≡ turns.Stop
member_brace n e = let same : n ≡ 9 = eqb-true n 9 e in rw same refl

set_as_first : (b : Bool) (s : List Bool) (w : Word) (o : Option Position) → step (at places.SetWant b s) w ≡ Some o → step (at places.SetFirst b s) w ≡ Some o
unfolding turn
set_as_first b s w o e = other_turn (code (terminal w) == 9) (turns.Stay places.After) (member (code (terminal w))) b s o (member_brace (code (terminal w))) e

-- ---- an argument is followed

pop_after : (b : Bool) → turn places.After b (closer b) ≡ turns.Pop
unfolding turn
pop_after true = refl
pop_after false = refl

pop_first : (b : Bool) → turn places.First b (closer b) ≡ turns.Pop
unfolding turn
pop_first true = refl
pop_first false = refl

after_comes_by : (b : Bool) (s : List Bool) (o r ws : List Word) → ws ≡ o ++ r → Others o → (Closer b ⨾ Tail s) r → Comes (at places.After b s) ws
unfolding turn
after_comes_by b s o r ws parts (no_others e) d =
    closes places.After b s d.0 d.1 ws (parts ∙ ap (λ (x : List Word). x ++ r) e ∙ d.2) d.3 (pop_after b) d.4
after_comes_by b s o r ws parts (next c a x e comma argument others) d =
    sign_goes places.After b s terminals.Comma c ((a ++ x) ++ r) ws (parts ∙ ap (λ (y : List Word). y ++ r) e ∙ append_assoc c (a ++ x) r) comma (at places.Want b s) refl
    (a, x ++ r, append_assoc a x r, argument, (x, r, refl, others, d))

after_comes : (b : Bool) (s : List Bool) (ws : List Word) → Tail (b ∷ s) ws → Comes (at places.After b s) ws
after_comes b s ws d = after_comes_by b s d.0 d.1 ws d.2 d.3 d.4

-- ---- an argument begins

range_comes : (b : Bool) (s : List Bool) (n m : Number) (a r ws : List Word) → ws ≡ a ++ r → (IsNumber n ⨾ Sign terminals.DotDot ⨾ IsNumber m) a → Tail (b ∷ s) r → Comes (at places.Want b s) ws
unfolding turn
range_comes b s n m a r ws parts d l =
    let o = d.4.0 in
    let y = d.4.1 in
    number_goes places.Want b s n d.0 (d.1 ++ r) ws (parts ∙ ap (λ (x : List Word). x ++ r) d.2 ∙ append_assoc d.0 d.1 r) d.3 (at places.Number b s) refl refl
    (inr (m, (o, y ++ r, ap (λ (x : List Word). x ++ r) d.4.2 ∙ append_assoc o y r, d.4.3, (y, r, refl, d.4.4, l))))

set_comes : (b : Bool) (s : List Bool) (ns : List Number) (a r ws : List Word) → ws ≡ a ++ r → (Sign terminals.LeftBrace ⨾ MaybeListed (Sign terminals.Comma) IsNumber ns ⨾ Sign terminals.RightBrace) a → Tail (b ∷ s) r
    → Comes (at places.Want b s) ws
unfolding turn
set_comes b s ns a r ws parts d l =
    let m = d.4.0 in
    let c = d.4.1 in
    sign_goes places.Want b s terminals.LeftBrace d.0 (d.1 ++ r) ws (parts ∙ ap (λ (x : List Word). x ++ r) d.2 ∙ append_assoc d.0 d.1 r) d.3 (at places.SetFirst b s) refl
    (ns, (m, c ++ r, ap (λ (x : List Word). x ++ r) d.4.2 ∙ append_assoc m c r, d.4.3, (c, r, refl, d.4.4, l)))

basic_comes : (b : Bool) (s : List Bool) (x : Basic) (a r ws : List Word) → ws ≡ a ++ r → IsBasic x a → Tail (b ∷ s) r → Comes (at places.Want b s) ws
unfolding turn
basic_comes b s basics.True a r ws parts d l = sign_goes places.Want b s terminals.True a r ws parts d (at places.After b s) refl l
basic_comes b s basics.False a r ws parts d l = sign_goes places.Want b s terminals.False a r ws parts d (at places.After b s) refl l
basic_comes b s (basics.Name n) a r ws parts d l = name_goes places.Want b s n a r ws parts d (at places.Named b s) refl (inl l)
basic_comes b s (basics.Number n) a r ws parts d l = number_goes places.Want b s n a r ws parts d (at places.Number b s) refl refl (inl l)
basic_comes b s (basics.Range x) a r ws parts d l = range_comes b s x.lower x.upper a r ws parts d l
basic_comes b s (basics.Set ns) a r ws parts d l = set_comes b s ns a r ws parts d l

want_comes_by : (b : Bool) (s : List Bool) (a r ws : List Word) → ws ≡ a ++ r → Argument a → Tail (b ∷ s) r → Comes (at places.Want b s) ws
unfolding turn
want_comes_by b s a r ws parts (basic x d) l = basic_comes b s x a r ws parts d l
want_comes_by b s a r ws parts (text d) l = sign_goes places.Want b s terminals.Text a r ws parts d (at places.After b s) refl l
want_comes_by b s a r ws parts (call n f o i c e name paren inside closing) l =
    name_goes places.Want b s n f ((o ++ (i ++ c)) ++ r) ws (parts ∙ ap (λ (x : List Word). x ++ r) e ∙ append_assoc f (o ++ (i ++ c)) r) name (at places.Named b s) refl
    (inr (o, (i ++ c) ++ r, append_assoc o (i ++ c) r, paren, (i, c ++ r, append_assoc i c r, inside, (c, r, refl, closing, l))))
want_comes_by b s a r ws parts (list o i c e bracket inside closing) l =
    sign_goes places.Want b s terminals.LeftBracket o ((i ++ c) ++ r) ws (parts ∙ ap (λ (x : List Word). x ++ r) e ∙ append_assoc o (i ++ c) r) bracket (at places.First false (b ∷ s)) refl
    (i, c ++ r, append_assoc i c r, inside, (c, r, refl, closing, l))

want_comes : (b : Bool) (s : List Bool) (ws : List Word) → Lang places.Want b s ws → Comes (at places.Want b s) ws
want_comes b s ws d = want_comes_by b s d.0 d.1 ws d.2 d.3 d.4

first_comes_by : (b : Bool) (s : List Bool) (i r ws : List Word) → ws ≡ i ++ r → Inside i → (Closer b ⨾ Tail s) r → Comes (at places.First b s) ws
first_comes_by b s i r ws parts (empty e) d =
    closes places.First b s d.0 d.1 ws (parts ∙ ap (λ (x : List Word). x ++ r) e ∙ d.2) d.3 (pop_first b) d.4
first_comes_by b s i r ws parts (filled a x e argument others) d =
    goes_same (at places.Want b s) (at places.First b s) ws (want_as_first b s)
    (want_comes_by b s a (x ++ r) ws (parts ∙ ap (λ (y : List Word). y ++ r) e ∙ append_assoc a x r) argument (x, r, refl, others, d))

-- ---- behind a name, a number, and in a set

named_comes : (b : Bool) (s : List Bool) (ws : List Word) → Lang places.Named b s ws → Comes (at places.Named b s) ws
unfolding turn
named_comes b s ws (inl l) = goes_same (at places.After b s) (at places.Named b s) ws (after_as_named b s) (after_comes b s ws l)
named_comes b s ws (inr l) = sign_goes places.Named b s terminals.LeftParen l.0 l.1 ws l.2 l.3 (at places.First true (b ∷ s)) refl l.4

number_comes : (b : Bool) (s : List Bool) (ws : List Word) → Lang places.Number b s ws → Comes (at places.Number b s) ws
unfolding turn
number_comes b s ws (inl l) = goes_same (at places.After b s) (at places.Number b s) ws (after_as_number b s) (after_comes b s ws l)
number_comes b s ws (inr (n, l)) = sign_goes places.Number b s terminals.DotDot l.0 l.1 ws l.2 l.3 (at places.Dots b s) refl (n, l.4)

dots_comes : (b : Bool) (s : List Bool) (ws : List Word) → Lang places.Dots b s ws → Comes (at places.Dots b s) ws
unfolding turn
dots_comes b s ws (n, l) = number_goes places.Dots b s n l.0 l.1 ws l.2 l.3 (at places.After b s) refl refl l.4

set_want_comes : (b : Bool) (s : List Bool) (ws : List Word) → Lang places.SetWant b s ws → Comes (at places.SetWant b s) ws
unfolding turn
set_want_comes b s ws (n, ns, l) = number_goes places.SetWant b s n l.0 l.1 ws l.2 l.3 (at places.SetAfter b s) refl refl (ns, l.4)

set_first_comes : (b : Bool) (s : List Bool) (ws : List Word) → Lang places.SetFirst b s ws → Comes (at places.SetFirst b s) ws
unfolding turn
set_first_comes b s ws ([], l) =
    sign_goes places.SetFirst b s terminals.RightBrace l.4.0 l.4.1 ws (l.2 ∙ ap (λ (x : List Word). x ++ l.1) l.3 ∙ l.4.2) l.4.3 (at places.After b s) refl l.4.4
set_first_comes b s ws (n ∷ ns, l) =
    let d = l.3 in
    goes_same (at places.SetWant b s) (at places.SetFirst b s) ws (set_as_first b s)
    (set_want_comes b s ws (n, ns, (d.0, d.1 ++ l.1, l.2 ∙ ap (λ (x : List Word). x ++ l.1) d.2 ∙ append_assoc d.0 d.1 l.1, d.3, (d.1, l.1, refl, d.4, l.4))))

set_after_comes : (b : Bool) (s : List Bool) (ws : List Word) → Lang places.SetAfter b s ws → Comes (at places.SetAfter b s) ws
unfolding turn
set_after_comes b s ws ([], l) =
    sign_goes places.SetAfter b s terminals.RightBrace l.4.0 l.4.1 ws (l.2 ∙ ap (λ (x : List Word). x ++ l.1) l.3 ∙ l.4.2) l.4.3 (at places.After b s) refl l.4.4
set_after_comes b s ws (n ∷ ns, l) =
    let d = l.3 in
    let m = d.3 in
    sign_goes places.SetAfter b s terminals.Comma m.0 (m.1 ++ (d.1 ++ l.1)) ws
    (l.2 ∙ ap (λ (x : List Word). x ++ l.1) (d.2 ∙ ap (λ (x : List Word). x ++ d.1) m.2 ∙ append_assoc m.0 m.1 d.1) ∙ append_assoc m.0 (m.1 ++ d.1) l.1 ∙ ap (λ (x : List Word). m.0 ++ x) (append_assoc m.1 d.1 l.1))
    m.3 (at places.SetWant b s) refl (n, ns, (m.1, d.1 ++ l.1, refl, m.4, (d.1, l.1, refl, d.4, l.4)))

comes_by : (place : Place) (b : Bool) (s : List Bool) (ws : List Word) → Lang place b s ws → Came step Follows (at place b s) ws
comes_by places.First b s ws d = first_comes_by b s d.0 d.1 ws d.2 d.3 d.4
comes_by places.Want b s ws d = want_comes b s ws d
comes_by places.After b s ws d = after_comes b s ws d
comes_by places.Named b s ws d = named_comes b s ws d
comes_by places.Number b s ws d = number_comes b s ws d
comes_by places.Dots b s ws d = dots_comes b s ws d
comes_by places.SetFirst b s ws d = set_first_comes b s ws d
comes_by places.SetWant b s ws d = set_want_comes b s ws d
comes_by places.SetAfter b s ws d = set_after_comes b s ws d

pub argument_comes : (p : Position) (ws : List Word) → Follows p ws → Came step Follows p ws
argument_comes p ws d = comes_by p.place p.paren p.below ws d
