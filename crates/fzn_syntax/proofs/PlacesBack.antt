-- Backwards: what stands behind a word in the language of the next place stands with it in the language of this one.
use Rattle.std.proofs.Common.{◌≡◌, Bool, true, false, cond, ◌==◌, List, [], ◌∷◌, ◌++◌, Option, Some, None, inl, inr, refl, ap}
use Rattle.reading.proofs.Machines.{Back}
use Rattle.fzn_words.specs.declared.terminal.Terminal.TheVariants as terminals
use Rattle.fzn_words.specs.declared.word.Word.{Word}
use Rattle.fzn_syntax.specs.declared.identifier.Identifier.{Identifier}
use Rattle.fzn_syntax.specs.declared.number.Number.{Number}
use Rattle.fzn_syntax.specs.declared.expression.Basic.TheVariants as basics
use Rattle.fzn_syntax.specs.declared.turn.Place.{Place}
use Rattle.fzn_syntax.specs.declared.turn.Place.TheVariants as places
use Rattle.fzn_syntax.specs.declared.turn.Turn.{Turn}
use Rattle.fzn_syntax.specs.declared.turn.Turn.TheVariants as turns
use Rattle.fzn_syntax.specs.Position.{Position}
use Rattle.fzn_words.specs.Words.{code, terminal, is}
use Rattle.fzn_syntax.specs.Grammar.{Sign, IsName, IsNumber}
use Rattle.fzn_syntax.specs.Arguments.{basic, text, call, list, empty, filled, no_others, next}
use Rattle.fzn_syntax.specs.Turns.{closer, start, finish, member, turn, moved, step}
use Rattle.fzn_syntax.proofs.Places.{Closer, Tail, Lang, Follows, choose, sign_by, name_by, int_by, float_by, two_parts, three_parts}

abbrev pub at : Place → Bool → List Bool → Position
at place b s = record { place = place; paren = b; below = s }

-- what a turn says backwards of the languages
abbrev TurnsBack : Position → Bool → List Bool → Word → Turn → Type 0
TurnsBack p b s w t = Back Follows p w (moved t b s)

-- ---- a bracket is closed

closer_by : (b : Bool) (w : Word) → (code (terminal w) == closer b) ≡ true → Closer b (w ∷ [])
closer_by true w e = sign_by terminals.RightParen w e
closer_by false w e = sign_by terminals.RightBracket w e

pop_back : (p : Position) (b : Bool) (s : List Bool) (w : Word) → ((t : List Word) → Tail s t → Follows p (w ∷ t)) → TurnsBack p b s w turns.Pop
pop_back p b [] w f = f [] refl
pop_back p b (c ∷ s) w f = λ ws l. f ws l

-- ---- an argument begins

named_back : (b : Bool) (s : List Bool) (w : Word) (n : Identifier) → IsName n (w ∷ []) → (ws : List Word) → Lang places.Named b s ws → Lang places.Want b s (w ∷ ws)
named_back b s w n d ws (inl l) = (w ∷ [], ws, refl, basic (basics.Name n) d, l)
named_back b s w n d ws (inr l) =
    let o = l.0 in
    let i = l.4.0 in
    let c = l.4.4.0 in
    let t = l.4.4.1 in
    let parts : ws ≡ (o ++ (i ++ c)) ++ t = three_parts o i c t l.1 l.4.1 ws l.2 l.4.2 l.4.4.2 in
    (w ∷ (o ++ (i ++ c)), t, ap (λ (r : List Word). w ∷ r) parts, call n (w ∷ []) o i c refl d l.3 l.4.3 l.4.4.3, l.4.4.4)

number_back : (b : Bool) (s : List Bool) (w : Word) (n : Number) → IsNumber n (w ∷ []) → (ws : List Word) → Lang places.Number b s ws → Lang places.Want b s (w ∷ ws)
number_back b s w n d ws (inl l) = (w ∷ [], ws, refl, basic (basics.Number n) d, l)
number_back b s w n d ws (inr (m, l)) =
    let o = l.0 in
    let x = l.4.0 in
    let t = l.4.1 in
    let parts : ws ≡ (o ++ x) ++ t = two_parts o x t l.1 ws l.2 l.4.2 in
    (w ∷ (o ++ x), t, ap (λ (r : List Word). w ∷ r) parts, basic (basics.Range (record { lower = n; upper = m })) (w ∷ [], o ++ x, refl, d, (o, x, refl, l.3, l.4.3)), l.4.4)

brace_back : (b : Bool) (s : List Bool) (w : Word) → Sign terminals.LeftBrace (w ∷ []) → (ws : List Word) → Lang places.SetFirst b s ws → Lang places.Want b s (w ∷ ws)
brace_back b s w d ws (ns, l) =
    let m = l.0 in
    let c = l.4.0 in
    let t = l.4.1 in
    let parts : ws ≡ (m ++ c) ++ t = two_parts m c t l.1 ws l.2 l.4.2 in
    (w ∷ (m ++ c), t, ap (λ (r : List Word). w ∷ r) parts, basic (basics.Set ns) (w ∷ [], m ++ c, refl, d, (m, c, refl, l.3, l.4.3)), l.4.4)

bracket_back : (b : Bool) (s : List Bool) (w : Word) → Sign terminals.LeftBracket (w ∷ []) → (ws : List Word) → Lang places.First false (b ∷ s) ws → Lang places.Want b s (w ∷ ws)
bracket_back b s w d ws l =
    let i = l.0 in
    let c = l.4.0 in
    let t = l.4.1 in
    let parts : ws ≡ (i ++ c) ++ t = two_parts i c t l.1 ws l.2 l.4.2 in
    (w ∷ (i ++ c), t, ap (λ (r : List Word). w ∷ r) parts, list (w ∷ []) i c refl d l.3 l.4.3, l.4.4)

want_back : (b : Bool) (s : List Bool) (w : Word) → TurnsBack (at places.Want b s) b s w (start (code (terminal w)))
want_back b s w =
    let n = code (terminal w) in
    let P : Turn → Type 0 = TurnsBack (at places.Want b s) b s w in
    choose P (n == 29) (turns.Stay places.After) _ (λ e. λ ws l. (w ∷ [], ws, refl, basic basics.True (sign_by terminals.True w e), l))
    (λ _. choose P (n == 19) (turns.Stay places.After) _ (λ e. λ ws l. (w ∷ [], ws, refl, basic basics.False (sign_by terminals.False w e), l))
    (λ _. choose P (n == 2) (turns.Stay places.After) _ (λ e. λ ws l. (w ∷ [], ws, refl, text (sign_by terminals.Text w e), l))
    (λ _. choose P (n == 0) (turns.Stay places.Named) _ (λ e. let d = name_by w e in named_back b s w d.0 d.1)
    (λ _. choose P (n == 3) (turns.Stay places.Number) _ (λ e. let d = int_by w e in number_back b s w d.0 d.1)
    (λ _. choose P (n == 1) (turns.Stay places.Number) _ (λ e. let d = float_by w e in number_back b s w d.0 d.1)
    (λ _. choose P (n == 8) (turns.Stay places.SetFirst) _ (λ e. brace_back b s w (sign_by terminals.LeftBrace w e))
    (λ _. choose P (n == 6) (turns.Push false) turns.Stop (λ e. bracket_back b s w (sign_by terminals.LeftBracket w e)) (λ _. tt))))))))

-- ---- an argument is followed

after_back : (b : Bool) (s : List Bool) (w : Word) → TurnsBack (at places.After b s) b s w (finish b (code (terminal w)))
after_back b s w =
    let n = code (terminal w) in
    let P : Turn → Type 0 = TurnsBack (at places.After b s) b s w in
    choose P (n == 10) (turns.Stay places.Want) _ (λ e. λ ws l. comma_back ws e l)
    (λ _. choose P (n == closer b) turns.Pop turns.Stop (λ e. pop_back (at places.After b s) b s w (λ t l. ([], w ∷ t, refl, no_others refl, (w ∷ [], t, refl, closer_by b w e, l)))) (λ _. tt)) where
      comma_back : (ws : List Word) → is terminals.Comma w ≡ true → Lang places.Want b s ws → Tail (b ∷ s) (w ∷ ws)
      comma_back ws e l =
          let a = l.0 in
          let o = l.4.0 in
          let r = l.4.1 in
          let parts : ws ≡ (a ++ o) ++ r = two_parts a o r l.1 ws l.2 l.4.2 in
          (w ∷ (a ++ o), r, ap (λ (x : List Word). w ∷ x) parts, next (w ∷ []) a o refl (sign_by terminals.Comma w e) l.3 l.4.3, l.4.4)

-- the same, in a language that holds more
back_in : (p q : Position) (w : Word) (o : Option (Option Position)) → ((ws : List Word) → Follows p ws → Follows q ws) → Back Follows p w o → Back Follows q w o
back_in p q w None f h = tt
back_in p q w (Some None) f h = f (w ∷ []) h
back_in p q w (Some (Some r)) f h = λ ws l. f (w ∷ ws) (h ws l)

want_first : (b : Bool) (s : List Bool) (ws : List Word) → Lang places.Want b s ws → Lang places.First b s ws
want_first b s ws l =
    let a = l.0 in
    let o = l.4.0 in
    let r = l.4.1 in
    let parts : ws ≡ (a ++ o) ++ r = two_parts a o r l.1 ws l.2 l.4.2 in
    (a ++ o, r, parts, filled a o refl l.3 l.4.3, l.4.4)

first_back : (b : Bool) (s : List Bool) (w : Word) → TurnsBack (at places.First b s) b s w (cond (code (terminal w) == closer b) turns.Pop (start (code (terminal w))))
first_back b s w =
    choose (TurnsBack (at places.First b s) b s w) (code (terminal w) == closer b) turns.Pop (start (code (terminal w)))
    (λ e. pop_back (at places.First b s) b s w (λ t l. ([], w ∷ t, refl, empty refl, (w ∷ [], t, refl, closer_by b w e, l))))
    (λ _. back_in (at places.Want b s) (at places.First b s) w (moved (start (code (terminal w))) b s) (want_first b s) (want_back b s w))

named_place_back : (b : Bool) (s : List Bool) (w : Word) → TurnsBack (at places.Named b s) b s w (cond (code (terminal w) == 4) (turns.Push true) (finish b (code (terminal w))))
named_place_back b s w =
    choose (TurnsBack (at places.Named b s) b s w) (code (terminal w) == 4) (turns.Push true) (finish b (code (terminal w)))
    (λ e. λ ws l. inr (w ∷ [], ws, refl, sign_by terminals.LeftParen w e, l))
    (λ _. back_in (at places.After b s) (at places.Named b s) w (moved (finish b (code (terminal w))) b s) (λ ws l. inl l) (after_back b s w))

number_place_back : (b : Bool) (s : List Bool) (w : Word) → TurnsBack (at places.Number b s) b s w (cond (code (terminal w) == 15) (turns.Stay places.Dots) (finish b (code (terminal w))))
number_place_back b s w =
    choose (TurnsBack (at places.Number b s) b s w) (code (terminal w) == 15) (turns.Stay places.Dots) (finish b (code (terminal w)))
    (λ e. λ ws l. inr (l.0, (w ∷ [], ws, refl, sign_by terminals.DotDot w e, l.1)))
    (λ _. back_in (at places.After b s) (at places.Number b s) w (moved (finish b (code (terminal w))) b s) (λ ws l. inl l) (after_back b s w))

dots_back : (b : Bool) (s : List Bool) (w : Word) → TurnsBack (at places.Dots b s) b s w (cond (code (terminal w) == 3) (turns.Stay places.After) (cond (code (terminal w) == 1) (turns.Stay places.After) turns.Stop))
dots_back b s w =
    let P : Turn → Type 0 = TurnsBack (at places.Dots b s) b s w in
    choose P (code (terminal w) == 3) (turns.Stay places.After) _ (λ e. let d = int_by w e in λ ws l. (d.0, (w ∷ [], ws, refl, d.1, l)))
    (λ _. choose P (code (terminal w) == 1) (turns.Stay places.After) turns.Stop (λ e. let d = float_by w e in λ ws l. (d.0, (w ∷ [], ws, refl, d.1, l))) (λ _. tt))

-- ---- sets

member_want : (b : Bool) (s : List Bool) (w : Word) (n : Number) → IsNumber n (w ∷ []) → (ws : List Word) → Lang places.SetAfter b s ws → Lang places.SetWant b s (w ∷ ws)
member_want b s w n d ws (ns, l) = (n, ns, (w ∷ [], ws, refl, d, l))

want_set : (b : Bool) (s : List Bool) (ws : List Word) → Lang places.SetWant b s ws → Lang places.SetFirst b s ws
want_set b s ws (n, ns, l) =
    let x = l.0 in
    let m = l.4.0 in
    let r = l.4.1 in
    let parts : ws ≡ (x ++ m) ++ r = two_parts x m r l.1 ws l.2 l.4.2 in
    (n ∷ ns, (x ++ m, r, parts, (x, m, refl, l.3, l.4.3), l.4.4))

set_want_back : (b : Bool) (s : List Bool) (w : Word) → TurnsBack (at places.SetWant b s) b s w (member (code (terminal w)))
set_want_back b s w =
    let P : Turn → Type 0 = TurnsBack (at places.SetWant b s) b s w in
    choose P (code (terminal w) == 3) (turns.Stay places.SetAfter) _ (λ e. let d = int_by w e in member_want b s w d.0 d.1)
    (λ _. choose P (code (terminal w) == 1) (turns.Stay places.SetAfter) turns.Stop (λ e. let d = float_by w e in member_want b s w d.0 d.1) (λ _. tt))

set_first_back : (b : Bool) (s : List Bool) (w : Word) → TurnsBack (at places.SetFirst b s) b s w (cond (code (terminal w) == 9) (turns.Stay places.After) (member (code (terminal w))))
set_first_back b s w =
    choose (TurnsBack (at places.SetFirst b s) b s w) (code (terminal w) == 9) (turns.Stay places.After) (member (code (terminal w)))
    (λ e. λ ws l. ([], ([], w ∷ ws, refl, refl, (w ∷ [], ws, refl, sign_by terminals.RightBrace w e, l))))
    (λ _. back_in (at places.SetWant b s) (at places.SetFirst b s) w (moved (member (code (terminal w))) b s) (want_set b s) (set_want_back b s w))

set_after_back : (b : Bool) (s : List Bool) (w : Word)
    → TurnsBack (at places.SetAfter b s) b s w (cond (code (terminal w) == 10) (turns.Stay places.SetWant) (cond (code (terminal w) == 9) (turns.Stay places.After) turns.Stop))
set_after_back b s w =
    let P : Turn → Type 0 = TurnsBack (at places.SetAfter b s) b s w in
    choose P (code (terminal w) == 10) (turns.Stay places.SetWant) _ (λ e. λ ws l. comma_set ws e l)
    (λ _. choose P (code (terminal w) == 9) (turns.Stay places.After) turns.Stop (λ e. λ ws l. ([], ([], w ∷ ws, refl, refl, (w ∷ [], ws, refl, sign_by terminals.RightBrace w e, l)))) (λ _. tt)) where
      comma_set : (ws : List Word) → is terminals.Comma w ≡ true → Lang places.SetWant b s ws → Lang places.SetAfter b s (w ∷ ws)
      comma_set ws e (n, ns, l) =
          let x = l.0 in
          let m = l.4.0 in
          let r = l.4.1 in
          let parts : ws ≡ (x ++ m) ++ r = two_parts x m r l.1 ws l.2 l.4.2 in
          (n ∷ ns, (w ∷ (x ++ m), r, ap (λ (y : List Word). w ∷ y) parts, (w ∷ x, m, refl, (w ∷ [], x, refl, sign_by terminals.Comma w e, l.3), l.4.3), l.4.4))

back_by : (place : Place) (b : Bool) (s : List Bool) (w : Word) → Back Follows (at place b s) w (step (at place b s) w)
unfolding turn
back_by places.First b s w = first_back b s w
back_by places.Want b s w = want_back b s w
back_by places.After b s w = after_back b s w
back_by places.Named b s w = named_place_back b s w
back_by places.Number b s w = number_place_back b s w
back_by places.Dots b s w = dots_back b s w
back_by places.SetFirst b s w = set_first_back b s w
back_by places.SetWant b s w = set_want_back b s w
back_by places.SetAfter b s w = set_after_back b s w

pub argument_back : (p : Position) (w : Word) → Back Follows p w (step p w)
argument_back p w = back_by p.place p.paren p.below w
