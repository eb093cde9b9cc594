-- The text of marks that stand one after the other.
use Rattle.std.proofs.Common.{◌≡◌, ℕ, suc, ◌+◌, ◌-◌, ◌<◌, List, [], ◌∷◌, ◌++◌, length, take, drop, get_or, refl, sym, ap, ◌∙◌, append_assoc, arith}
use Rattle.std.proofs.lemmas.List.{append-nil, take_more, take_all}
use Rattle.fzn_lex.specs.declared.words.What.TheVariants.{Comma}
use Rattle.fzn_print.specs.Marks.{Mark, mark_bytes, text_of, others, listed, each, symbol}

pub text_of-append : (ms ns : List Mark) → text_of (ms ++ ns) ≡ text_of ms ++ text_of ns
text_of-append [] ns = refl
text_of-append (m ∷ ms) ns = rw (text_of-append ms ns) (sym (append_assoc (mark_bytes m) (text_of ms) (text_of ns)))

pub ruleset marked = (text_of-append, append_assoc, append-nil)

pub others-push : {X : Type 0} (f : X → List Mark) (xs : List X) (x : X) → others f (xs ++ x ∷ []) ≡ others f xs ++ (symbol Comma ∷ f x)
others-push f [] x = ap (λ (ms : List Mark). symbol Comma ∷ ms) (append-nil (f x))
others-push f (y ∷ xs) x = ap (λ (ms : List Mark). symbol Comma ∷ ms) (ap (λ (ms : List Mark). f y ++ ms) (others-push f xs x) ∙ sym (append_assoc (f y) (others f xs) (symbol Comma ∷ f x)))

-- one thing more of a list with commas
pub more_text : {X : Type 0} (f : X → List Mark) (xs : List X) (i : ℕ) (d x : X) (old out comma all : List ℕ) → i < length xs → x ≡ get_or xs i d
    → out ≡ old ++ text_of (others f (take i xs)) → comma ≡ out ++ mark_bytes (symbol Comma) → all ≡ comma ++ text_of (f x)
    → all ≡ old ++ text_of (others f (take (i + 1) xs))
more_text f xs i d x old out comma all lt is so then_comma then_thing =
    let e : take (i + 1) xs ≡ take i xs ++ x ∷ [] = take_more xs i d lt ∙ ap (λ y. take i xs ++ y ∷ []) (sym is) in
    rw (e, others-push f (take i xs) x, text_of-append (others f (take i xs)) (symbol Comma ∷ f x))
    (then_thing ∙ ap (λ (l : List ℕ). l ++ text_of (f x)) (then_comma ∙ ap (λ (l : List ℕ). l ++ mark_bytes (symbol Comma)) so)
    ∙ append_assoc (old ++ text_of (others f (take i xs))) (mark_bytes (symbol Comma)) (text_of (f x))
    ∙ append_assoc old (text_of (others f (take i xs))) (mark_bytes (symbol Comma) ++ text_of (f x)))

-- the first of a list with commas, and the others
pub first_text : {X : Type 0} (f : X → List Mark) (xs : List X) (x d : X) (old out all : List ℕ) → 0 < length xs → x ≡ get_or xs 0 d
    → out ≡ old ++ text_of (f x) → all ≡ out ++ text_of (others f (take (length xs - 1) (drop 1 xs))) → all ≡ old ++ text_of (listed f xs)
first_text f [] x d old out all some is then_first then_others = absurd (omega arith)
first_text f (y ∷ xs) x d old out all some is then_first then_others =
    let rest : take (suc (length xs) - 1) xs ≡ xs = take_all (suc (length xs) - 1) xs (omega arith) in
    let others_then : all ≡ out ++ text_of (others f xs) = rw rest at then_others in
    rw text_of-append (others_then ∙ ap (λ (l : List ℕ). l ++ text_of (others f xs)) (then_first ∙ ap (λ z. old ++ text_of (f z)) is) ∙ append_assoc old (text_of (f y)) (text_of (others f xs)))

pub each-append : {X : Type 0} (f : X → List Mark) (xs ys : List X) → each f (xs ++ ys) ≡ each f xs ++ each f ys
each-append f [] ys = refl
each-append f (x ∷ xs) ys = ap (λ (ms : List Mark). f x ++ ms) (each-append f xs ys) ∙ sym (append_assoc (f x) (each f xs) (each f ys))

-- one thing more
pub more_each : {X : Type 0} (f : X → List Mark) (xs : List X) (i : ℕ) (d x : X) (old out all : List ℕ) → i < length xs → x ≡ get_or xs i d
    → out ≡ old ++ text_of (each f (take i xs)) → all ≡ out ++ text_of (f x) → all ≡ old ++ text_of (each f (take (i + 1) xs))
more_each f xs i d x old out all lt is so then_thing =
    let e : take (i + 1) xs ≡ take i xs ++ x ∷ [] = take_more xs i d lt ∙ ap (λ y. take i xs ++ y ∷ []) (sym is) in
    rw (e, each-append f (take i xs) (x ∷ []), text_of-append (each f (take i xs)) (f x ++ []), append-nil (f x))
    (then_thing ∙ ap (λ (l : List ℕ). l ++ text_of (f x)) so ∙ append_assoc old (text_of (each f (take i xs))) (text_of (f x)))
