-- The languages that the places among nested arguments may be followed by.
use Rattle.std.proofs.Common.{◌≡◌, ℕ, Bool, true, false, cond, ◌||◌, ◌==◌, List, [], ◌∷◌, ◌++◌, Some, ◌⊎◌, refl, sym, ap, ◌∙◌, append_assoc, codes}
use Rattle.std.specs.Str.{bytes_eq}
use Rattle.fzn_lex.specs.declared.words.What.{What}
use Rattle.fzn_lex.specs.declared.words.What.TheVariants as what
use Rattle.reading.specs.Language.{◌⨾◌, Each, MaybeListed}
use Rattle.fzn_words.specs.declared.terminal.Terminal.{Terminal}
use Rattle.fzn_words.specs.declared.terminal.Terminal.TheVariants as terminals
use Rattle.fzn_words.specs.declared.word.Word.{Word}
use Rattle.fzn_syntax.specs.declared.identifier.Identifier.{Identifier}
use Rattle.fzn_syntax.specs.declared.number.Number.{Number}
use Rattle.fzn_syntax.specs.declared.number.Number.TheVariants as numbers
use Rattle.fzn_syntax.specs.declared.turn.Place.{Place}
use Rattle.fzn_syntax.specs.declared.turn.Place.TheVariants as places
use Rattle.fzn_syntax.specs.Position.{Position}
use Rattle.fzn_words.specs.Words.{code, name_terminal, terminal_by, terminal, is}
use Rattle.fzn_syntax.specs.Grammar.{number_of, Sign, IsName, IsNumber}
use Rattle.fzn_syntax.specs.Arguments.{Argument, Inside, Others}
use Rattle.fzn_syntax.proofs.Types.{IsMoreNumber}

-- what closes a parenthesis, or a bracket
abbrev pub Closer : Bool → List Word → Type 0
Closer true = Sign terminals.RightParen
Closer false = Sign terminals.RightBracket

-- what may stand behind an argument, up to the end of the outermost bracket
abbrev pub Tail : List Bool → List Word → Type 0
Tail [] ws = ws ≡ []
Tail (paren ∷ below) ws = (Others ⨾ Closer paren ⨾ Tail below) ws

-- what may stand at a place
abbrev pub Lang : Place → Bool → List Bool → List Word → Type 0
Lang places.First b s ws = (Inside ⨾ Closer b ⨾ Tail s) ws
Lang places.Want b s ws = (Argument ⨾ Tail (b ∷ s)) ws
Lang places.After b s ws = Tail (b ∷ s) ws
Lang places.Named b s ws = Tail (b ∷ s) ws ⊎ (Sign terminals.LeftParen ⨾ Inside ⨾ Sign terminals.RightParen ⨾ Tail (b ∷ s)) ws
Lang places.Number b s ws = Tail (b ∷ s) ws ⊎ ((n : Number) × (Sign terminals.DotDot ⨾ IsNumber n ⨾ Tail (b ∷ s)) ws)
Lang places.Dots b s ws = (n : Number) × (IsNumber n ⨾ Tail (b ∷ s)) ws
Lang places.SetFirst b s ws = (ns : List Number) × (MaybeListed (Sign terminals.Comma) IsNumber ns ⨾ Sign terminals.RightBrace ⨾ Tail (b ∷ s)) ws
Lang places.SetWant b s ws = (n : Number) × (ns : List Number) × (IsNumber n ⨾ Each IsMoreNumber ns ⨾ Sign terminals.RightBrace ⨾ Tail (b ∷ s)) ws
Lang places.SetAfter b s ws = (ns : List Number) × (Each IsMoreNumber ns ⨾ Sign terminals.RightBrace ⨾ Tail (b ∷ s)) ws

abbrev pub Follows : Position → List Word → Type 0
Follows p = Lang p.place p.paren p.below

-- ---- one word by its code

pub choose : {A : Type 0} (P : A → Type 0) (b : Bool) (x y : A) → (b ≡ true → P x) → (b ≡ false → P y) → P (cond b x y)
choose P true x y f g = f refl
choose P false x y f g = g refl

pub sign_by : (k : Terminal) (w : Word) → is k w ≡ true → Sign k (w ∷ [])
sign_by k w e = (w, rw e refl, refl)

pub name_by : (w : Word) → is terminals.Name w ≡ true → (n : Identifier) × IsName n (w ∷ [])
name_by w e = (record { name = w.text; at = w.at }, (w, rw e refl, refl))

abbrev is_numeral : ℕ → Bool
is_numeral n = (n == 3) || (n == 1)

abbrev Unnumbered : Terminal → Type 0
Unnumbered k = is_numeral (code k) ≡ false

names_no_number : (text : List ℕ) → Unnumbered (name_terminal text)
names_no_number text =
    choose Unnumbered (bytes_eq text (codes "array")) terminals.Array _ (λ _. refl)
    (λ _. choose Unnumbered (bytes_eq text (codes "bool")) terminals.Bool _ (λ _. refl)
    (λ _. choose Unnumbered (bytes_eq text (codes "false")) terminals.False _ (λ _. refl)
    (λ _. choose Unnumbered (bytes_eq text (codes "float")) terminals.FloatWord _ (λ _. refl)
    (λ _. choose Unnumbered (bytes_eq text (codes "int")) terminals.IntWord _ (λ _. refl)
    (λ _. choose Unnumbered (bytes_eq text (codes "of")) terminals.Of _ (λ _. refl)
    (λ _. choose Unnumbered (bytes_eq text (codes "set")) terminals.Set _ (λ _. refl)
    (λ _. choose Unnumbered (bytes_eq text (codes "true")) terminals.True _ (λ _. refl)
    (λ _. choose Unnumbered (bytes_eq text (codes "var")) terminals.Var _ (λ _. refl)
    (λ _. choose Unnumbered (bytes_eq text (codes "constraint")) terminals.Constraint _ (λ _. refl)
    (λ _. choose Unnumbered (bytes_eq text (codes "maximize")) terminals.Maximize _ (λ _. refl)
    (λ _. choose Unnumbered (bytes_eq text (codes "minimize")) terminals.Minimize _ (λ _. refl)
    (λ _. choose Unnumbered (bytes_eq text (codes "predicate")) terminals.Predicate _ (λ _. refl)
    (λ _. choose Unnumbered (bytes_eq text (codes "satisfy")) terminals.Satisfy _ (λ _. refl)
    (λ _. choose Unnumbered (bytes_eq text (codes "solve")) terminals.Solve terminals.Name (λ _. refl)
    (λ _. refl)))))))))))))))

number_worth_by : (w : What) (text : List ℕ) → is_numeral (code (terminal_by w text)) ≡ true → (n : Number) × (number_of w text ≡ Some n)
unfolding terminal_by
number_worth_by what.Name text e = absurd (let f : is_numeral (code (name_terminal text)) ≡ false = names_no_number text in cc)
number_worth_by (what.Int z) text e = (numbers.Int z, refl)
number_worth_by what.Float text e = (numbers.Float text, refl)
number_worth_by _ text e = absurd cc

numeral3 : (n : ℕ) → (n == 3) ≡ true → is_numeral n ≡ true
numeral3 n e = rw e refl

right_true : (a b : Bool) → b ≡ true → (a || b) ≡ true
right_true true b e = refl
right_true false b e = e

pub int_by : (w : Word) → (code (terminal w) == 3) ≡ true → (n : Number) × IsNumber n (w ∷ [])
int_by w e = let f = number_worth_by w.what w.text (numeral3 (code (terminal w)) e) in (f.0, (w, f.1, refl))

pub float_by : (w : Word) → (code (terminal w) == 1) ≡ true → (n : Number) × IsNumber n (w ∷ [])
float_by w e = let f = number_worth_by w.what w.text (right_true (code (terminal w) == 3) (code (terminal w) == 1) e) in (f.0, (w, f.1, refl))

pub number_code_by : (P : ℕ → Type 0) → P 3 → P 1 → (w : What) (text : List ℕ) (n : Number) → number_of w text ≡ Some n → P (code (terminal_by w text))
unfolding terminal_by
number_code_by P int float (what.Int z) text n e = int
number_code_by P int float what.Float text n e = float
number_code_by P int float _ text n e = absurd cc

-- ---- parts

pub two_parts : (o x t r ws : List Word) → ws ≡ o ++ r → r ≡ x ++ t → ws ≡ (o ++ x) ++ t
two_parts o x t r ws e f = e ∙ ap (λ (l : List Word). o ++ l) f ∙ sym (append_assoc o x t)

pub three_parts : (o i c t r q ws : List Word) → ws ≡ o ++ r → r ≡ i ++ q → q ≡ c ++ t → ws ≡ (o ++ (i ++ c)) ++ t
three_parts o i c t r q ws e f g = two_parts o (i ++ c) t r ws e (two_parts i c t q r f g)
