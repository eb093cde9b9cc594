-- A word is told by its token to be a sign or an integer.
use Rattle.std.proofs.Common.{◌≡◌, ℕ, Bool, true, false, ◌||◌, ◌==◌, nat_lt, List, ℤ, if◌then◌else◌, codes, refl, sym, ap, ◌∙◌, subst}
use Rattle.std.specs.Str.{bytes_eq}
use Rattle.std.proofs.lemmas.Bool.{eq-eqb, eqb-true}
use Rattle.fzn_lex.specs.declared.words.What.{What}
use Rattle.fzn_lex.specs.declared.words.What.TheVariants as what
use Rattle.fzn_words.specs.declared.terminal.Terminal.{Terminal}
use Rattle.fzn_words.specs.Words.{code, name_terminal, terminal_by}
use Rattle.fzn_output_marks.specs.Signs.{terminal_of, is_sign}

-- the number of a name's kind, or of a reserved word's
abbrev is_named : ℕ → Bool
is_named n = nat_lt n 3 || nat_lt 15 n

abbrev IsNamed : Terminal → Type 0
IsNamed k = is_named (code k) ≡ true

either_one : (b : Bool) (k l : Terminal) → IsNamed k → IsNamed l → IsNamed (if b then k else l)
either_one true k l one other = one
either_one false k l one other = other

named_terminal : (text : List ℕ) → IsNamed (name_terminal text)
named_terminal text =
    either_one (bytes_eq text (codes "array")) _ _ refl (either_one (bytes_eq text (codes "bool")) _ _ refl (either_one (bytes_eq text (codes "false")) _ _ refl
    (either_one (bytes_eq text (codes "float")) _ _ refl (either_one (bytes_eq text (codes "int")) _ _ refl (either_one (bytes_eq text (codes "of")) _ _ refl
    (either_one (bytes_eq text (codes "set")) _ _ refl (either_one (bytes_eq text (codes "true")) _ _ refl (either_one (bytes_eq text (codes "var")) _ _ refl
    (either_one (bytes_eq text (codes "constraint")) _ _ refl (either_one (bytes_eq text (codes "maximize")) _ _ refl (either_one (bytes_eq text (codes "minimize")) _ _ refl
    (either_one (bytes_eq text (codes "predicate")) _ _ refl (either_one (bytes_eq text (codes "satisfy")) _ _ refl (either_one (bytes_eq text (codes "solve")) _ _ refl refl))))))))))))))

not_named : (s : What) → is_sign s ≡ true → is_named (code (terminal_of s)) ≡ true → ⊥
not_named what.LeftParen sign e = absurd cc
not_named what.RightParen sign e = absurd cc
not_named what.LeftBracket sign e = absurd cc
not_named what.RightBracket sign e = absurd cc
not_named what.LeftBrace sign e = absurd cc
not_named what.RightBrace sign e = absurd cc
not_named what.Comma sign e = absurd cc
not_named what.DotDot sign e = absurd cc
not_named _ sign e = absurd cc

-- of all tokens a sign's own alone is of its kind
sign_code : (s w : What) (text : List ℕ) → is_sign s ≡ true → code (terminal_by w text) ≡ code (terminal_of s) → w ≡ s
unfolding terminal_by
sign_code what.LeftParen what.LeftParen text sign e = refl
sign_code what.RightParen what.RightParen text sign e = refl
sign_code what.LeftBracket what.LeftBracket text sign e = refl
sign_code what.RightBracket what.RightBracket text sign e = refl
sign_code what.LeftBrace what.LeftBrace text sign e = refl
sign_code what.RightBrace what.RightBrace text sign e = refl
sign_code what.Comma what.Comma text sign e = refl
sign_code what.DotDot what.DotDot text sign e = refl
sign_code s what.Name text sign e = absurd (not_named s sign (subst (λ n. is_named n ≡ true) e (named_terminal text)))
sign_code _ _ text sign e = absurd cc

code_of_sign : (s : What) (text : List ℕ) → is_sign s ≡ true → code (terminal_by s text) ≡ code (terminal_of s)
unfolding terminal_by
code_of_sign what.LeftParen text sign = refl
code_of_sign what.RightParen text sign = refl
code_of_sign what.LeftBracket text sign = refl
code_of_sign what.RightBracket text sign = refl
code_of_sign what.LeftBrace text sign = refl
code_of_sign what.RightBrace text sign = refl
code_of_sign what.Comma text sign = refl
code_of_sign what.DotDot text sign = refl
code_of_sign _ text sign = absurd cc

same_answer : (a b : Bool) → (a ≡ true → b ≡ true) → (b ≡ true → a ≡ true) → a ≡ b
same_answer true b one other = sym (one refl)
same_answer false true one other = absurd (let e = other refl in cc)
same_answer false false one other = refl

-- whether it is the sign's token is whether it is of the sign's kind
pub sign_told : (w s : What) (text : List ℕ) (b : Bool) → is_sign s ≡ true → (b ≡ true → w ≡ s) → (w ≡ s → b ≡ true) → b ≡ (code (terminal_by w text) == code (terminal_of s))
sign_told w s text b sign one other =
    same_answer b (code (terminal_by w text) == code (terminal_of s))
    (λ e. eq-eqb _ _ (ap (λ (v : What). code (terminal_by v text)) (one e) ∙ code_of_sign s text sign))
    (λ e. other (sign_code s w text sign (eqb-true _ _ e)))

pub int_told : (w : What) (text : List ℕ) → ((z : ℤ) → w ≡ what.Int z → ⊥) → false ≡ (code (terminal_by w text) == 3)
unfolding terminal_by
int_told (what.Int z) text none = absurd (none z refl)
int_told what.Name text none = same_answer false _ (λ e. absurd cc) (λ e. absurd (let f = subst (λ n. is_named n ≡ true) (eqb-true (code (name_terminal text)) 3 e) (named_terminal text) in cc))
int_told _ text none = refl

pub int_is : (w : What) (text : List ℕ) (z : ℤ) → w ≡ what.Int z → true ≡ (code (terminal_by w text) == 3)
unfolding terminal_by
int_is w text z is = rw is refl
