-- With which word things begin, and the readers of single words.
use Rattle.std.proofs.Common.{◌==◌, ◌≡◌, ℕ, Bool, true, false, cond, List, [], ◌++◌, Some, None, pos, refl, ap, append_assoc, codes}
use Rattle.std.proofs.lemmas.Option.{cond_some}
use Rattle.std.proofs.lemmas.Bool.{eqb-true, eq-eqb}
use Rattle.fzn_lex.specs.declared.words.What.{What}
use Rattle.fzn_lex.specs.declared.words.What.TheVariants as what
use Rattle.reading.specs.Language.{◌⨾◌, One}
use Rattle.reading.specs.Readers.{begins, none, one}
use Rattle.reading.proofs.Laws.{Reads, one_reads}
use Rattle.fzn_words.specs.declared.terminal.Terminal.{Terminal}
use Rattle.fzn_words.specs.declared.terminal.Terminal.TheVariants as terminals
use Rattle.fzn_words.specs.declared.word.Word.{Word}
use Rattle.fzn_syntax.specs.declared.identifier.Identifier.{Identifier}
use Rattle.fzn_syntax.specs.declared.number.Number.{Number}
use Rattle.fzn_syntax.specs.declared.number.Number.TheVariants as numbers
use Rattle.fzn_words.specs.Words.{code, terminal_by, terminal, is}
use Rattle.fzn_syntax.specs.Grammar.{sign_worth, name_worth, int_worth, number_of, number_worth, Sign, IsName, IsInt, IsNumber}
use Rattle.fzn_syntax.specs.Reading.{sign_at, name_at, int_at, number_at}

-- ---- a word of each kind

abbrev token : What → Word
token w = record { what = w; text = []; at = 0 }

abbrev named : List ℕ → Word
named text = record { what = what.Name; text = text; at = 0 }

example : (k : Terminal) → (w : Word) × (terminal w ≡ k)
unfolding terminal_by
example terminals.Name = (named (codes "x"), refl)
example terminals.Float = (token what.Float, refl)
example terminals.Text = (token what.Text, refl)
example terminals.Int = (token (what.Int (pos 0)), refl)
example terminals.LeftParen = (token what.LeftParen, refl)
example terminals.RightParen = (token what.RightParen, refl)
example terminals.LeftBracket = (token what.LeftBracket, refl)
example terminals.RightBracket = (token what.RightBracket, refl)
example terminals.LeftBrace = (token what.LeftBrace, refl)
example terminals.RightBrace = (token what.RightBrace, refl)
example terminals.Comma = (token what.Comma, refl)
example terminals.Semicolon = (token what.Semicolon, refl)
example terminals.Colon = (token what.Colon, refl)
example terminals.DoubleColon = (token what.DoubleColon, refl)
example terminals.Equal = (token what.Equal, refl)
example terminals.DotDot = (token what.DotDot, refl)
example terminals.Array = (named (codes "array"), refl)
example terminals.Bool = (named (codes "bool"), refl)
example terminals.Constraint = (named (codes "constraint"), refl)
example terminals.False = (named (codes "false"), refl)
example terminals.FloatWord = (named (codes "float"), refl)
example terminals.IntWord = (named (codes "int"), refl)
example terminals.Maximize = (named (codes "maximize"), refl)
example terminals.Minimize = (named (codes "minimize"), refl)
example terminals.Of = (named (codes "of"), refl)
example terminals.Predicate = (named (codes "predicate"), refl)
example terminals.Satisfy = (named (codes "satisfy"), refl)
example terminals.Set = (named (codes "set"), refl)
example terminals.Solve = (named (codes "solve"), refl)
example terminals.True = (named (codes "true"), refl)
example terminals.Var = (named (codes "var"), refl)

pub is_example : (k : Terminal) → (w : Word) × (is k w ≡ true)
is_example k = let e = example k in (e.0, eq-eqb (code (terminal e.0)) (code k) (ap code e.1))

-- ---- readers of single words

pub sign_reads : (k : Terminal) → Reads (λ (_ : Unit {0}). Sign k) none (sign_at k)
unfolding sign_at
sign_reads k = let e = is_example k in weak (one_reads (sign_worth k) tt e.0 (rw e.1 refl)) where
  weak : Reads (One (sign_worth k)) none (one (sign_worth k)) → Reads (λ (_ : Unit {0}). Sign k) none (one (sign_worth k))
  weak h = h

pub name_reads : Reads IsName none name_at
unfolding name_at
name_reads = let e = is_example terminals.Name in one_reads name_worth (record { name = e.0.text; at = e.0.at }) e.0 (rw e.1 refl)

pub int_reads : Reads IsInt none int_at
unfolding int_at
int_reads = one_reads int_worth (pos 0) (token (what.Int (pos 0))) refl

pub number_reads : Reads IsNumber none number_at
unfolding number_at
number_reads = one_reads number_worth (numbers.Int (pos 0)) (token (what.Int (pos 0))) refl

-- ---- the first word

-- whether the first word is of a kind that passes
abbrev pub leads : (ℕ → Bool) → Word → Bool
leads test w = test (code (terminal w))

pub sign_first : (test : ℕ → Bool) (b : Bool) (k : Terminal) → test (code k) ≡ b → (used rest : List Word) → Sign k used → begins (leads test) (used ++ rest) ≡ b
sign_first test b k passes used rest d =
    let same : code (terminal d.0) ≡ code k = eqb-true (code (terminal d.0)) (code k) (cond_some (is k d.0) tt tt d.1).0 in
    rw (d.2, same) passes

-- a comma comes first
pub comma_starts : (used rest : List Word) → Sign terminals.Comma used → begins (is terminals.Comma) (used ++ rest) ≡ true
comma_starts used rest d = sign_first (λ n. n == 10) true terminals.Comma refl used rest d

pub name_first : (test : ℕ → Bool) (b : Bool) → test 0 ≡ b → (n : Identifier) (used rest : List Word) → IsName n used → begins (leads test) (used ++ rest) ≡ b
name_first test b passes n used rest d =
    let same : code (terminal d.0) ≡ 0 = eqb-true (code (terminal d.0)) 0 (cond_some (is terminals.Name d.0) (record { name = d.0.text; at = d.0.at }) n d.1).0 in
    rw (d.2, same) passes

number_code : (test : ℕ → Bool) (b : Bool) → test 3 ≡ b → test 1 ≡ b → (w : What) (text : List ℕ) (n : Number) → number_of w text ≡ Some n → test (code (terminal_by w text)) ≡ b
unfolding terminal_by
number_code test b int float (what.Int z) text n e = int
number_code test b int float what.Float text n e = float
number_code test b int float _ text n e = absurd cc

pub number_first : (test : ℕ → Bool) (b : Bool) → test 3 ≡ b → test 1 ≡ b → (n : Number) (used rest : List Word) → IsNumber n used → begins (leads test) (used ++ rest) ≡ b
number_first test b int float n used rest d = rw d.2 (number_code test b int float d.0.what d.0.text n d.1)

-- the first word of the first of two parts
pub front_first : (test : Word → Bool) (b : Bool) (A B : List Word → Type 0) → ((used rest : List Word) → A used → begins test (used ++ rest) ≡ b)
    → (used rest : List Word) → (A ⨾ B) used → begins test (used ++ rest) ≡ b
front_first test b A B first used rest d = rw (d.2, append_assoc d.0 d.1 rest) (first d.0 (d.1 ++ rest) d.3)
