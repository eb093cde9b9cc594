-- The items of a text: names, floats and texts are spelled, integers are small.
use Rattle.std.proofs.Common.{◌≡◌, ◌≢◌, ℕ, ◌-◌, Bool, true, false, cond, List, [], ◌∷◌, ◌++◌, length, map, take, drop, Option, Some, None, refl, sym, ap, subst, ◌∙◌, arith}
use Rattle.std.proofs.lemmas.Option.{cond_some}
use Rattle.std.specs.Prelude.{ℤ, ◌==◌}
use Rattle.std.specs.List.{AllByRecursion}
use Rattle.std.proofs.lemmas.Bool.{eqb-true}
use Rattle.fzn_lex.specs.declared.words.What.{What}
use Rattle.fzn_lex.specs.declared.words.What.TheVariants as what
use Rattle.fzn_lex.specs.declared.tokens.Token.{Token}
use Rattle.fzn_lex.specs.Tokens.{Spells, IsSmall}
use Rattle.fzn_lex.specs.Cutting.{IsWhole}
use Rattle.fzn_lex.proofs.KeptTokens.{IsSmallToken, IsKeptToken, whole_kept}
use Rattle.fzn_lex.specs.Kept.{IsKept}
use Rattle.reading.specs.Language.{◌⨾◌, Nothing, One, Each, MaybeListed}
use Rattle.fzn_words.specs.declared.terminal.Terminal.TheVariants as terminals
use Rattle.fzn_words.specs.declared.word.Word.{Word}
use Rattle.fzn_syntax.specs.declared.identifier.Identifier.{Identifier}
use Rattle.fzn_syntax.specs.declared.number.Number.{Number}
use Rattle.fzn_syntax.specs.declared.number.Number.TheVariants as numbers
use Rattle.fzn_syntax.specs.declared.number.Bounds.{Bounds}
use Rattle.fzn_syntax.specs.declared.element.Element.{Element}
use Rattle.fzn_syntax.specs.declared.element.Element.TheVariants as elements
use Rattle.fzn_syntax.specs.declared.element.ParameterType.{ParameterType}
use Rattle.fzn_syntax.specs.declared.element.ParameterType.TheVariants as parameters
use Rattle.fzn_syntax.specs.declared.element.VariableType.{VariableType}
use Rattle.fzn_syntax.specs.declared.element.VariableType.TheVariants as variables
use Rattle.fzn_syntax.specs.declared.expression.Basic.{Basic}
use Rattle.fzn_syntax.specs.declared.expression.Basic.TheVariants as basics
use Rattle.fzn_syntax.specs.declared.expression.Expression.{Expression}
use Rattle.fzn_syntax.specs.declared.expression.Expression.TheVariants as expressions
use Rattle.fzn_words.specs.Words.{code, terminal_by, terminal, kept_text, word_of, words, is}
use Rattle.fzn_syntax.specs.Grammar.{number_of, Sign, IsName, IsNumber, IsBounds, IsSet, IsElement, IsParameterType, IsDomain, IsVariableType, IsBasic, IsExpression}

-- ---- the parts of a text: numbers are small, floats and names are spelled

abbrev pub IsSpelledNumber : Number → Type 0
IsSpelledNumber (numbers.Int z) = IsSmall z
IsSpelledNumber (numbers.Float text) = Spells what.Float text

abbrev pub IsSpelledBounds : Bounds → Type 0
IsSpelledBounds b = IsSpelledNumber b.lower × IsSpelledNumber b.upper

abbrev pub AreSpelled : List Number → Type 0
AreSpelled ns = AllByRecursion IsSpelledNumber ns

abbrev pub IsSpelledElement : Element → Type 0
IsSpelledElement (elements.Range b) = IsSpelledBounds b
IsSpelledElement (elements.Set ns) = AreSpelled ns
IsSpelledElement _ = Unit {0}

abbrev pub IsSpelledParameterType : ParameterType → Type 0
IsSpelledParameterType (parameters.SetOf e) = IsSpelledElement e
IsSpelledParameterType _ = Unit {0}

abbrev pub IsSpelledVariableType : VariableType → Type 0
IsSpelledVariableType variables.Bool = Unit {0}
IsSpelledVariableType (variables.Plain e) = IsSpelledElement e
IsSpelledVariableType (variables.SetOf e) = IsSpelledElement e

-- spelled like a name, and no reserved word
abbrev pub IsSpelledName : List ℕ → Type 0
IsSpelledName text = Spells what.Name text × (code (terminal_by what.Name text) ≡ code terminals.Name)

abbrev pub IsSpelledBasic : Basic → Type 0
IsSpelledBasic (basics.Name n) = IsSpelledName n.name
IsSpelledBasic (basics.Number n) = IsSpelledNumber n
IsSpelledBasic (basics.Range b) = IsSpelledBounds b
IsSpelledBasic (basics.Set ns) = AreSpelled ns
IsSpelledBasic _ = Unit {0}

abbrev pub IsSpelledExpression : Expression → Type 0
IsSpelledExpression (expressions.Basic b) = IsSpelledBasic b
IsSpelledExpression (expressions.List bs) = AllByRecursion IsSpelledBasic bs

-- ---- words

-- the bytes of the word spell it where it has some, and it has none else
abbrev pub IsKeptWord : Word → Type 0
IsKeptWord w = IsKept w.what w.text × (w.text ≡ kept_text w.what w.text)

abbrev pub AreKept : List Word → Type 0
AreKept ws = AllByRecursion IsKeptWord ws

pub kept_parts : (a b : List Word) → AreKept (a ++ b) → AreKept a × AreKept b
kept_parts [] b h = (tt, h)
kept_parts (w ∷ a) b (k, h) = let p = kept_parts a b h in ((k, p.0), p.1)

kept_word : (w : What) (text : List ℕ) → Spells w text → IsSmallToken w → IsKept w (kept_text w text)
kept_word what.Name text h s = h
kept_word what.Float text h s = h
kept_word what.Text text h s = h
kept_word (what.Int z) text h s = s
kept_word what.LeftParen text h s = tt
kept_word what.RightParen text h s = tt
kept_word what.LeftBracket text h s = tt
kept_word what.RightBracket text h s = tt
kept_word what.LeftBrace text h s = tt
kept_word what.RightBrace text h s = tt
kept_word what.Comma text h s = tt
kept_word what.Semicolon text h s = tt
kept_word what.Colon text h s = tt
kept_word what.DoubleColon text h s = tt
kept_word what.Equal text h s = tt
kept_word what.DotDot text h s = tt

kept_twice : (w : What) (text : List ℕ) → kept_text w text ≡ kept_text w (kept_text w text)
kept_twice (what.Int z) text = refl
kept_twice what.Name text = refl
kept_twice what.Float text = refl
kept_twice what.Text text = refl
kept_twice what.LeftParen text = refl
kept_twice what.RightParen text = refl
kept_twice what.LeftBracket text = refl
kept_twice what.RightBracket text = refl
kept_twice what.LeftBrace text = refl
kept_twice what.RightBrace text = refl
kept_twice what.Comma text = refl
kept_twice what.Semicolon text = refl
kept_twice what.Colon text = refl
kept_twice what.DoubleColon text = refl
kept_twice what.Equal text = refl
kept_twice what.DotDot text = refl

kept_words : (bytes : List ℕ) (ts : List Token) → AllByRecursion (IsKeptToken bytes) ts → AreKept (words bytes ts)
kept_words bytes [] h = tt
kept_words bytes (t ∷ ts) ((spelled, small), h) =
    ((kept_word t.what (take (t.end - t.start) (drop t.start bytes)) spelled small, kept_twice t.what (take (t.end - t.start) (drop t.start bytes))), kept_words bytes ts h)

-- the words of a text that is cut are kept
pub whole_words : (bytes : List ℕ) (tokens : List Token) → IsWhole bytes tokens → AreKept (words bytes tokens)
whole_words bytes tokens w = kept_words bytes tokens (whole_kept bytes tokens w)

-- ---- numbers

same_number : (n m : Number) → ◌≡◌ {A = Option Number} (Some n) (Some m) → n ≡ m
same_number n m e = cc

number_worth_spelled : (w : What) (text : List ℕ) (n : Number) → number_of w text ≡ Some n → IsKept w text → IsSpelledNumber n
number_worth_spelled (what.Int z) text n e h = subst IsSpelledNumber (same_number (numbers.Int z) n e) h
number_worth_spelled what.Float text n e h = subst IsSpelledNumber (same_number (numbers.Float text) n e) h
number_worth_spelled _ text n e h = absurd cc

pub number_spelled : (n : Number) (ws : List Word) → IsNumber n ws → AreKept ws → IsSpelledNumber n
number_spelled n ws (s, worth, e) h = let k = subst AreKept e h in number_worth_spelled s.what s.text n worth k.0.0

pub bounds_spelled : (b : Bounds) (ws : List Word) → IsBounds b ws → AreKept ws → IsSpelledBounds b
bounds_spelled b ws (x, y, e, low, (u, v, e', dots, high)) h =
    let p = kept_parts x y (subst AreKept e h) in
    let q = kept_parts u v (subst AreKept e' p.1) in
    (number_spelled b.lower x low p.0, number_spelled b.upper v high q.1)

-- lists with commas
module _ {X : Type 0} (D : X → List Word → Type 0) (Spelled : X → Type 0) (spelled : (x : X) (ws : List Word) → D x ws → AreKept ws → Spelled x) where
  others_spelled : (xs : List X) (ws : List Word) → Each (λ y. Sign terminals.Comma ⨾ D y) xs ws → AreKept ws → AllByRecursion Spelled xs
  others_spelled [] ws d h = tt
  others_spelled (x ∷ xs) ws (a, b, e, (u, v, e', comma, d), more) h =
      let p = kept_parts a b (subst AreKept e h) in
      let q = kept_parts u v (subst AreKept e' p.0) in
      (spelled x v d q.1, others_spelled xs b more p.1)

  pub listed_spelled : (xs : List X) (ws : List Word) → MaybeListed (Sign terminals.Comma) D xs ws → AreKept ws → AllByRecursion Spelled xs
  listed_spelled [] ws d h = tt
  listed_spelled (x ∷ xs) ws (a, b, e, d, more) h = let p = kept_parts a b (subst AreKept e h) in (spelled x a d p.0, others_spelled xs b more p.1)

pub set_spelled : (ns : List Number) (ws : List Word) → IsSet ns ws → AreKept ws → AreSpelled ns
set_spelled ns ws (a, b, e, first, (u, v, e', d, last)) h =
    let p = kept_parts a b (subst AreKept e h) in
    let q = kept_parts u v (subst AreKept e' p.1) in
    listed_spelled IsNumber IsSpelledNumber number_spelled ns u d q.0

pub element_spelled : (x : Element) (ws : List Word) → IsElement x ws → AreKept ws → IsSpelledElement x
element_spelled elements.Int ws d h = tt
element_spelled elements.Float ws d h = tt
element_spelled (elements.Range b) ws d h = bounds_spelled b ws d h
element_spelled (elements.Set ns) ws d h = set_spelled ns ws d h

set_of_spelled : (x : Element) (ws : List Word) → (Sign terminals.Set ⨾ Sign terminals.Of ⨾ IsElement x) ws → AreKept ws → IsSpelledElement x
set_of_spelled x ws (a, b, e, one, (u, v, e', two, d)) h =
    let p = kept_parts a b (subst AreKept e h) in
    let q = kept_parts u v (subst AreKept e' p.1) in
    element_spelled x v d q.1

pub parameter_type_spelled : (t : ParameterType) (ws : List Word) → IsParameterType t ws → AreKept ws → IsSpelledParameterType t
parameter_type_spelled parameters.Bool ws d h = tt
parameter_type_spelled parameters.Int ws d h = tt
parameter_type_spelled parameters.Float ws d h = tt
parameter_type_spelled (parameters.SetOf x) ws d h = set_of_spelled x ws d h

domain_spelled : (t : VariableType) (ws : List Word) → IsDomain t ws → AreKept ws → IsSpelledVariableType t
domain_spelled variables.Bool ws d h = tt
domain_spelled (variables.Plain x) ws d h = element_spelled x ws d h
domain_spelled (variables.SetOf x) ws d h = set_of_spelled x ws d h

pub variable_type_spelled : (t : VariableType) (ws : List Word) → IsVariableType t ws → AreKept ws → IsSpelledVariableType t
variable_type_spelled t ws (a, b, e, one, d) h = let p = kept_parts a b (subst AreKept e h) in domain_spelled t b d p.1

-- ---- names

what_name : (w : What) (text : List ℕ) → code (terminal_by w text) ≡ code terminals.Name → w ≡ what.Name
unfolding terminal_by
what_name what.Name text e = refl
what_name (what.Int z) text e = absurd (omega arith)
what_name what.Float text e = absurd (omega arith)
what_name what.Text text e = absurd (omega arith)
what_name what.LeftParen text e = absurd (omega arith)
what_name what.RightParen text e = absurd (omega arith)
what_name what.LeftBracket text e = absurd (omega arith)
what_name what.RightBracket text e = absurd (omega arith)
what_name what.LeftBrace text e = absurd (omega arith)
what_name what.RightBrace text e = absurd (omega arith)
what_name what.Comma text e = absurd (omega arith)
what_name what.Semicolon text e = absurd (omega arith)
what_name what.Colon text e = absurd (omega arith)
what_name what.DoubleColon text e = absurd (omega arith)
what_name what.Equal text e = absurd (omega arith)
what_name what.DotDot text e = absurd (omega arith)

named_spelled : (w : What) (text : List ℕ) → code (terminal_by w text) ≡ code terminals.Name → IsKept w text → IsSpelledName text
named_spelled w text e h =
    let is : w ≡ what.Name = what_name w text e in
    let k : code (terminal_by what.Name text) ≡ code terminals.Name = rw is at e in
    (subst (λ (v : What). IsKept v text) is h, k)

pub name_spelled : (n : Identifier) (ws : List Word) → IsName n ws → AreKept ws → IsSpelledName n.name
name_spelled n ws (s, worth, e) h =
    let k = subst AreKept e h in
    let p = cond_some (code (terminal s) == code terminals.Name) (record { name = s.text; at = s.at }) n worth in
    let terminal_is : code (terminal s) ≡ code terminals.Name = eqb-true (code (terminal s)) (code terminals.Name) p.0 in
    let same : s.text ≡ n.name = ap (λ (i : Identifier). i.name) p.1 in
    subst IsSpelledName same (named_spelled s.what s.text terminal_is k.0.0)

-- ---- expressions

pub basic_spelled : (x : Basic) (ws : List Word) → IsBasic x ws → AreKept ws → IsSpelledBasic x
basic_spelled basics.True ws d h = tt
basic_spelled basics.False ws d h = tt
basic_spelled (basics.Name n) ws d h = name_spelled n ws d h
basic_spelled (basics.Number n) ws d h = number_spelled n ws d h
basic_spelled (basics.Range b) ws d h = bounds_spelled b ws d h
basic_spelled (basics.Set ns) ws d h = set_spelled ns ws d h

pub expression_spelled : (x : Expression) (ws : List Word) → IsExpression x ws → AreKept ws → IsSpelledExpression x
expression_spelled (expressions.Basic b) ws d h = basic_spelled b ws d h
expression_spelled (expressions.List bs) ws (a, b, e, first, (u, v, e', d, last)) h =
    let p = kept_parts a b (subst AreKept e h) in
    let q = kept_parts u v (subst AreKept e' p.1) in
    listed_spelled IsBasic IsSpelledBasic basic_spelled bs u d q.0
