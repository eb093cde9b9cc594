-- No token of a printed production goes on into what follows it.
use Rattle.std.proofs.Common.{◌≡◌, ◌≢◌, ℕ, zero, suc, ◌+◌, Bool, true, false, List, [], ◌∷◌, ◌++◌, length, get_or, refl, sym, ap, subst, ◌∙◌, append_assoc, arith, codes}
use Rattle.std.proofs.lemmas.List.{append-nil}
use Rattle.std.specs.List.{AllByRecursion}
use Rattle.fzn_lex.specs.declared.words.What.{What}
use Rattle.fzn_lex.specs.declared.words.What.TheVariants as what
use Rattle.fzn_lex.specs.Classes.{is_word, is_letter, is_digit, is_blank, Are}
use Rattle.fzn_lex.specs.Tokens.{Spells, IsSmall}
use Rattle.fzn_lex.specs.Cutting.{Cutting, bytes_of}
use Rattle.fzn_lex.proofs.TightPieces.{NumberStops, AreTight, blank_piece}
use Rattle.fzn_lex.specs.Kept.{IsKept}
use Rattle.fzn_print.specs.Spelling.{spelling_of}
use Rattle.fzn_print.proofs.Spelled.{written, TokenStops, tight_token, tight_blank, stops_at, stops_at_dots}
use Rattle.fzn_words.specs.Words.{code, terminal_by}
use Rattle.fzn_syntax.specs.declared.number.Number.{Number}
use Rattle.fzn_syntax.specs.declared.number.Number.TheVariants as numbers
use Rattle.fzn_syntax.specs.declared.number.Bounds.{Bounds}
use Rattle.fzn_syntax.specs.declared.element.Element.{Element}
use Rattle.fzn_syntax.specs.declared.element.Element.TheVariants as elements
use Rattle.fzn_syntax.specs.declared.element.ParameterType.{ParameterType}
use Rattle.fzn_syntax.specs.declared.element.ParameterType.TheVariants as parameters
use Rattle.fzn_syntax.specs.declared.element.VariableType.{VariableType}
use Rattle.fzn_syntax.specs.declared.element.VariableType.TheVariants as variables
use Rattle.fzn_syntax.specs.declared.expression.Basic.{Basic}
use Rattle.fzn_syntax.specs.declared.expression.Basic.TheVariants as basics
use Rattle.fzn_syntax.specs.declared.expression.Expression.{Expression}
use Rattle.fzn_syntax.specs.declared.expression.Expression.TheVariants as expressions
use Rattle.fzn_syntax.proofs.Spelled.{IsSpelledNumber, IsSpelledBounds, AreSpelled, IsSpelledElement, IsSpelledParameterType, IsSpelledVariableType, IsSpelledName, IsSpelledBasic, IsSpelledExpression}
use Rattle.fzn_print.specs.Marks.{Mark, token, space, newline, symbol, name, mark_bytes, text_of, others, listed}
use Rattle.fzn_print.specs.Canonical.{number_marks, bounds_marks, set_marks, element_marks, set_of_marks, parameter_type_marks, domain_marks, variable_type_marks, basic_marks, expression_marks}
use Rattle.fzn_print.proofs.Texts.{text_of-append}

-- the pieces of marks
abbrev pub piece_of : Mark → Cutting
piece_of (token w text) = written w text
piece_of space = blank_piece 32
piece_of newline = blank_piece 10

abbrev pub pieces_of : List Mark → List Cutting
pieces_of [] = []
pieces_of (m ∷ ms) = piece_of m ∷ pieces_of ms

pub pieces_text : (ms : List Mark) → bytes_of (pieces_of ms) ≡ text_of ms
pieces_text [] = refl
pieces_text (token w text ∷ ms) = ap (λ (l : List ℕ). spelling_of w text ++ l) (pieces_text ms)
pieces_text (space ∷ ms) = ap (λ (l : List ℕ). 32 ∷ l) (pieces_text ms)
pieces_text (newline ∷ ms) = ap (λ (l : List ℕ). 10 ∷ l) (pieces_text ms)

-- each token is kept, and ended by what follows it
abbrev pub AreApart : List Mark → List ℕ → Type 0
AreApart [] rest = Unit {0}
AreApart (token w text ∷ ms) rest = IsKept w text × TokenStops w (text_of ms ++ rest) × AreApart ms rest
AreApart (space ∷ ms) rest = AreApart ms rest
AreApart (newline ∷ ms) rest = AreApart ms rest

space_blank : is_blank 32 ≡ true
unfolding is_blank
space_blank = refl

newline_blank : is_blank 10 ≡ true
unfolding is_blank
newline_blank = refl

pub apart_tight : (ms : List Mark) (rest : List ℕ) → AreApart ms rest → AreTight (pieces_of ms) rest
apart_tight [] rest h = tt
apart_tight (token w text ∷ ms) rest (kept, stop, more) = tight_token w text (pieces_of ms) rest kept (rw (pieces_text ms) stop) (apart_tight ms rest more)
apart_tight (space ∷ ms) rest h = tight_blank 32 (pieces_of ms) rest space_blank (apart_tight ms rest h)
apart_tight (newline ∷ ms) rest h = tight_blank 10 (pieces_of ms) rest newline_blank (apart_tight ms rest h)

pub AreApart-append : (ms ns : List Mark) (rest : List ℕ) → AreApart ms (text_of ns ++ rest) → AreApart ns rest → AreApart (ms ++ ns) rest
AreApart-append [] ns rest h k = k
AreApart-append (token w text ∷ ms) ns rest (kept, stop, more) k =
    (kept, rw (text_of-append ms ns, append_assoc (text_of ms) (text_of ns) rest) stop, AreApart-append ms ns rest more k)
AreApart-append (space ∷ ms) ns rest h k = AreApart-append ms ns rest h k
AreApart-append (newline ∷ ms) ns rest h k = AreApart-append ms ns rest h k

-- ---- bytes that end a name and a number

comma_word : is_word 44 ≡ false
unfolding is_word is_letter is_digit
comma_word = refl

brace_word : is_word 125 ≡ false
unfolding is_word is_letter is_digit
brace_word = refl

bracket_word : is_word 93 ≡ false
unfolding is_word is_letter is_digit
bracket_word = refl

space_word : is_word 32 ≡ false
unfolding is_word is_letter is_digit
space_word = refl

pub at_comma : (rest : List ℕ) → NumberStops (44 ∷ rest)
at_comma rest = stops_at 44 rest comma_word (λ e. omega arith)

pub at_brace : (rest : List ℕ) → NumberStops (125 ∷ rest)
at_brace rest = stops_at 125 rest brace_word (λ e. omega arith)

pub at_bracket : (rest : List ℕ) → NumberStops (93 ∷ rest)
at_bracket rest = stops_at 93 rest bracket_word (λ e. omega arith)

pub at_space : (rest : List ℕ) → NumberStops (32 ∷ rest)
at_space rest = stops_at 32 rest space_word (λ e. omega arith)

-- ---- lists with commas

module _ {X : Type 0} (f : X → List Mark) (Fine : X → Type 0) (apart : (x : X) (rest : List ℕ) → Fine x → NumberStops rest → AreApart (f x) rest) where
  others_stop : (xs : List X) (rest : List ℕ) → NumberStops rest → NumberStops (text_of (others f xs) ++ rest)
  others_stop [] rest stop = stop
  others_stop (x ∷ xs) rest stop = at_comma (text_of (f x ++ others f xs) ++ rest)

  others_apart : (xs : List X) (rest : List ℕ) → AllByRecursion Fine xs → NumberStops rest → AreApart (others f xs) rest
  others_apart [] rest h stop = tt
  others_apart (x ∷ xs) rest (fine, h) stop = (tt, tt, AreApart-append (f x) (others f xs) rest (apart x _ fine (others_stop xs rest stop)) (others_apart xs rest h stop))

  pub listed_apart : (xs : List X) (rest : List ℕ) → AllByRecursion Fine xs → NumberStops rest → AreApart (listed f xs) rest
  listed_apart [] rest h stop = tt
  listed_apart (x ∷ xs) rest (fine, h) stop = AreApart-append (f x) (others f xs) rest (apart x _ fine (others_stop xs rest stop)) (others_apart xs rest h stop)

-- ---- each production

pub number_apart : (n : Number) (rest : List ℕ) → IsSpelledNumber n → NumberStops rest → AreApart (number_marks n) rest
number_apart (numbers.Int z) rest h stop = (h, stop, tt)
number_apart (numbers.Float text) rest h stop = (h, stop, tt)

pub bounds_apart : (b : Bounds) (rest : List ℕ) → IsSpelledBounds b → NumberStops rest → AreApart (bounds_marks b) rest
bounds_apart b rest (low, high) stop =
    AreApart-append (number_marks b.lower) (symbol what.DotDot ∷ number_marks b.upper) rest (number_apart b.lower _ low (stops_at_dots (text_of (number_marks b.upper) ++ rest)))
    (tt, tt, number_apart b.upper rest high stop)

pub set_apart : (ns : List Number) (rest : List ℕ) → AreSpelled ns → AreApart (set_marks ns) rest
set_apart ns rest h =
    (tt, tt, AreApart-append (listed number_marks ns) (symbol what.RightBrace ∷ []) rest (listed_apart number_marks IsSpelledNumber number_apart ns (125 ∷ rest) h (at_brace rest)) (tt, tt, tt))

-- ---- reserved words are spelled like names

reserved_name : (b : ℕ) (bs : List ℕ) → is_letter b ≡ true → Are is_word bs → Spells what.Name (b ∷ bs)
reserved_name b bs h are = (b, bs, refl, h, are)

pub array_name : Spells what.Name (codes "array")
unfolding is_word is_letter
array_name = reserved_name 97 (114 ∷ 114 ∷ 97 ∷ 121 ∷ []) refl (refl, (refl, (refl, (refl, tt))))

pub bool_name : Spells what.Name (codes "bool")
unfolding is_word is_letter
bool_name = reserved_name 98 (111 ∷ 111 ∷ 108 ∷ []) refl (refl, (refl, (refl, tt)))

pub constraint_name : Spells what.Name (codes "constraint")
unfolding is_word is_letter
constraint_name = reserved_name 99 (111 ∷ 110 ∷ 115 ∷ 116 ∷ 114 ∷ 97 ∷ 105 ∷ 110 ∷ 116 ∷ []) refl (refl, (refl, (refl, (refl, (refl, (refl, (refl, (refl, (refl, tt)))))))))

pub false_name : Spells what.Name (codes "false")
unfolding is_word is_letter
false_name = reserved_name 102 (97 ∷ 108 ∷ 115 ∷ 101 ∷ []) refl (refl, (refl, (refl, (refl, tt))))

pub float_name : Spells what.Name (codes "float")
unfolding is_word is_letter
float_name = reserved_name 102 (108 ∷ 111 ∷ 97 ∷ 116 ∷ []) refl (refl, (refl, (refl, (refl, tt))))

pub int_name : Spells what.Name (codes "int")
unfolding is_word is_letter
int_name = reserved_name 105 (110 ∷ 116 ∷ []) refl (refl, (refl, tt))

pub maximize_name : Spells what.Name (codes "maximize")
unfolding is_word is_letter
maximize_name = reserved_name 109 (97 ∷ 120 ∷ 105 ∷ 109 ∷ 105 ∷ 122 ∷ 101 ∷ []) refl (refl, (refl, (refl, (refl, (refl, (refl, (refl, tt)))))))

pub minimize_name : Spells what.Name (codes "minimize")
unfolding is_word is_letter
minimize_name = reserved_name 109 (105 ∷ 110 ∷ 105 ∷ 109 ∷ 105 ∷ 122 ∷ 101 ∷ []) refl (refl, (refl, (refl, (refl, (refl, (refl, (refl, tt)))))))

pub of_name : Spells what.Name (codes "of")
unfolding is_word is_letter
of_name = reserved_name 111 (102 ∷ []) refl (refl, tt)

pub predicate_name : Spells what.Name (codes "predicate")
unfolding is_word is_letter
predicate_name = reserved_name 112 (114 ∷ 101 ∷ 100 ∷ 105 ∷ 99 ∷ 97 ∷ 116 ∷ 101 ∷ []) refl (refl, (refl, (refl, (refl, (refl, (refl, (refl, (refl, tt))))))))

pub satisfy_name : Spells what.Name (codes "satisfy")
unfolding is_word is_letter
satisfy_name = reserved_name 115 (97 ∷ 116 ∷ 105 ∷ 115 ∷ 102 ∷ 121 ∷ []) refl (refl, (refl, (refl, (refl, (refl, (refl, tt))))))

pub set_name : Spells what.Name (codes "set")
unfolding is_word is_letter
set_name = reserved_name 115 (101 ∷ 116 ∷ []) refl (refl, (refl, tt))

pub solve_name : Spells what.Name (codes "solve")
unfolding is_word is_letter
solve_name = reserved_name 115 (111 ∷ 108 ∷ 118 ∷ 101 ∷ []) refl (refl, (refl, (refl, (refl, tt))))

pub true_name : Spells what.Name (codes "true")
unfolding is_word is_letter
true_name = reserved_name 116 (114 ∷ 117 ∷ 101 ∷ []) refl (refl, (refl, (refl, tt)))

pub var_name : Spells what.Name (codes "var")
unfolding is_word is_letter
var_name = reserved_name 118 (97 ∷ 114 ∷ []) refl (refl, (refl, tt))

reserved_apart : (text : List ℕ) (rest : List ℕ) → Spells what.Name text → NumberStops rest → AreApart (name text ∷ []) rest
reserved_apart text rest h stop = (h, stop.no_word, tt)

-- before a space
pub spaced : (text : List ℕ) (ms : List Mark) (rest : List ℕ) → Spells what.Name text → AreApart ms rest → AreApart (name text ∷ space ∷ ms) rest
spaced text ms rest h more = (h, (at_space (text_of ms ++ rest)).no_word, more)

pub element_apart : (e : Element) (rest : List ℕ) → IsSpelledElement e → NumberStops rest → AreApart (element_marks e) rest
element_apart elements.Int rest h stop = reserved_apart (codes "int") rest int_name stop
element_apart elements.Float rest h stop = reserved_apart (codes "float") rest float_name stop
element_apart (elements.Range b) rest h stop = bounds_apart b rest h stop
element_apart (elements.Set ns) rest h stop = set_apart ns rest h

set_of_apart : (e : Element) (rest : List ℕ) → IsSpelledElement e → NumberStops rest → AreApart (set_of_marks e) rest
set_of_apart e rest h stop = spaced (codes "set") (name (codes "of") ∷ space ∷ element_marks e) rest set_name (spaced (codes "of") (element_marks e) rest of_name (element_apart e rest h stop))

pub parameter_type_apart : (t : ParameterType) (rest : List ℕ) → IsSpelledParameterType t → NumberStops rest → AreApart (parameter_type_marks t) rest
parameter_type_apart parameters.Bool rest h stop = reserved_apart (codes "bool") rest bool_name stop
parameter_type_apart parameters.Int rest h stop = reserved_apart (codes "int") rest int_name stop
parameter_type_apart parameters.Float rest h stop = reserved_apart (codes "float") rest float_name stop
parameter_type_apart (parameters.SetOf e) rest h stop = set_of_apart e rest h stop

domain_apart : (t : VariableType) (rest : List ℕ) → IsSpelledVariableType t → NumberStops rest → AreApart (domain_marks t) rest
domain_apart variables.Bool rest h stop = reserved_apart (codes "bool") rest bool_name stop
domain_apart (variables.Plain e) rest h stop = element_apart e rest h stop
domain_apart (variables.SetOf e) rest h stop = set_of_apart e rest h stop

pub variable_type_apart : (t : VariableType) (rest : List ℕ) → IsSpelledVariableType t → NumberStops rest → AreApart (variable_type_marks t) rest
variable_type_apart t rest h stop = spaced (codes "var") (domain_marks t) rest var_name (domain_apart t rest h stop)

pub basic_apart : (b : Basic) (rest : List ℕ) → IsSpelledBasic b → NumberStops rest → AreApart (basic_marks b) rest
basic_apart basics.True rest h stop = reserved_apart (codes "true") rest true_name stop
basic_apart basics.False rest h stop = reserved_apart (codes "false") rest false_name stop
basic_apart (basics.Name n) rest h stop = reserved_apart n.name rest h.0 stop
basic_apart (basics.Number n) rest h stop = number_apart n rest h stop
basic_apart (basics.Range b) rest h stop = bounds_apart b rest h stop
basic_apart (basics.Set ns) rest h stop = set_apart ns rest h

pub expression_apart : (e : Expression) (rest : List ℕ) → IsSpelledExpression e → NumberStops rest → AreApart (expression_marks e) rest
expression_apart (expressions.Basic b) rest h stop = basic_apart b rest h stop
expression_apart (expressions.List bs) rest h stop =
    (tt, tt, AreApart-append (listed basic_marks bs) (symbol what.RightBracket ∷ []) rest (listed_apart basic_marks IsSpelledBasic basic_apart bs (93 ∷ rest) h (at_bracket rest)) (tt, tt, tt))
