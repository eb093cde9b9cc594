-- The grammar of items, production by production, over the words of a text.
use Rattle.std.specs.Prelude.{ℕ, List, ℤ, Option, Some, None, if◌then◌else◌}
use Rattle.fzn_lex.specs.declared.words.What.{What}
use Rattle.fzn_lex.specs.declared.words.What.TheVariants as what
use Rattle.reading.specs.Language.{◌⨾◌, One, MaybeListed}
use Rattle.fzn_words.specs.declared.terminal.Terminal.{Terminal}
use Rattle.fzn_words.specs.declared.terminal.Terminal.TheVariants as terminals
use Rattle.fzn_words.specs.declared.word.Word.{Word}
use Rattle.fzn_syntax.specs.declared.identifier.Identifier.{Identifier}
use Rattle.fzn_syntax.specs.declared.number.Number.{Number}
use Rattle.fzn_syntax.specs.declared.number.Number.TheVariants as numbers
use Rattle.fzn_syntax.specs.declared.number.Bounds.{Bounds}
use Rattle.fzn_syntax.specs.declared.element.Element.{Element}
use Rattle.fzn_syntax.specs.declared.element.Element.TheVariants as elements
use Rattle.fzn_syntax.specs.declared.element.ParameterType.{ParameterType}
use Rattle.fzn_syntax.specs.declared.element.ParameterType.TheVariants as parameters
use Rattle.fzn_syntax.specs.declared.element.VariableType.{VariableType}
use Rattle.fzn_syntax.specs.declared.element.VariableType.TheVariants as variables
use Rattle.fzn_syntax.specs.declared.expression.Basic.{Basic}
use Rattle.fzn_syntax.specs.declared.expression.Basic.TheVariants as basics
use Rattle.fzn_syntax.specs.declared.expression.Expression.{Expression}
use Rattle.fzn_syntax.specs.declared.expression.Expression.TheVariants as expressions
use Rattle.fzn_words.specs.Words.{is, int_of}

-- ---- one word

-- a word of the kind is worth nothing more
abbrev pub sign_worth : Terminal → Word → Option (Unit {0})
sign_worth k w = if is k w then Some tt else None

-- a name is worth its bytes and its place
abbrev pub name_worth : Word → Option Identifier
name_worth w = if is terminals.Name w then Some (record { name = w.text; at = w.at }) else None

-- an integer is worth its value
abbrev pub int_worth : Word → Option ℤ
int_worth w = int_of w.what

-- an integer or a float
abbrev pub number_of : What → List ℕ → Option Number
number_of (what.Int z) text = Some (numbers.Int z)
number_of what.Float text = Some (numbers.Float text)
number_of _ text = None

-- a number is worth its value, or its bytes where it is a float
abbrev pub number_worth : Word → Option Number
number_worth w = number_of w.what w.text

-- a word of this kind, a name, an integer, a number
abbrev pub Sign : Terminal → List Word → Type 0
Sign k = One (sign_worth k) tt

-- the word is this name
abbrev pub IsName : Identifier → List Word → Type 0
IsName = One name_worth

-- the word is this integer
abbrev pub IsInt : ℤ → List Word → Type 0
IsInt = One int_worth

-- the word is this number
abbrev pub IsNumber : Number → List Word → Type 0
IsNumber = One number_worth

-- ---- sets and types

-- number '..' number
abbrev pub IsBounds : Bounds → List Word → Type 0
IsBounds b = IsNumber b.lower ⨾ Sign terminals.DotDot ⨾ IsNumber b.upper

-- '{' [number {',' number}*] '}'
abbrev pub IsSet : List Number → List Word → Type 0
IsSet ns = Sign terminals.LeftBrace ⨾ MaybeListed (Sign terminals.Comma) IsNumber ns ⨾ Sign terminals.RightBrace

-- 'int' | 'float' | number '..' number | '{' [number {',' number}*] '}'
abbrev pub IsElement : Element → List Word → Type 0
IsElement elements.Int = Sign terminals.IntWord
IsElement elements.Float = Sign terminals.FloatWord
IsElement (elements.Range b) = IsBounds b
IsElement (elements.Set ns) = IsSet ns

-- 'bool' | 'int' | 'float' | 'set' 'of' elem
abbrev pub IsParameterType : ParameterType → List Word → Type 0
IsParameterType parameters.Bool = Sign terminals.Bool
IsParameterType parameters.Int = Sign terminals.IntWord
IsParameterType parameters.Float = Sign terminals.FloatWord
IsParameterType (parameters.SetOf e) = Sign terminals.Set ⨾ Sign terminals.Of ⨾ IsElement e

-- 'bool' | elem | 'set' 'of' elem
abbrev pub IsDomain : VariableType → List Word → Type 0
IsDomain variables.Bool = Sign terminals.Bool
IsDomain (variables.Plain e) = IsElement e
IsDomain (variables.SetOf e) = Sign terminals.Set ⨾ Sign terminals.Of ⨾ IsElement e

-- 'var' ('bool' | elem | 'set' 'of' elem)
abbrev pub IsVariableType : VariableType → List Word → Type 0
IsVariableType t = Sign terminals.Var ⨾ IsDomain t

-- ---- expressions

-- 'true' | 'false' | Name | number | number '..' number | '{' [number {',' number}*] '}'
abbrev pub IsBasic : Basic → List Word → Type 0
IsBasic basics.True = Sign terminals.True
IsBasic basics.False = Sign terminals.False
IsBasic (basics.Name n) = IsName n
IsBasic (basics.Number n) = IsNumber n
IsBasic (basics.Range b) = IsBounds b
IsBasic (basics.Set ns) = IsSet ns

-- basic | '[' [basic {',' basic}*] ']'
abbrev pub IsExpression : Expression → List Word → Type 0
IsExpression (expressions.Basic b) = IsBasic b
IsExpression (expressions.List bs) = Sign terminals.LeftBracket ⨾ MaybeListed (Sign terminals.Comma) IsBasic bs ⨾ Sign terminals.RightBracket
