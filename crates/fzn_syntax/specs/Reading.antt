-- What the readers of the productions answer.
use Rattle.std.specs.Prelude.{Bool, ◌||◌, List, [], ℤ, Option, Some, None}
use Rattle.reading.specs.Readers.{Answer, one, nothing, pair, made, either, maybe, behind, listed}
use Rattle.fzn_words.specs.declared.terminal.Terminal.{Terminal}
use Rattle.fzn_words.specs.declared.terminal.Terminal.TheVariants as terminals
use Rattle.fzn_words.specs.declared.word.Word.{Word}
use Rattle.fzn_syntax.specs.declared.identifier.Identifier.{Identifier}
use Rattle.fzn_syntax.specs.declared.number.Number.{Number}
use Rattle.fzn_syntax.specs.declared.number.Bounds.{Bounds}
use Rattle.fzn_syntax.specs.declared.element.Element.{Element}
use Rattle.fzn_syntax.specs.declared.element.Element.TheVariants as elements
use Rattle.fzn_syntax.specs.declared.element.ParameterType.{ParameterType}
use Rattle.fzn_syntax.specs.declared.element.ParameterType.TheVariants as parameters
use Rattle.fzn_syntax.specs.declared.element.VariableType.{VariableType}
use Rattle.fzn_syntax.specs.declared.element.VariableType.TheVariants as variables
use Rattle.fzn_syntax.specs.declared.expression.Basic.{Basic}
use Rattle.fzn_syntax.specs.declared.expression.Basic.TheVariants as basics
use Rattle.fzn_syntax.specs.declared.expression.Expression.{Expression}
use Rattle.fzn_syntax.specs.declared.expression.Expression.TheVariants as expressions
use Rattle.fzn_words.specs.Words.{is}
use Rattle.fzn_syntax.specs.Grammar.{sign_worth, name_worth, int_worth, number_worth}

-- reads a word of the kind
unfoldable pub sign_at : Terminal → List Word → Answer Word (Unit {0})
sign_at k = one (sign_worth k)

-- reads a name
unfoldable pub name_at : List Word → Answer Word Identifier
name_at = one name_worth

-- reads an integer
unfoldable pub int_at : List Word → Answer Word ℤ
int_at = one int_worth

-- reads a number
unfoldable pub number_at : List Word → Answer Word Number
number_at = one number_worth

-- an integer or a float stands first
abbrev pub is_number : Word → Bool
is_number w = is terminals.Int w || is terminals.Float w

-- reads number '..' number
unfoldable pub bounds_at : List Word → Answer Word Bounds
bounds_at = made (λ p. record { lower = p.0; upper = p.1.1 }) (pair number_at (pair (sign_at terminals.DotDot) number_at))

-- reads ',' number
abbrev pub more_numbers_at : List Word → Answer Word Number
more_numbers_at = behind (sign_at terminals.Comma) number_at

-- reads number {',' number}*
unfoldable pub numbers_at : List Word → Answer Word (List Number)
numbers_at = listed (is terminals.Comma) (sign_at terminals.Comma) number_at

-- reads [number {',' number}*]
unfoldable pub some_numbers_at : List Word → Answer Word (List Number)
some_numbers_at = either is_number numbers_at (made (λ _. []) nothing)

-- reads '{' [number {',' number}*] '}'
unfoldable pub set_at : List Word → Answer Word (List Number)
set_at = made (λ p. p.1.0) (pair (sign_at terminals.LeftBrace) (pair some_numbers_at (sign_at terminals.RightBrace)))

-- reads 'int' | 'float' | number '..' number | '{' [number {',' number}*] '}'
unfoldable pub element_at : List Word → Answer Word Element
element_at =
    either (is terminals.IntWord) (made (λ _. elements.Int) (sign_at terminals.IntWord))
    (either (is terminals.FloatWord) (made (λ _. elements.Float) (sign_at terminals.FloatWord))
    (either (is terminals.LeftBrace) (made (λ ns. elements.Set ns) set_at) (made (λ b. elements.Range b) bounds_at)))

-- reads 'set' 'of' elem
unfoldable pub set_of_at : List Word → Answer Word Element
set_of_at = made (λ p. p.1.1) (pair (sign_at terminals.Set) (pair (sign_at terminals.Of) element_at))

-- reads 'bool' | 'int' | 'float' | 'set' 'of' elem
unfoldable pub parameter_type_at : List Word → Answer Word ParameterType
parameter_type_at =
    either (is terminals.Bool) (made (λ _. parameters.Bool) (sign_at terminals.Bool))
    (either (is terminals.IntWord) (made (λ _. parameters.Int) (sign_at terminals.IntWord))
    (either (is terminals.FloatWord) (made (λ _. parameters.Float) (sign_at terminals.FloatWord)) (made (λ e. parameters.SetOf e) set_of_at)))

-- reads 'bool' | elem | 'set' 'of' elem
unfoldable pub domain_at : List Word → Answer Word VariableType
domain_at =
    either (is terminals.Bool) (made (λ _. variables.Bool) (sign_at terminals.Bool))
    (either (is terminals.Set) (made (λ e. variables.SetOf e) set_of_at) (made (λ e. variables.Plain e) element_at))

-- reads 'var' ('bool' | elem | 'set' 'of' elem)
unfoldable pub variable_type_at : List Word → Answer Word VariableType
variable_type_at = made (λ p. p.1) (pair (sign_at terminals.Var) domain_at)

-- a number, or two with `..` between them
abbrev pub number_or_range : Number × Option Number → Basic
number_or_range (n, None) = basics.Number n
number_or_range (n, Some m) = basics.Range (record { lower = n; upper = m })

-- reads ['..' number]
unfoldable pub upper_at : List Word → Answer Word (Option Number)
upper_at = maybe (is terminals.DotDot) (behind (sign_at terminals.DotDot) number_at)

-- reads number ['..' number]
unfoldable pub range_at : List Word → Answer Word Basic
range_at = made number_or_range (pair number_at upper_at)

-- reads an expression without a list
unfoldable pub basic_at : List Word → Answer Word Basic
basic_at =
    either (is terminals.True) (made (λ _. basics.True) (sign_at terminals.True))
    (either (is terminals.False) (made (λ _. basics.False) (sign_at terminals.False))
    (either (is terminals.LeftBrace) (made (λ ns. basics.Set ns) set_at)
    (either is_number range_at (made (λ n. basics.Name n) name_at))))

-- reads ',' basic
abbrev pub more_basics_at : List Word → Answer Word Basic
more_basics_at = behind (sign_at terminals.Comma) basic_at

-- reads basic {',' basic}*
unfoldable pub basics_at : List Word → Answer Word (List Basic)
basics_at = listed (is terminals.Comma) (sign_at terminals.Comma) basic_at

-- a basic expression may begin with the word
abbrev pub leads_basic : Word → Bool
leads_basic w = is terminals.True w || (is terminals.False w || (is terminals.LeftBrace w || (is_number w || is terminals.Name w)))

-- reads [basic {',' basic}*]
unfoldable pub some_basics_at : List Word → Answer Word (List Basic)
some_basics_at = either leads_basic basics_at (made (λ _. []) nothing)

-- reads '[' [basic {',' basic}*] ']'
unfoldable pub list_at : List Word → Answer Word (List Basic)
list_at = made (λ p. p.1.0) (pair (sign_at terminals.LeftBracket) (pair some_basics_at (sign_at terminals.RightBracket)))

-- reads an expression
unfoldable pub expression_at : List Word → Answer Word Expression
expression_at = either (is terminals.LeftBracket) (made (λ bs. expressions.List bs) list_at) (made (λ b. expressions.Basic b) basic_at)
