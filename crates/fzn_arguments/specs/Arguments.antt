-- What arguments of constraints stand for.
use Rattle.std.specs.Prelude.{◌≡◌, Bool, true, false, ℕ, ℤ, pos, List, [], ◌∷◌, Some}
use Rattle.dom_core.specs.declared.arg.Arg.{Arg}
use Rattle.dom_core.specs.declared.arg.Arg.TheVariants.{Var, Const}
use Rattle.dom_core.specs.declared.var_id.VarId.{VarId}
use Rattle.dom_definers.specs.declared.form.Form.{Form}
use Rattle.dom_definers.specs.declared.form.Form.TheVariants as forms
use Rattle.fzn_arguments.specs.Numbers.{IsNumbered}
use Rattle.fzn_symbols.specs.Named.{names_of, AreDifferent}
use Rattle.fzn_syntax.specs.declared.declaration.Declaration.{Declaration}
use Rattle.fzn_syntax.specs.declared.expression.Basic.{Basic}
use Rattle.fzn_syntax.specs.declared.expression.Expression.{Expression}
use Rattle.fzn_syntax.specs.declared.expression.Expression.TheVariants as expressions
use Rattle.fzn_values.specs.Constants.{IsTruthOf, IsIntOf, IsListOf}
use Rattle.fzn_values.specs.Literals.{name_in}

-- 1 is true, and 0 is false
abbrev pub value_of : Bool → ℤ
value_of true = pos 1
value_of false = pos 0

-- the literal or name has this value: an integer, or a truth value as a number
abbrev pub HasValue : List Declaration → Form → Basic → ℤ → Type 0
HasValue ds forms.Bool b z = (t : Bool) × IsTruthOf ds b t × (z ≡ value_of t)
HasValue ds forms.Int b z = IsIntOf ds b z

-- the expression is the name of the variable of this form with this number
abbrev pub NamesVariable : List Declaration → Form → Basic → VarId → Type 0
NamesVariable ds form b x = (n : List ℕ) × (name_in b ≡ Some n) × IsNumbered ds form n x

-- the literal or name stands for this constant, or for this variable
abbrev pub IsArg : List Declaration → Form → Basic → Arg → Type 0
IsArg ds form b (Const z) = HasValue ds form b z
IsArg ds form b (Var x) = NamesVariable ds form b x

-- one by one they do
abbrev pub AreArgs : List Declaration → Form → List Basic → List Arg → Type 0
AreArgs ds form [] [] = Unit {0}
AreArgs ds form (b ∷ bs) (x ∷ xs) = IsArg ds form b x × AreArgs ds form bs xs
AreArgs ds form [] (x ∷ xs) = ⊥
AreArgs ds form (b ∷ bs) [] = ⊥

-- the expression stands for a list, whose entries stand for these
abbrev pub AreArgsOf : List Declaration → Form → Expression → List Arg → Type 0
AreArgsOf ds form e xs = (bs : List Basic) × IsListOf ds e bs × AreArgs ds form bs xs

-- the expression is a literal or name that stands for this, and no list
abbrev pub IsScalarArg : List Declaration → Form → Expression → Arg → Type 0
IsScalarArg ds form (expressions.Basic b) x = IsArg ds form b x
IsScalarArg ds form (expressions.List bs) x = ⊥

-- a literal or name stands for one argument at most, where names are different
abbrev pub HasOneArg : Type 0
HasOneArg = (ds : List Declaration) (form : Form) (b : Basic) (x y : Arg) → AreDifferent (names_of ds) → IsArg ds form b x → IsArg ds form b y → x ≡ y

-- an expression stands for one scalar argument at most, where names are different
abbrev pub HasOneScalarArg : Type 0
HasOneScalarArg =
    (ds : List Declaration) (form : Form) (e : Expression) (x y : Arg) → AreDifferent (names_of ds) → IsScalarArg ds form e x → IsScalarArg ds form e y → x ≡ y

-- an expression stands for one list of arguments at most, where names are different
abbrev pub HasOneArgList : Type 0
HasOneArgList =
    (ds : List Declaration) (form : Form) (e : Expression) (xs ys : List Arg) → AreDifferent (names_of ds) → AreArgsOf ds form e xs → AreArgsOf ds form e ys → xs ≡ ys
