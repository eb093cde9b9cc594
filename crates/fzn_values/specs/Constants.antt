-- The values of constants, and which lists arrays stand for.
use Rattle.std.specs.Prelude.{◌≡◌, ℕ, ℤ, Bool, true, false, List, [], ◌∷◌, slice_get, Some}
use Rattle.fzn_syntax.specs.declared.declaration.Declaration.{Declaration}
use Rattle.fzn_syntax.specs.declared.expression.Basic.{Basic}
use Rattle.fzn_syntax.specs.declared.expression.Basic.TheVariants as basics
use Rattle.fzn_syntax.specs.declared.expression.Expression.{Expression}
use Rattle.fzn_syntax.specs.declared.expression.Expression.TheVariants as expressions
use Rattle.fzn_syntax.specs.declared.number.Number.TheVariants as numbers
use Rattle.fzn_symbols.specs.declared.base.Base.TheVariants as bases
use Rattle.fzn_symbols.specs.Named.{names_of, AreDifferent, IsPlaced}
use Rattle.fzn_symbols.specs.Sorts.{sort, sort_of}
use Rattle.fzn_values.specs.declared.entry.Entry.{Entry}
use Rattle.fzn_values.specs.declared.entry.Entry.TheVariants.{Constant, Variable}
use Rattle.fzn_values.specs.declared.literal.LiteralKind.TheVariants as literals
use Rattle.fzn_values.specs.Links.{NamesListAt}
use Rattle.fzn_values.specs.Literals.{name_in, named_by, StandsFor}

-- a truth value as it is written
abbrev pub truth : Bool → Basic
truth true = basics.True
truth false = basics.False

-- an integer as it is written
abbrev pub number : ℤ → Basic
number z = basics.Number (numbers.Int z)

-- the expression is this truth value, or a Boolean parameter with this value
abbrev pub IsTruthOf : List Declaration → Basic → Bool → Type 0
IsTruthOf ds b t = StandsFor ds literals.Boolean (expressions.Basic b) (expressions.Basic (truth t))

-- the expression is this integer, or an integer parameter with this value
abbrev pub IsIntOf : List Declaration → Basic → ℤ → Type 0
IsIntOf ds b z = StandsFor ds literals.Integer (expressions.Basic b) (expressions.Basic (number z))

-- the expression is this list, or the name of an array that stands for it
abbrev pub IsListOf : List Declaration → Expression → List Basic → Type 0
IsListOf ds e bs = StandsFor ds literals.List e (expressions.List bs)

-- the expression is a name, and the chain of names from it ends at the list that is declared at this place
abbrev pub IsListAt : List Declaration → Expression → ℕ → Type 0
IsListAt ds e k = (n : List ℕ) × (named_by e ≡ Some n) × NamesListAt ds n k

-- one by one they have these integers as values
abbrev pub AreInts : List Declaration → List Basic → List ℤ → Type 0
AreInts ds [] [] = Unit {0}
AreInts ds (b ∷ bs) (z ∷ zs) = IsIntOf ds b z × AreInts ds bs zs
AreInts ds [] (z ∷ zs) = ⊥
AreInts ds (b ∷ bs) [] = ⊥

-- the expression stands for a list of these integers
abbrev pub AreIntsOf : List Declaration → Expression → List ℤ → Type 0
AreIntsOf ds e zs = (bs : List Basic) × IsListOf ds e bs × AreInts ds bs zs

-- an integer variable is declared at this place
abbrev pub IsIntegerVariable : List Declaration → ℕ → Type 0
IsIntegerVariable ds k = (d : Declaration) × (slice_get ds k ≡ Some d) × (sort_of d ≡ sort bases.Int true false)

-- the name is that of the integer variable which is declared at this place
abbrev pub NamesVariableAt : List Declaration → List ℕ → ℕ → Type 0
NamesVariableAt ds n k = IsPlaced ds n k × IsIntegerVariable ds k

-- the expression names the integer variable that is declared at this place
abbrev pub IsVariableOf : List Declaration → Basic → ℕ → Type 0
IsVariableOf ds b k = (n : List ℕ) × (name_in b ≡ Some n) × NamesVariableAt ds n k

-- an integer, or the integer variable that is declared at this place
abbrev pub IsEntryOf : List Declaration → Basic → Entry → Type 0
IsEntryOf ds b (Constant z) = IsIntOf ds b z
IsEntryOf ds b (Variable k) = IsVariableOf ds b k

-- an expression has one truth value at most
abbrev pub HasOneTruth : Type 0
HasOneTruth = (ds : List Declaration) (b : Basic) (t u : Bool) → AreDifferent (names_of ds) → IsTruthOf ds b t → IsTruthOf ds b u → t ≡ u

-- an expression has one integer as its value at most
abbrev pub HasOneInteger : Type 0
HasOneInteger = (ds : List Declaration) (b : Basic) (y z : ℤ) → AreDifferent (names_of ds) → IsIntOf ds b y → IsIntOf ds b z → y ≡ z

-- an expression stands for one list at most
abbrev pub HasOneList : Type 0
HasOneList = (ds : List Declaration) (e : Expression) (bs cs : List Basic) → AreDifferent (names_of ds) → IsListOf ds e bs → IsListOf ds e cs → bs ≡ cs
