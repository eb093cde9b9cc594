-- The values that the declaration of a variable allows.
use Rattle.std.specs.Prelude.{◌≡◌, true, if◌then◌else◌, List, [], ◌∷◌, ℤ, pos, ◌≤ℤ◌, int_lt}
use Rattle.std.specs.Ordering.{int_eq}
use Rattle.dom_core.specs.Rises.{is_among, range_of}
use Rattle.dom_definers.specs.declared.form.Declared.{Declared}
use Rattle.dom_definers.specs.declared.form.Declared.TheVariants.{Any, Range, Values}
use Rattle.dom_definers.specs.declared.form.Form.{Form}
use Rattle.dom_definers.specs.declared.form.Form.TheVariants.{Bool as Truths, Int}
use Rattle.dom_definers.specs.declared.variable.Variable.{Variable}

-- the value lies between the ends
abbrev pub IsBetween : ℤ → ℤ → ℤ → Type 0
IsBetween lo hi x = (lo ≤ℤ x) × (x ≤ℤ hi)

-- the integer is allowed
abbrev pub AllowsInteger : Declared → ℤ → Type 0
AllowsInteger Any x = Unit {0}
AllowsInteger (Range lo hi) x = IsBetween lo hi x
AllowsInteger (Values vs) x = is_among x vs ≡ true

-- the value of a form is allowed; truth is 1 and 0
abbrev pub AllowsForm : Form → Declared → ℤ → Type 0
AllowsForm Truths d x = IsBetween (pos 0) (pos 1) x
AllowsForm Int d x = AllowsInteger d x

-- the declaration of the variable allows the value
abbrev pub Allows : Variable → ℤ → Type 0
Allows v x = AllowsForm v.form v.declared x

-- one value for each variable, each allowed by the variable's declaration
abbrev pub EachAllowed : List Variable → List ℤ → Type 0
EachAllowed [] [] = Unit {0}
EachAllowed [] (x ∷ xs) = ⊥
EachAllowed (v ∷ vs) [] = ⊥
EachAllowed (v ∷ vs) (x ∷ xs) = Allows v x × EachAllowed vs xs

-- rising values with this one among them
abbrev pub with_value : ℤ → List ℤ → List ℤ
with_value x [] = x ∷ []
with_value x (y ∷ ys) = if int_lt x y then x ∷ y ∷ ys else (if int_eq x y then y ∷ ys else y ∷ with_value x ys)

-- the values of the list, each once, rising
abbrev pub rising : List ℤ → List ℤ
rising [] = []
rising (x ∷ xs) = with_value x (rising xs)

-- the integers that are allowed, rising; none are told where all are allowed
abbrev pub integers_of : Declared → List ℤ
integers_of Any = []
integers_of (Range lo hi) = range_of lo hi
integers_of (Values vs) = rising vs

-- the values of a form that are allowed, rising
abbrev pub form_values : Form → Declared → List ℤ
form_values Truths d = range_of (pos 0) (pos 1)
form_values Int d = integers_of d

-- the values that the variable's declaration allows, rising; none are told where it allows every integer
abbrev pub values_of : Variable → List ℤ
values_of v = form_values v.form v.declared
