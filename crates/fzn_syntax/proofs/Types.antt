-- The readers of ranges, sets and types.
use Rattle.std.proofs.Common.{◌≡◌, ℕ, Bool, true, false, ◌||◌, ◌==◌, List, ◌++◌, ◌⊎◌, inl, inr, refl}
use Rattle.reading.specs.Language.{◌⨾◌, MaybeListed}
use Rattle.reading.specs.Readers.{begins, none}
use Rattle.reading.proofs.Laws.{Reads}
use Rattle.reading.proofs.Joins.{Both, pair_reads, then_reads, made_reads}
use Rattle.reading.proofs.Loops.{Loops}
use Rattle.reading.proofs.Lists.{behind_loops, maybe_listed_reads}
use Rattle.fzn_words.specs.declared.terminal.Terminal.TheVariants as terminals
use Rattle.fzn_words.specs.declared.word.Word.{Word}
use Rattle.fzn_syntax.specs.declared.number.Number.{Number}
use Rattle.fzn_syntax.specs.declared.number.Bounds.{Bounds}
use Rattle.fzn_syntax.specs.declared.element.Element.{Element}
use Rattle.fzn_syntax.specs.declared.element.Element.TheVariants as elements
use Rattle.fzn_syntax.specs.declared.element.ParameterType.{ParameterType}
use Rattle.fzn_syntax.specs.declared.element.ParameterType.TheVariants as parameters
use Rattle.fzn_syntax.specs.declared.element.VariableType.{VariableType}
use Rattle.fzn_syntax.specs.declared.element.VariableType.TheVariants as variables
use Rattle.fzn_words.specs.Words.{is}
use Rattle.fzn_syntax.specs.Grammar.{Sign, IsNumber, IsBounds, IsSet, IsElement, IsParameterType, IsDomain, IsVariableType}
use Rattle.fzn_syntax.specs.Reading.{sign_at, number_at, is_number, bounds_at, more_numbers_at, numbers_at, some_numbers_at, set_at, element_at, set_of_at, parameter_type_at, domain_at, variable_type_at}
use Rattle.fzn_syntax.proofs.Choices.{sure_choice_reads}
use Rattle.fzn_syntax.proofs.Firsts.{sign_reads, number_reads, leads, sign_first, number_first, front_first, comma_starts}

-- ---- ranges and sets

pub bounds_reads : Reads IsBounds none bounds_at
unfolding bounds_at
bounds_reads =
    made_reads (Both IsNumber (Both (λ (_ : Unit {0}). Sign terminals.DotDot) IsNumber)) IsBounds none _ _
    (then_reads _ _ none _ _ number_reads (then_reads _ _ none _ _ (sign_reads terminals.DotDot) number_reads))
    (λ p ws d. d) (λ b ws d. ((b.lower, (tt, b.upper)), refl, d))

-- a comma and a number
abbrev pub IsMoreNumber : Number → List Word → Type 0
IsMoreNumber n = Sign terminals.Comma ⨾ IsNumber n

pub numbers_loops : Loops IsMoreNumber none (is terminals.Comma) more_numbers_at
numbers_loops = behind_loops (Sign terminals.Comma) (is terminals.Comma) (sign_at terminals.Comma) (sign_reads terminals.Comma) comma_starts IsNumber none number_at number_reads (λ w e. refl)

abbrev on_numbers : ℕ → Bool
on_numbers n = ((n == 3) || (n == 1)) || ((n == 10) || false)

some_numbers_reads : Reads (MaybeListed (Sign terminals.Comma) IsNumber) (leads on_numbers) some_numbers_at
unfolding some_numbers_at numbers_at
some_numbers_reads =
    maybe_listed_reads (Sign terminals.Comma) (is terminals.Comma) (sign_at terminals.Comma) (sign_reads terminals.Comma) comma_starts IsNumber none number_at number_reads (λ w e. refl)
    is_number (λ n used rest d. number_first (λ k. (k == 3) || (k == 1)) true refl refl n used rest d)

pub set_reads : Reads IsSet none set_at
unfolding set_at
set_reads =
    made_reads (Both (λ (_ : Unit {0}). Sign terminals.LeftBrace) (Both (MaybeListed (Sign terminals.Comma) IsNumber) (λ (_ : Unit {0}). Sign terminals.RightBrace))) IsSet none (λ p. p.1.0) _
    (then_reads _ _ none _ _ (sign_reads terminals.LeftBrace)
    (pair_reads _ _ (leads on_numbers) none _ _ some_numbers_reads (sign_reads terminals.RightBrace) (λ y used rest d stops. sign_first on_numbers false terminals.RightBrace refl used rest d)))
    (λ p ws d. d) (λ ns ws d. ((tt, (ns, tt)), refl, d))

pub bounds_first : (test : ℕ → Bool) (b : Bool) → test 3 ≡ b → test 1 ≡ b → (x : Bounds) (used rest : List Word) → IsBounds x used → begins (leads test) (used ++ rest) ≡ b
bounds_first test b int float x used rest d = front_first (leads test) b (IsNumber x.lower) _ (number_first test b int float x.lower) used rest d

pub set_first : (test : ℕ → Bool) (b : Bool) → test 8 ≡ b → (ns : List Number) (used rest : List Word) → IsSet ns used → begins (leads test) (used ++ rest) ≡ b
set_first test b brace ns used rest d = front_first (leads test) b (Sign terminals.LeftBrace) _ (sign_first test b terminals.LeftBrace brace) used rest d

-- ---- elements

abbrev Element1 : Element → List Word → Type 0
Element1 elements.Int ws = ⊥
Element1 e ws = IsElement e ws

abbrev Element2 : Element → List Word → Type 0
Element2 elements.Float ws = ⊥
Element2 e ws = Element1 e ws

abbrev Element3 : Element → List Word → Type 0
Element3 (elements.Set ns) ws = ⊥
Element3 e ws = Element2 e ws

pub element_first : (test : ℕ → Bool) (b : Bool) → test 21 ≡ b → test 20 ≡ b → test 8 ≡ b → test 3 ≡ b → test 1 ≡ b → (e : Element) (used rest : List Word) → IsElement e used → begins (leads test) (used ++ rest) ≡ b
element_first test b int float brace i f elements.Int used rest d = sign_first test b terminals.IntWord int used rest d
element_first test b int float brace i f elements.Float used rest d = sign_first test b terminals.FloatWord float used rest d
element_first test b int float brace i f (elements.Range x) used rest d = bounds_first test b i f x used rest d
element_first test b int float brace i f (elements.Set ns) used rest d = set_first test b brace ns used rest d

first1 : (test : ℕ → Bool) (b : Bool) → test 20 ≡ b → test 8 ≡ b → test 3 ≡ b → test 1 ≡ b → (e : Element) (used rest : List Word) → Element1 e used → begins (leads test) (used ++ rest) ≡ b
first1 test b float brace i f elements.Int used rest d = absurd d
first1 test b float brace i f elements.Float used rest d = sign_first test b terminals.FloatWord float used rest d
first1 test b float brace i f (elements.Range x) used rest d = bounds_first test b i f x used rest d
first1 test b float brace i f (elements.Set ns) used rest d = set_first test b brace ns used rest d

first2 : (test : ℕ → Bool) (b : Bool) → test 8 ≡ b → test 3 ≡ b → test 1 ≡ b → (e : Element) (used rest : List Word) → Element2 e used → begins (leads test) (used ++ rest) ≡ b
first2 test b brace i f elements.Int used rest d = absurd d
first2 test b brace i f elements.Float used rest d = absurd d
first2 test b brace i f (elements.Range x) used rest d = bounds_first test b i f x used rest d
first2 test b brace i f (elements.Set ns) used rest d = set_first test b brace ns used rest d

first3 : (test : ℕ → Bool) (b : Bool) → test 3 ≡ b → test 1 ≡ b → (e : Element) (used rest : List Word) → Element3 e used → begins (leads test) (used ++ rest) ≡ b
first3 test b i f elements.Int used rest d = absurd d
first3 test b i f elements.Float used rest d = absurd d
first3 test b i f (elements.Range x) used rest d = bounds_first test b i f x used rest d
first3 test b i f (elements.Set ns) used rest d = absurd d

range3 : (e : Element) (ws : List Word) → Element3 e ws → (x : Bounds) × (elements.Range x ≡ e) × IsBounds x ws
range3 elements.Int ws d = absurd d
range3 elements.Float ws d = absurd d
range3 (elements.Range x) ws d = (x, refl, d)
range3 (elements.Set ns) ws d = absurd d

in1 : (e : Element) (ws : List Word) → Element1 e ws → IsElement e ws
in1 elements.Int ws d = absurd d
in1 _ ws d = d

in2 : (e : Element) (ws : List Word) → Element2 e ws → Element1 e ws
in2 elements.Int ws d = absurd d
in2 elements.Float ws d = absurd d
in2 _ ws d = d

in3 : (e : Element) (ws : List Word) → Element3 e ws → Element2 e ws
in3 elements.Int ws d = absurd d
in3 elements.Float ws d = absurd d
in3 (elements.Set ns) ws d = absurd d
in3 _ ws d = d

cases1 : (e : Element) (ws : List Word) → IsElement e ws → ((y : Unit {0}) × (elements.Int ≡ e) × Sign terminals.IntWord ws) ⊎ Element1 e ws
cases1 elements.Int ws d = inl (tt, refl, d)
cases1 elements.Float ws d = inr d
cases1 (elements.Range x) ws d = inr d
cases1 (elements.Set ns) ws d = inr d

cases2 : (e : Element) (ws : List Word) → Element1 e ws → ((y : Unit {0}) × (elements.Float ≡ e) × Sign terminals.FloatWord ws) ⊎ Element2 e ws
cases2 elements.Int ws d = absurd d
cases2 elements.Float ws d = inl (tt, refl, d)
cases2 (elements.Range x) ws d = inr d
cases2 (elements.Set ns) ws d = inr d

cases3 : (e : Element) (ws : List Word) → Element2 e ws → ((y : List Number) × (elements.Set y ≡ e) × IsSet y ws) ⊎ Element3 e ws
cases3 elements.Int ws d = absurd d
cases3 elements.Float ws d = absurd d
cases3 (elements.Range x) ws d = inr d
cases3 (elements.Set ns) ws d = inl (ns, refl, d)

pub element_reads : Reads IsElement none element_at
unfolding element_at
element_reads =
    sure_choice_reads (λ (_ : Unit {0}). Sign terminals.IntWord) Element1 IsElement none (is terminals.IntWord) (λ _. elements.Int) (sign_at terminals.IntWord) _ (sign_reads terminals.IntWord)
    (sure_choice_reads (λ (_ : Unit {0}). Sign terminals.FloatWord) Element2 Element1 none (is terminals.FloatWord) (λ _. elements.Float) (sign_at terminals.FloatWord) _ (sign_reads terminals.FloatWord)
    (sure_choice_reads IsSet Element3 Element2 none (is terminals.LeftBrace) (λ ns. elements.Set ns) set_at _ set_reads
    (made_reads IsBounds Element3 none (λ x. elements.Range x) bounds_at bounds_reads (λ x ws d. d) range3)
    (λ ns used rest d. set_first (λ n. n == 8) true refl ns used rest d)
    (λ e used rest d stops. first3 (λ n. n == 8) false refl refl e used rest d) (λ ns ws d. d) in3 cases3)
    (λ y used rest d. sign_first (λ n. n == 20) true terminals.FloatWord refl used rest d)
    (λ e used rest d stops. first2 (λ n. n == 20) false refl refl refl e used rest d) (λ y ws d. d) in2 cases2)
    (λ y used rest d. sign_first (λ n. n == 21) true terminals.IntWord refl used rest d)
    (λ e used rest d stops. first1 (λ n. n == 21) false refl refl refl refl e used rest d) (λ y ws d. d) in1 cases1

-- ---- types of parameters and variables

abbrev IsSetOf : Element → List Word → Type 0
IsSetOf e = Sign terminals.Set ⨾ Sign terminals.Of ⨾ IsElement e

set_of_reads : Reads IsSetOf none set_of_at
unfolding set_of_at
set_of_reads =
    made_reads (Both (λ (_ : Unit {0}). Sign terminals.Set) (Both (λ (_ : Unit {0}). Sign terminals.Of) IsElement)) IsSetOf none (λ p. p.1.1) _
    (then_reads _ _ none _ _ (sign_reads terminals.Set) (then_reads _ _ none _ _ (sign_reads terminals.Of) element_reads))
    (λ p ws d. d) (λ e ws d. ((tt, (tt, e)), refl, d))

set_of_first : (test : ℕ → Bool) (b : Bool) → test 27 ≡ b → (e : Element) (used rest : List Word) → IsSetOf e used → begins (leads test) (used ++ rest) ≡ b
set_of_first test b passes e used rest d = front_first (leads test) b (Sign terminals.Set) _ (sign_first test b terminals.Set passes) used rest d

abbrev Parameter1 : ParameterType → List Word → Type 0
Parameter1 parameters.Bool ws = ⊥
Parameter1 t ws = IsParameterType t ws

abbrev Parameter2 : ParameterType → List Word → Type 0
Parameter2 parameters.Int ws = ⊥
Parameter2 t ws = Parameter1 t ws

abbrev Parameter3 : ParameterType → List Word → Type 0
Parameter3 parameters.Float ws = ⊥
Parameter3 t ws = Parameter2 t ws

pub parameter_first : (test : ℕ → Bool) (b : Bool) → test 17 ≡ b → test 21 ≡ b → test 20 ≡ b → test 27 ≡ b → (t : ParameterType) (used rest : List Word) → IsParameterType t used → begins (leads test) (used ++ rest) ≡ b
parameter_first test b bool int float set parameters.Bool used rest d = sign_first test b terminals.Bool bool used rest d
parameter_first test b bool int float set parameters.Int used rest d = sign_first test b terminals.IntWord int used rest d
parameter_first test b bool int float set parameters.Float used rest d = sign_first test b terminals.FloatWord float used rest d
parameter_first test b bool int float set (parameters.SetOf e) used rest d = set_of_first test b set e used rest d

parameter1_first : (test : ℕ → Bool) (b : Bool) → test 21 ≡ b → test 20 ≡ b → test 27 ≡ b → (t : ParameterType) (used rest : List Word) → Parameter1 t used → begins (leads test) (used ++ rest) ≡ b
parameter1_first test b int float set parameters.Bool used rest d = absurd d
parameter1_first test b int float set parameters.Int used rest d = sign_first test b terminals.IntWord int used rest d
parameter1_first test b int float set parameters.Float used rest d = sign_first test b terminals.FloatWord float used rest d
parameter1_first test b int float set (parameters.SetOf e) used rest d = set_of_first test b set e used rest d

parameter2_first : (test : ℕ → Bool) (b : Bool) → test 20 ≡ b → test 27 ≡ b → (t : ParameterType) (used rest : List Word) → Parameter2 t used → begins (leads test) (used ++ rest) ≡ b
parameter2_first test b float set parameters.Bool used rest d = absurd d
parameter2_first test b float set parameters.Int used rest d = absurd d
parameter2_first test b float set parameters.Float used rest d = sign_first test b terminals.FloatWord float used rest d
parameter2_first test b float set (parameters.SetOf e) used rest d = set_of_first test b set e used rest d

parameter3_first : (test : ℕ → Bool) (b : Bool) → test 27 ≡ b → (t : ParameterType) (used rest : List Word) → Parameter3 t used → begins (leads test) (used ++ rest) ≡ b
parameter3_first test b set parameters.Bool used rest d = absurd d
parameter3_first test b set parameters.Int used rest d = absurd d
parameter3_first test b set parameters.Float used rest d = absurd d
parameter3_first test b set (parameters.SetOf e) used rest d = set_of_first test b set e used rest d

parameter3_is : (t : ParameterType) (ws : List Word) → Parameter3 t ws → (e : Element) × (parameters.SetOf e ≡ t) × IsSetOf e ws
parameter3_is parameters.Bool ws d = absurd d
parameter3_is parameters.Int ws d = absurd d
parameter3_is parameters.Float ws d = absurd d
parameter3_is (parameters.SetOf e) ws d = (e, refl, d)

parameter1_in : (t : ParameterType) (ws : List Word) → Parameter1 t ws → IsParameterType t ws
parameter1_in parameters.Bool ws d = absurd d
parameter1_in _ ws d = d

parameter2_in : (t : ParameterType) (ws : List Word) → Parameter2 t ws → Parameter1 t ws
parameter2_in parameters.Bool ws d = absurd d
parameter2_in parameters.Int ws d = absurd d
parameter2_in _ ws d = d

parameter3_in : (t : ParameterType) (ws : List Word) → Parameter3 t ws → Parameter2 t ws
parameter3_in parameters.Bool ws d = absurd d
parameter3_in parameters.Int ws d = absurd d
parameter3_in parameters.Float ws d = absurd d
parameter3_in (parameters.SetOf e) ws d = d

parameter1_cases : (t : ParameterType) (ws : List Word) → IsParameterType t ws → ((y : Unit {0}) × (parameters.Bool ≡ t) × Sign terminals.Bool ws) ⊎ Parameter1 t ws
parameter1_cases parameters.Bool ws d = inl (tt, refl, d)
parameter1_cases parameters.Int ws d = inr d
parameter1_cases parameters.Float ws d = inr d
parameter1_cases (parameters.SetOf e) ws d = inr d

parameter2_cases : (t : ParameterType) (ws : List Word) → Parameter1 t ws → ((y : Unit {0}) × (parameters.Int ≡ t) × Sign terminals.IntWord ws) ⊎ Parameter2 t ws
parameter2_cases parameters.Bool ws d = absurd d
parameter2_cases parameters.Int ws d = inl (tt, refl, d)
parameter2_cases parameters.Float ws d = inr d
parameter2_cases (parameters.SetOf e) ws d = inr d

parameter3_cases : (t : ParameterType) (ws : List Word) → Parameter2 t ws → ((y : Unit {0}) × (parameters.Float ≡ t) × Sign terminals.FloatWord ws) ⊎ Parameter3 t ws
parameter3_cases parameters.Bool ws d = absurd d
parameter3_cases parameters.Int ws d = absurd d
parameter3_cases parameters.Float ws d = inl (tt, refl, d)
parameter3_cases (parameters.SetOf e) ws d = inr d

pub parameter_type_reads : Reads IsParameterType none parameter_type_at
unfolding parameter_type_at
parameter_type_reads =
    sure_choice_reads (λ (_ : Unit {0}). Sign terminals.Bool) Parameter1 IsParameterType none (is terminals.Bool) (λ _. parameters.Bool) (sign_at terminals.Bool) _ (sign_reads terminals.Bool)
    (sure_choice_reads (λ (_ : Unit {0}). Sign terminals.IntWord) Parameter2 Parameter1 none (is terminals.IntWord) (λ _. parameters.Int) (sign_at terminals.IntWord) _ (sign_reads terminals.IntWord)
    (sure_choice_reads (λ (_ : Unit {0}). Sign terminals.FloatWord) Parameter3 Parameter2 none (is terminals.FloatWord) (λ _. parameters.Float) (sign_at terminals.FloatWord) _ (sign_reads terminals.FloatWord)
    (made_reads IsSetOf Parameter3 none (λ e. parameters.SetOf e) set_of_at set_of_reads (λ e ws d. d) parameter3_is)
    (λ y used rest d. sign_first (λ n. n == 20) true terminals.FloatWord refl used rest d)
    (λ t used rest d stops. parameter3_first (λ n. n == 20) false refl t used rest d) (λ y ws d. d) parameter3_in parameter3_cases)
    (λ y used rest d. sign_first (λ n. n == 21) true terminals.IntWord refl used rest d)
    (λ t used rest d stops. parameter2_first (λ n. n == 21) false refl refl t used rest d) (λ y ws d. d) parameter2_in parameter2_cases)
    (λ y used rest d. sign_first (λ n. n == 17) true terminals.Bool refl used rest d)
    (λ t used rest d stops. parameter1_first (λ n. n == 17) false refl refl refl t used rest d) (λ y ws d. d) parameter1_in parameter1_cases

abbrev Domain1 : VariableType → List Word → Type 0
Domain1 variables.Bool ws = ⊥
Domain1 t ws = IsDomain t ws

abbrev Domain2 : VariableType → List Word → Type 0
Domain2 (variables.SetOf e) ws = ⊥
Domain2 t ws = Domain1 t ws

domain1_first : (test : ℕ → Bool) (b : Bool) → test 27 ≡ b → test 21 ≡ b → test 20 ≡ b → test 8 ≡ b → test 3 ≡ b → test 1 ≡ b
    → (t : VariableType) (used rest : List Word) → Domain1 t used → begins (leads test) (used ++ rest) ≡ b
domain1_first test b set int float brace i f variables.Bool used rest d = absurd d
domain1_first test b set int float brace i f (variables.Plain e) used rest d = element_first test b int float brace i f e used rest d
domain1_first test b set int float brace i f (variables.SetOf e) used rest d = set_of_first test b set e used rest d

domain2_first : (test : ℕ → Bool) (b : Bool) → test 21 ≡ b → test 20 ≡ b → test 8 ≡ b → test 3 ≡ b → test 1 ≡ b
    → (t : VariableType) (used rest : List Word) → Domain2 t used → begins (leads test) (used ++ rest) ≡ b
domain2_first test b int float brace i f variables.Bool used rest d = absurd d
domain2_first test b int float brace i f (variables.Plain e) used rest d = element_first test b int float brace i f e used rest d
domain2_first test b int float brace i f (variables.SetOf e) used rest d = absurd d

domain2_is : (t : VariableType) (ws : List Word) → Domain2 t ws → (e : Element) × (variables.Plain e ≡ t) × IsElement e ws
domain2_is variables.Bool ws d = absurd d
domain2_is (variables.Plain e) ws d = (e, refl, d)
domain2_is (variables.SetOf e) ws d = absurd d

domain1_in : (t : VariableType) (ws : List Word) → Domain1 t ws → IsDomain t ws
domain1_in variables.Bool ws d = absurd d
domain1_in _ ws d = d

domain2_in : (t : VariableType) (ws : List Word) → Domain2 t ws → Domain1 t ws
domain2_in variables.Bool ws d = absurd d
domain2_in (variables.SetOf e) ws d = absurd d
domain2_in (variables.Plain e) ws d = d

domain1_cases : (t : VariableType) (ws : List Word) → IsDomain t ws → ((y : Unit {0}) × (variables.Bool ≡ t) × Sign terminals.Bool ws) ⊎ Domain1 t ws
domain1_cases variables.Bool ws d = inl (tt, refl, d)
domain1_cases (variables.Plain e) ws d = inr d
domain1_cases (variables.SetOf e) ws d = inr d

domain2_cases : (t : VariableType) (ws : List Word) → Domain1 t ws → ((e : Element) × (variables.SetOf e ≡ t) × IsSetOf e ws) ⊎ Domain2 t ws
domain2_cases variables.Bool ws d = absurd d
domain2_cases (variables.Plain e) ws d = inr d
domain2_cases (variables.SetOf e) ws d = inl (e, refl, d)

domain_reads : Reads IsDomain none domain_at
unfolding domain_at
domain_reads =
    sure_choice_reads (λ (_ : Unit {0}). Sign terminals.Bool) Domain1 IsDomain none (is terminals.Bool) (λ _. variables.Bool) (sign_at terminals.Bool) _ (sign_reads terminals.Bool)
    (sure_choice_reads IsSetOf Domain2 Domain1 none (is terminals.Set) (λ e. variables.SetOf e) set_of_at _ set_of_reads
    (made_reads IsElement Domain2 none (λ e. variables.Plain e) element_at element_reads (λ e ws d. d) domain2_is)
    (λ e used rest d. set_of_first (λ n. n == 27) true refl e used rest d)
    (λ t used rest d stops. domain2_first (λ n. n == 27) false refl refl refl refl refl t used rest d) (λ e ws d. d) domain2_in domain2_cases)
    (λ y used rest d. sign_first (λ n. n == 17) true terminals.Bool refl used rest d)
    (λ t used rest d stops. domain1_first (λ n. n == 17) false refl refl refl refl refl refl t used rest d) (λ y ws d. d) domain1_in domain1_cases

pub variable_type_reads : Reads IsVariableType none variable_type_at
unfolding variable_type_at
variable_type_reads =
    made_reads (Both (λ (_ : Unit {0}). Sign terminals.Var) IsDomain) IsVariableType none (λ p. p.1) _
    (then_reads _ _ none _ _ (sign_reads terminals.Var) domain_reads)
    (λ p ws d. d) (λ t ws d. ((tt, t), refl, d))

pub variable_type_first : (test : ℕ → Bool) (b : Bool) → test 30 ≡ b → (t : VariableType) (used rest : List Word) → IsVariableType t used → begins (leads test) (used ++ rest) ≡ b
variable_type_first test b passes t used rest d = front_first (leads test) b (Sign terminals.Var) _ (sign_first test b terminals.Var passes) used rest d
