-- The readers of expressions.
use Rattle.std.proofs.Common.{◌≡◌, ℕ, Bool, true, false, ◌||◌, ◌==◌, List, [], ◌++◌, Option, Some, None, ◌⊎◌, inl, inr, refl, sym, ap, subst, ◌∙◌}
use Rattle.std.proofs.lemmas.Bool.{eqb-true}
use Rattle.std.proofs.lemmas.List.{append-nil}
use Rattle.reading.specs.Language.{◌⨾◌, Maybe, MaybeListed}
use Rattle.reading.specs.Readers.{begins, none, pair, made, behind}
use Rattle.reading.proofs.Laws.{Stops, stops_none, Reads}
use Rattle.reading.proofs.Joins.{Both, pair_reads, then_reads, made_reads, sure_reads, either_reads}
use Rattle.reading.proofs.Loops.{Loops}
use Rattle.reading.proofs.Lists.{behind_loops, maybe_reads, maybe_listed_reads}
use Rattle.fzn_words.specs.declared.terminal.Terminal.TheVariants as terminals
use Rattle.fzn_words.specs.declared.word.Word.{Word}
use Rattle.fzn_syntax.specs.declared.identifier.Identifier.{Identifier}
use Rattle.fzn_syntax.specs.declared.number.Number.{Number}
use Rattle.fzn_syntax.specs.declared.expression.Basic.{Basic}
use Rattle.fzn_syntax.specs.declared.expression.Basic.TheVariants as basics
use Rattle.fzn_syntax.specs.declared.expression.Expression.{Expression}
use Rattle.fzn_syntax.specs.declared.expression.Expression.TheVariants as expressions
use Rattle.fzn_words.specs.Words.{code, terminal, is}
use Rattle.fzn_syntax.specs.Grammar.{Sign, IsName, IsNumber, IsBounds, IsSet, IsBasic, IsExpression}
use Rattle.fzn_syntax.specs.Reading.{sign_at, name_at, number_at, is_number, set_at, number_or_range, upper_at, range_at, basic_at, more_basics_at, basics_at, leads_basic, some_basics_at, list_at, expression_at}
use Rattle.fzn_syntax.proofs.Choices.{sure_choice_reads}
use Rattle.fzn_syntax.proofs.Firsts.{sign_reads, name_reads, number_reads, leads, sign_first, name_first, number_first, front_first, comma_starts}
use Rattle.fzn_syntax.proofs.Types.{set_reads, set_first, bounds_first}

-- ---- a number, or a range

-- what a basic expression goes on with: `..` behind a number
abbrev pub on_basic : ℕ → Bool
on_basic n = (n == 15) || false

abbrev IsUpper : Number → List Word → Type 0
IsUpper n = Sign terminals.DotDot ⨾ IsNumber n

upper_reads : Reads (Maybe IsUpper) (leads on_basic) upper_at
unfolding upper_at
upper_reads =
    maybe_reads IsUpper none (is terminals.DotDot) (behind (sign_at terminals.DotDot) number_at)
    (made_reads (Both (λ (_ : Unit {0}). Sign terminals.DotDot) IsNumber) IsUpper none (λ p. p.1) _ (then_reads _ _ none _ _ (sign_reads terminals.DotDot) number_reads) (λ p ws d. d) (λ n ws d. ((tt, n), refl, d)))
    (λ n used rest d. front_first (is terminals.DotDot) true (Sign terminals.DotDot) _ (sign_first (λ k. k == 15) true terminals.DotDot refl) used rest d)

abbrev IsRanged : Basic → List Word → Type 0
IsRanged (basics.Number n) ws = IsNumber n ws
IsRanged (basics.Range b) ws = IsBounds b ws
IsRanged _ ws = ⊥

ranged : (p : Number × Option Number) (ws : List Word) → Both IsNumber (Maybe IsUpper) p ws → IsRanged (number_or_range p) ws
ranged (n, None) ws d = subst (IsNumber n) (sym (d.2 ∙ ap (λ (l : List Word). d.0 ++ l) d.4 ∙ append-nil d.0)) d.3
ranged (n, Some m) ws d = d

ranged_again : (x : Basic) (ws : List Word) → IsRanged x ws → (p : Number × Option Number) × (number_or_range p ≡ x) × Both IsNumber (Maybe IsUpper) p ws
ranged_again (basics.Number n) ws d = ((n, None), refl, (ws, [], sym (append-nil ws), d, refl))
ranged_again (basics.Range b) ws d = ((b.lower, Some b.upper), refl, d)
ranged_again basics.True ws d = absurd d
ranged_again basics.False ws d = absurd d
ranged_again (basics.Name n) ws d = absurd d
ranged_again (basics.Set ns) ws d = absurd d

upper_stops : (o : Option Number) (used rest : List Word) → Maybe IsUpper o used → Stops (leads on_basic) rest → Stops none (used ++ rest)
upper_stops o used rest d stops = stops_none (used ++ rest)

range_reads : Reads IsRanged (leads on_basic) range_at
unfolding range_at
range_reads =
    made_reads (Both IsNumber (Maybe IsUpper)) IsRanged (leads on_basic) number_or_range (pair number_at upper_at)
    (pair_reads IsNumber (Maybe IsUpper) none (leads on_basic) number_at upper_at number_reads upper_reads upper_stops)
    ranged ranged_again

ranged_first : (test : ℕ → Bool) (b : Bool) → test 3 ≡ b → test 1 ≡ b → (x : Basic) (used rest : List Word) → IsRanged x used → begins (leads test) (used ++ rest) ≡ b
ranged_first test b int float (basics.Number n) used rest d = number_first test b int float n used rest d
ranged_first test b int float (basics.Range x) used rest d = bounds_first test b int float x used rest d
ranged_first test b int float basics.True used rest d = absurd d
ranged_first test b int float basics.False used rest d = absurd d
ranged_first test b int float (basics.Name n) used rest d = absurd d
ranged_first test b int float (basics.Set ns) used rest d = absurd d

-- ---- basic expressions

abbrev Basic1 : Basic → List Word → Type 0
Basic1 basics.True ws = ⊥
Basic1 x ws = IsBasic x ws

abbrev Basic2 : Basic → List Word → Type 0
Basic2 basics.False ws = ⊥
Basic2 x ws = Basic1 x ws

abbrev Basic3 : Basic → List Word → Type 0
Basic3 (basics.Set ns) ws = ⊥
Basic3 x ws = Basic2 x ws

abbrev IsNamed : Basic → List Word → Type 0
IsNamed (basics.Name n) ws = IsName n ws
IsNamed x ws = ⊥

pub basic_first : (test : ℕ → Bool) (b : Bool) → test 29 ≡ b → test 19 ≡ b → test 8 ≡ b → test 3 ≡ b → test 1 ≡ b → test 0 ≡ b
    → (x : Basic) (used rest : List Word) → IsBasic x used → begins (leads test) (used ++ rest) ≡ b
basic_first test b t f brace i fl name basics.True used rest d = sign_first test b terminals.True t used rest d
basic_first test b t f brace i fl name basics.False used rest d = sign_first test b terminals.False f used rest d
basic_first test b t f brace i fl name (basics.Name n) used rest d = name_first test b name n used rest d
basic_first test b t f brace i fl name (basics.Number n) used rest d = number_first test b i fl n used rest d
basic_first test b t f brace i fl name (basics.Range x) used rest d = bounds_first test b i fl x used rest d
basic_first test b t f brace i fl name (basics.Set ns) used rest d = set_first test b brace ns used rest d

basic1_first : (test : ℕ → Bool) (b : Bool) → test 19 ≡ b → test 8 ≡ b → test 3 ≡ b → test 1 ≡ b → test 0 ≡ b
    → (x : Basic) (used rest : List Word) → Basic1 x used → begins (leads test) (used ++ rest) ≡ b
basic1_first test b f brace i fl name basics.True used rest d = absurd d
basic1_first test b f brace i fl name basics.False used rest d = sign_first test b terminals.False f used rest d
basic1_first test b f brace i fl name (basics.Name n) used rest d = name_first test b name n used rest d
basic1_first test b f brace i fl name (basics.Number n) used rest d = number_first test b i fl n used rest d
basic1_first test b f brace i fl name (basics.Range x) used rest d = bounds_first test b i fl x used rest d
basic1_first test b f brace i fl name (basics.Set ns) used rest d = set_first test b brace ns used rest d

basic2_first : (test : ℕ → Bool) (b : Bool) → test 8 ≡ b → test 3 ≡ b → test 1 ≡ b → test 0 ≡ b
    → (x : Basic) (used rest : List Word) → Basic2 x used → begins (leads test) (used ++ rest) ≡ b
basic2_first test b brace i fl name basics.True used rest d = absurd d
basic2_first test b brace i fl name basics.False used rest d = absurd d
basic2_first test b brace i fl name (basics.Name n) used rest d = name_first test b name n used rest d
basic2_first test b brace i fl name (basics.Number n) used rest d = number_first test b i fl n used rest d
basic2_first test b brace i fl name (basics.Range x) used rest d = bounds_first test b i fl x used rest d
basic2_first test b brace i fl name (basics.Set ns) used rest d = set_first test b brace ns used rest d

basic3_first : (test : ℕ → Bool) (b : Bool) → test 3 ≡ b → test 1 ≡ b → test 0 ≡ b
    → (x : Basic) (used rest : List Word) → Basic3 x used → begins (leads test) (used ++ rest) ≡ b
basic3_first test b i fl name basics.True used rest d = absurd d
basic3_first test b i fl name basics.False used rest d = absurd d
basic3_first test b i fl name (basics.Name n) used rest d = name_first test b name n used rest d
basic3_first test b i fl name (basics.Number n) used rest d = number_first test b i fl n used rest d
basic3_first test b i fl name (basics.Range x) used rest d = bounds_first test b i fl x used rest d
basic3_first test b i fl name (basics.Set ns) used rest d = absurd d

named_first : (test : ℕ → Bool) (b : Bool) → test 0 ≡ b → (x : Basic) (used rest : List Word) → IsNamed x used → begins (leads test) (used ++ rest) ≡ b
named_first test b name (basics.Name n) used rest d = name_first test b name n used rest d
named_first test b name basics.True used rest d = absurd d
named_first test b name basics.False used rest d = absurd d
named_first test b name (basics.Number n) used rest d = absurd d
named_first test b name (basics.Range x) used rest d = absurd d
named_first test b name (basics.Set ns) used rest d = absurd d

named_is : (x : Basic) (ws : List Word) → IsNamed x ws → (n : Identifier) × (basics.Name n ≡ x) × IsName n ws
named_is (basics.Name n) ws d = (n, refl, d)
named_is basics.True ws d = absurd d
named_is basics.False ws d = absurd d
named_is (basics.Number n) ws d = absurd d
named_is (basics.Range x) ws d = absurd d
named_is (basics.Set ns) ws d = absurd d

basic1_in : (x : Basic) (ws : List Word) → Basic1 x ws → IsBasic x ws
basic1_in basics.True ws d = absurd d
basic1_in _ ws d = d

basic2_in : (x : Basic) (ws : List Word) → Basic2 x ws → Basic1 x ws
basic2_in basics.True ws d = absurd d
basic2_in basics.False ws d = absurd d
basic2_in _ ws d = d

basic3_in : (x : Basic) (ws : List Word) → Basic3 x ws → Basic2 x ws
basic3_in basics.True ws d = absurd d
basic3_in basics.False ws d = absurd d
basic3_in (basics.Set ns) ws d = absurd d
basic3_in _ ws d = d

ranged_in : (x : Basic) (ws : List Word) → IsRanged x ws → Basic3 x ws
ranged_in (basics.Number n) ws d = d
ranged_in (basics.Range x) ws d = d
ranged_in basics.True ws d = absurd d
ranged_in basics.False ws d = absurd d
ranged_in (basics.Name n) ws d = absurd d
ranged_in (basics.Set ns) ws d = absurd d

named_in : (x : Basic) (ws : List Word) → IsNamed x ws → Basic3 x ws
named_in (basics.Name n) ws d = d
named_in basics.True ws d = absurd d
named_in basics.False ws d = absurd d
named_in (basics.Number n) ws d = absurd d
named_in (basics.Range x) ws d = absurd d
named_in (basics.Set ns) ws d = absurd d

basic1_cases : (x : Basic) (ws : List Word) → IsBasic x ws → ((y : Unit {0}) × (basics.True ≡ x) × Sign terminals.True ws) ⊎ Basic1 x ws
basic1_cases basics.True ws d = inl (tt, refl, d)
basic1_cases basics.False ws d = inr d
basic1_cases (basics.Name n) ws d = inr d
basic1_cases (basics.Number n) ws d = inr d
basic1_cases (basics.Range x) ws d = inr d
basic1_cases (basics.Set ns) ws d = inr d

basic2_cases : (x : Basic) (ws : List Word) → Basic1 x ws → ((y : Unit {0}) × (basics.False ≡ x) × Sign terminals.False ws) ⊎ Basic2 x ws
basic2_cases basics.True ws d = absurd d
basic2_cases basics.False ws d = inl (tt, refl, d)
basic2_cases (basics.Name n) ws d = inr d
basic2_cases (basics.Number n) ws d = inr d
basic2_cases (basics.Range x) ws d = inr d
basic2_cases (basics.Set ns) ws d = inr d

basic3_cases : (x : Basic) (ws : List Word) → Basic2 x ws → ((ns : List Number) × (basics.Set ns ≡ x) × IsSet ns ws) ⊎ Basic3 x ws
basic3_cases basics.True ws d = absurd d
basic3_cases basics.False ws d = absurd d
basic3_cases (basics.Name n) ws d = inr d
basic3_cases (basics.Number n) ws d = inr d
basic3_cases (basics.Range x) ws d = inr d
basic3_cases (basics.Set ns) ws d = inl (ns, refl, d)

ranged_cases : (x : Basic) (ws : List Word) → Basic3 x ws → IsRanged x ws ⊎ IsNamed x ws
ranged_cases basics.True ws d = absurd d
ranged_cases basics.False ws d = absurd d
ranged_cases (basics.Name n) ws d = inr d
ranged_cases (basics.Number n) ws d = inl d
ranged_cases (basics.Range x) ws d = inl d
ranged_cases (basics.Set ns) ws d = absurd d

pub basic_reads : Reads IsBasic (leads on_basic) basic_at
unfolding basic_at
basic_reads =
    sure_choice_reads (λ (_ : Unit {0}). Sign terminals.True) Basic1 IsBasic (leads on_basic) (is terminals.True) (λ _. basics.True) (sign_at terminals.True) _ (sign_reads terminals.True)
    (sure_choice_reads (λ (_ : Unit {0}). Sign terminals.False) Basic2 Basic1 (leads on_basic) (is terminals.False) (λ _. basics.False) (sign_at terminals.False) _ (sign_reads terminals.False)
    (sure_choice_reads IsSet Basic3 Basic2 (leads on_basic) (is terminals.LeftBrace) (λ ns. basics.Set ns) set_at _ set_reads
    (either_reads IsRanged IsNamed Basic3 (leads on_basic) is_number range_at (made (λ n. basics.Name n) name_at) range_reads
    (sure_reads IsNamed (leads on_basic) (made (λ n. basics.Name n) name_at) (made_reads IsName IsNamed none (λ n. basics.Name n) name_at name_reads (λ n ws d. d) named_is))
    ranged_in named_in
    (λ x used rest d. ranged_first (λ n. (n == 3) || (n == 1)) true refl refl x used rest d)
    (λ x used rest d stops. named_first (λ n. (n == 3) || (n == 1)) false refl x used rest d)
    ranged_cases)
    (λ ns used rest d. set_first (λ n. n == 8) true refl ns used rest d)
    (λ x used rest d stops. basic3_first (λ n. n == 8) false refl refl refl x used rest d) (λ ns ws d. d) basic3_in basic3_cases)
    (λ y used rest d. sign_first (λ n. n == 19) true terminals.False refl used rest d)
    (λ x used rest d stops. basic2_first (λ n. n == 19) false refl refl refl refl x used rest d) (λ y ws d. d) basic2_in basic2_cases)
    (λ y used rest d. sign_first (λ n. n == 29) true terminals.True refl used rest d)
    (λ x used rest d stops. basic1_first (λ n. n == 29) false refl refl refl refl refl x used rest d) (λ y ws d. d) basic1_in basic1_cases

-- ---- lists of them

pub comma_apart : (w : Word) → is terminals.Comma w ≡ true → leads on_basic w ≡ false
comma_apart w e = let same : code (terminal w) ≡ 10 = eqb-true (code (terminal w)) 10 e in rw same refl

-- a comma and a basic expression
abbrev pub IsMoreBasic : Basic → List Word → Type 0
IsMoreBasic x = Sign terminals.Comma ⨾ IsBasic x

pub basics_loops : Loops IsMoreBasic (leads on_basic) (is terminals.Comma) more_basics_at
basics_loops = behind_loops (Sign terminals.Comma) (is terminals.Comma) (sign_at terminals.Comma) (sign_reads terminals.Comma) comma_starts IsBasic (leads on_basic) basic_at basic_reads comma_apart

abbrev leads_basic_code : ℕ → Bool
leads_basic_code n = (n == 29) || ((n == 19) || ((n == 8) || (((n == 3) || (n == 1)) || (n == 0))))

abbrev on_basics : ℕ → Bool
on_basics n = leads_basic_code n || ((n == 10) || on_basic n)

some_basics_reads : Reads (MaybeListed (Sign terminals.Comma) IsBasic) (leads on_basics) some_basics_at
unfolding some_basics_at basics_at
some_basics_reads =
    maybe_listed_reads (Sign terminals.Comma) (is terminals.Comma) (sign_at terminals.Comma) (sign_reads terminals.Comma) comma_starts IsBasic (leads on_basic) basic_at basic_reads comma_apart
    leads_basic (λ x used rest d. basic_first leads_basic_code true refl refl refl refl refl refl x used rest d)

abbrev IsList : List Basic → List Word → Type 0
IsList xs = Sign terminals.LeftBracket ⨾ MaybeListed (Sign terminals.Comma) IsBasic xs ⨾ Sign terminals.RightBracket

list_reads : Reads IsList none list_at
unfolding list_at
list_reads =
    made_reads (Both (λ (_ : Unit {0}). Sign terminals.LeftBracket) (Both (MaybeListed (Sign terminals.Comma) IsBasic) (λ (_ : Unit {0}). Sign terminals.RightBracket))) IsList none (λ p. p.1.0) _
    (then_reads _ _ none _ _ (sign_reads terminals.LeftBracket)
    (pair_reads _ _ (leads on_basics) none _ _ some_basics_reads (sign_reads terminals.RightBracket) (λ y used rest d stops. sign_first on_basics false terminals.RightBracket refl used rest d)))
    (λ p ws d. d) (λ xs ws d. ((tt, (xs, tt)), refl, d))

list_first : (test : ℕ → Bool) (b : Bool) → test 6 ≡ b → (xs : List Basic) (used rest : List Word) → IsList xs used → begins (leads test) (used ++ rest) ≡ b
list_first test b passes xs used rest d = front_first (leads test) b (Sign terminals.LeftBracket) _ (sign_first test b terminals.LeftBracket passes) used rest d

-- ---- expressions

abbrev Expression1 : Expression → List Word → Type 0
Expression1 (expressions.Basic x) ws = IsBasic x ws
Expression1 (expressions.List xs) ws = ⊥

expression1_first : (test : ℕ → Bool) (b : Bool) → test 29 ≡ b → test 19 ≡ b → test 8 ≡ b → test 3 ≡ b → test 1 ≡ b → test 0 ≡ b
    → (x : Expression) (used rest : List Word) → Expression1 x used → begins (leads test) (used ++ rest) ≡ b
expression1_first test b t f brace i fl name (expressions.Basic x) used rest d = basic_first test b t f brace i fl name x used rest d
expression1_first test b t f brace i fl name (expressions.List xs) used rest d = absurd d

expression1_is : (x : Expression) (ws : List Word) → Expression1 x ws → (b : Basic) × (expressions.Basic b ≡ x) × IsBasic b ws
expression1_is (expressions.Basic b) ws d = (b, refl, d)
expression1_is (expressions.List xs) ws d = absurd d

expression1_in : (x : Expression) (ws : List Word) → Expression1 x ws → IsExpression x ws
expression1_in (expressions.Basic b) ws d = d
expression1_in (expressions.List xs) ws d = absurd d

expression_cases : (x : Expression) (ws : List Word) → IsExpression x ws → ((xs : List Basic) × (expressions.List xs ≡ x) × IsList xs ws) ⊎ Expression1 x ws
expression_cases (expressions.Basic b) ws d = inr d
expression_cases (expressions.List xs) ws d = inl (xs, refl, d)

pub expression_first : (test : ℕ → Bool) (b : Bool) → test 6 ≡ b → test 29 ≡ b → test 19 ≡ b → test 8 ≡ b → test 3 ≡ b → test 1 ≡ b → test 0 ≡ b
    → (x : Expression) (used rest : List Word) → IsExpression x used → begins (leads test) (used ++ rest) ≡ b
expression_first test b list t f brace i fl name (expressions.Basic x) used rest d = basic_first test b t f brace i fl name x used rest d
expression_first test b list t f brace i fl name (expressions.List xs) used rest d = list_first test b list xs used rest d

pub expression_reads : Reads IsExpression (leads on_basic) expression_at
unfolding expression_at
expression_reads =
    sure_choice_reads IsList Expression1 IsExpression (leads on_basic) (is terminals.LeftBracket) (λ xs. expressions.List xs) list_at _ list_reads
    (made_reads IsBasic Expression1 (leads on_basic) (λ x. expressions.Basic x) basic_at basic_reads (λ x ws d. d) expression1_is)
    (λ xs used rest d. list_first (λ n. n == 6) true refl xs used rest d)
    (λ x used rest d stops. expression1_first (λ n. n == 6) false refl refl refl refl refl refl x used rest d) (λ xs ws d. d) expression1_in expression_cases
