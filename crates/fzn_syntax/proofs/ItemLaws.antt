-- The readers of annotations, predicates, declarations, constraints and the goal.
use Rattle.std.proofs.Common.{◌≡◌, ℕ, Bool, true, false, cond, ◌||◌, ◌==◌, List, ◌++◌, Option, Some, None, ◌⊎◌, inl, inr, refl}
use Rattle.std.proofs.lemmas.Option.{cond_some}
use Rattle.std.proofs.lemmas.Bool.{eqb-true}
use Rattle.reading.specs.Language.{◌⨾◌, One, Maybe, MaybeListed}
use Rattle.reading.specs.Readers.{Answer, begins, none, pair, made, either}
use Rattle.reading.proofs.Laws.{Stops, Reads, one_reads}
use Rattle.reading.proofs.Joins.{Both, pair_reads, then_reads, made_reads, either_reads}
use Rattle.reading.proofs.Loops.{Loops, many_reads}
use Rattle.reading.proofs.Lists.{behind_loops, maybe_reads, maybe_listed_reads}
use Rattle.fzn_words.specs.declared.terminal.Terminal.{Terminal}
use Rattle.fzn_words.specs.declared.terminal.Terminal.TheVariants as terminals
use Rattle.fzn_words.specs.declared.word.Word.{Word}
use Rattle.fzn_syntax.specs.declared.identifier.Identifier.{Identifier}
use Rattle.fzn_syntax.specs.declared.expression.Expression.{Expression}
use Rattle.fzn_syntax.specs.declared.predicate.Predicate.{Predicate}
use Rattle.fzn_syntax.specs.declared.declaration.Parameter.{Parameter}
use Rattle.fzn_syntax.specs.declared.declaration.VariableDeclaration.{VariableDeclaration}
use Rattle.fzn_syntax.specs.declared.declaration.IndexRange.{IndexRange}
use Rattle.fzn_syntax.specs.declared.declaration.Declaration.{Declaration}
use Rattle.fzn_syntax.specs.declared.declaration.Declaration.TheVariants as declarations
use Rattle.fzn_syntax.specs.declared.declaration.Entries.{Entries}
use Rattle.fzn_syntax.specs.declared.declaration.Entries.TheVariants as entries
use Rattle.fzn_syntax.specs.declared.declaration.VariableEntries.{VariableEntries}
use Rattle.fzn_syntax.specs.declared.constraint.Constraint.{Constraint}
use Rattle.fzn_syntax.specs.declared.solve.SolveGoal.{SolveGoal}
use Rattle.fzn_syntax.specs.declared.solve.SolveGoal.TheVariants as goals
use Rattle.fzn_syntax.specs.declared.solve.Solve.{Solve}
use Rattle.fzn_words.specs.Words.{code, terminal, is}
use Rattle.fzn_syntax.specs.Grammar.{Sign, IsName, IsInt, IsExpression, IsParameterType, IsVariableType}
use Rattle.fzn_syntax.specs.Reading.{sign_at, name_at, expression_at}
use Rattle.fzn_syntax.specs.Arguments.{IsArguments}
use Rattle.fzn_syntax.specs.Turns.{arguments_at}
use Rattle.fzn_syntax.specs.Balance.{IsBody, body_at}
use Rattle.fzn_syntax.specs.Items.{IsAnnotation, AreAnnotations, IsPredicate, IsParameter, IsValue, IsVariable, IsIndexRange, IsParameterArray, IsVariableArray, IsDeclaration, IsConstraint, IsGoal, solve_worth, IsSolve}
use Rattle.fzn_syntax.specs.ItemReading.{maybe_arguments_at, annotation_at, annotations_at, predicate_at, parameter_at, value_at, maybe_value_at, variable_at, index_at, variable_entries_at, entries_at, array_of, array_at, declaration_at, more_expressions_at, expressions_at, leads_expression, some_expressions_at, constraint_at, goal_at, solve_word_at, solve_at}
use Rattle.fzn_syntax.proofs.Choices.{sure_choice_reads}
use Rattle.fzn_syntax.proofs.Firsts.{sign_reads, name_reads, int_reads, leads, is_example, sign_first, front_first, comma_starts}
use Rattle.fzn_syntax.proofs.Types.{parameter_first, parameter_type_reads, variable_type_reads, variable_type_first}
use Rattle.fzn_syntax.proofs.Expressions.{on_basic, expression_first, expression_reads, comma_apart}
use Rattle.fzn_syntax.proofs.ArgumentLaws.{arguments_reads}
use Rattle.fzn_syntax.proofs.BalanceLaws.{body_reads}

-- ---- a sign behind a thing

-- a thing, and a sign with which it does not go on
module _ {X : Type 0} (D : X → List Word → Type 0) (goes : ℕ → Bool) (read : List Word → Answer Word X) (h : Reads D (leads goes) read) (k : Terminal) (apart : goes (code k) ≡ false) where
  upto_sign : Reads (Both D (λ (_ : Unit {0}). Sign k)) none (pair read (sign_at k))
  upto_sign = pair_reads D (λ (_ : Unit {0}). Sign k) (leads goes) none read (sign_at k) h (sign_reads k) (λ y used rest d stops. sign_first goes false k apart used rest d)

  beyond_sign : {Y : Type 0} (E : Y → List Word → Type 0) (more : Word → Bool) (next : List Word → Answer Word Y) → Reads E more next
      → Reads (Both D (Both (λ (_ : Unit {0}). Sign k) E)) more (pair read (pair (sign_at k) next))
  beyond_sign E more next g =
      pair_reads D (Both (λ (_ : Unit {0}). Sign k) E) (leads goes) more read (pair (sign_at k) next) h (then_reads (λ (_ : Unit {0}). Sign k) E more (sign_at k) next (sign_reads k) g)
      (λ y used rest d stops. front_first (leads goes) false (Sign k) (E y.1) (sign_first goes false k apart) used rest d)

-- a sign and a thing
led : {X : Type 0} (k : Terminal) (D : X → List Word → Type 0) (goes : Word → Bool) (read : List Word → Answer Word X) → Reads D goes read → Reads (Both (λ (_ : Unit {0}). Sign k) D) goes (pair (sign_at k) read)
led k D goes read h = then_reads (λ (_ : Unit {0}). Sign k) D goes (sign_at k) read (sign_reads k) h

-- a name and a thing
named : {X : Type 0} (D : X → List Word → Type 0) (goes : Word → Bool) (read : List Word → Answer Word X) → Reads D goes read → Reads (Both IsName D) goes (pair name_at read)
named D goes read h = then_reads IsName D goes name_at read name_reads h

-- ---- annotations

arguments_first : (test : ℕ → Bool) (b : Bool) → test 4 ≡ b → (flat used rest : List Word) → IsArguments flat used → begins (leads test) (used ++ rest) ≡ b
arguments_first test b passes flat used rest d = front_first (leads test) b (Sign terminals.LeftParen) _ (sign_first test b terminals.LeftParen passes) used rest d.1

abbrev pub on_annotation : ℕ → Bool
on_annotation n = (n == 4) || false

maybe_arguments_reads : Reads (Maybe IsArguments) (leads on_annotation) maybe_arguments_at
unfolding maybe_arguments_at
maybe_arguments_reads = maybe_reads IsArguments none (is terminals.LeftParen) arguments_at arguments_reads (λ flat used rest d. arguments_first (λ n. n == 4) true refl flat used rest d)

annotation_reads : Reads IsAnnotation (leads on_annotation) annotation_at
unfolding annotation_at
annotation_reads =
    made_reads (Both (λ (_ : Unit {0}). Sign terminals.DoubleColon) (Both IsName (Maybe IsArguments))) IsAnnotation (leads on_annotation) _ _
    (led terminals.DoubleColon _ _ _ (named _ _ _ maybe_arguments_reads))
    (λ p ws d. d) (λ a ws d. ((tt, (a.name, a.arguments)), refl, d))

pub annotation_loops : Loops IsAnnotation (leads on_annotation) (is terminals.DoubleColon) annotation_at
annotation_loops = record {
  reads = annotation_reads;
  starts = λ a used rest d. front_first (is terminals.DoubleColon) true (Sign terminals.DoubleColon) _ (sign_first (λ n. n == 13) true terminals.DoubleColon refl) used rest d;
  apart = λ w e. let same : code (terminal w) ≡ 13 = eqb-true (code (terminal w)) 13 e in rw same refl;
}

-- what annotations go on with
abbrev on_annotations : ℕ → Bool
on_annotations n = (n == 13) || on_annotation n

annotations_reads : Reads AreAnnotations (leads on_annotations) annotations_at
annotations_reads = many_reads IsAnnotation (leads on_annotation) (is terminals.DoubleColon) annotation_at annotation_loops

-- ---- predicates

predicate_reads : Reads IsPredicate none predicate_at
unfolding predicate_at
predicate_reads =
    made_reads (Both (λ (_ : Unit {0}). Sign terminals.Predicate) (Both IsName (Both IsBody (λ (_ : Unit {0}). Sign terminals.Semicolon)))) IsPredicate none _ _
    (led terminals.Predicate _ _ _ (named _ _ _ (then_reads IsBody (λ (_ : Unit {0}). Sign terminals.Semicolon) none body_at (sign_at terminals.Semicolon) body_reads (sign_reads terminals.Semicolon))))
    (λ p ws d. d) (λ p ws d. ((tt, (p.name, (p.body, tt))), refl, d))

pub predicate_first : (test : ℕ → Bool) (b : Bool) → test 25 ≡ b → (p : Predicate) (used rest : List Word) → IsPredicate p used → begins (leads test) (used ++ rest) ≡ b
predicate_first test b passes p used rest d = front_first (leads test) b (Sign terminals.Predicate) _ (sign_first test b terminals.Predicate passes) used rest d

pub predicate_loops : Loops IsPredicate none (is terminals.Predicate) predicate_at
predicate_loops = record { reads = predicate_reads; starts = predicate_first (λ n. n == 25) true refl; apart = λ w e. refl }

-- ---- parameters and variables

parameter_reads : Reads IsParameter none parameter_at
unfolding parameter_at
parameter_reads =
    made_reads (Both IsParameterType (Both (λ (_ : Unit {0}). Sign terminals.Colon) (Both IsName (Both (λ (_ : Unit {0}). Sign terminals.Equal) (Both IsExpression (λ (_ : Unit {0}). Sign terminals.Semicolon)))))) IsParameter none _ _
    (then_reads _ _ none _ _ parameter_type_reads (led terminals.Colon _ _ _ (named _ _ _ (led terminals.Equal _ _ _ (upto_sign IsExpression on_basic expression_at expression_reads terminals.Semicolon refl)))))
    (λ p ws d. d) (λ p ws d. ((p.element, (tt, (p.name, (tt, (p.value, tt))))), refl, d))

parameter_item_first : (test : ℕ → Bool) (b : Bool) → test 17 ≡ b → test 21 ≡ b → test 20 ≡ b → test 27 ≡ b → (p : Parameter) (used rest : List Word) → IsParameter p used → begins (leads test) (used ++ rest) ≡ b
parameter_item_first test b bool int float set p used rest d = front_first (leads test) b (IsParameterType p.element) _ (parameter_first test b bool int float set p.element) used rest d

value_reads : Reads IsValue (leads on_basic) value_at
unfolding value_at
value_reads =
    made_reads (Both (λ (_ : Unit {0}). Sign terminals.Equal) IsExpression) IsValue (leads on_basic) (λ p. p.1) _ (led terminals.Equal _ _ _ expression_reads) (λ p ws d. d) (λ x ws d. ((tt, x), refl, d))

value_first : (test : ℕ → Bool) (b : Bool) → test 14 ≡ b → (x : Expression) (used rest : List Word) → IsValue x used → begins (leads test) (used ++ rest) ≡ b
value_first test b passes x used rest d = front_first (leads test) b (Sign terminals.Equal) _ (sign_first test b terminals.Equal passes) used rest d

abbrev on_value : ℕ → Bool
on_value n = (n == 14) || on_basic n

maybe_value_reads : Reads (Maybe IsValue) (leads on_value) maybe_value_at
unfolding maybe_value_at
maybe_value_reads = maybe_reads IsValue (leads on_basic) (is terminals.Equal) value_at value_reads (value_first (λ n. n == 14) true refl)

-- a value or none, and the end
abbrev IsEnding : Option Expression × Unit {0} → List Word → Type 0
IsEnding = Both (Maybe IsValue) (λ _. Sign terminals.Semicolon)

ending_reads : Reads IsEnding none (pair maybe_value_at (sign_at terminals.Semicolon))
ending_reads = upto_sign (Maybe IsValue) on_value maybe_value_at maybe_value_reads terminals.Semicolon refl

ending_first : (o : Option Expression) (used rest : List Word) → (Maybe IsValue o ⨾ Sign terminals.Semicolon) used → Stops (leads on_annotations) (used ++ rest)
ending_first (Some x) used rest d = front_first (leads on_annotations) false (IsValue x) _ (value_first on_annotations false refl x) used rest d
ending_first None used rest d = rw (d.2, d.3) (sign_first on_annotations false terminals.Semicolon refl d.1 rest d.4)

variable_reads : Reads IsVariable none variable_at
unfolding variable_at
variable_reads =
    made_reads (Both IsVariableType (Both (λ (_ : Unit {0}). Sign terminals.Colon) (Both IsName (Both AreAnnotations IsEnding)))) IsVariable none _ _
    (then_reads _ _ none _ _ variable_type_reads (led terminals.Colon _ _ _ (named _ _ _
    (pair_reads AreAnnotations IsEnding (leads on_annotations) none annotations_at _ annotations_reads ending_reads (λ y used rest d stops. ending_first y.0 used rest d)))))
    (λ p ws d. d) (λ v ws d. ((v.element, (tt, (v.name, (v.annotations, (v.value, tt))))), refl, d))

variable_first : (test : ℕ → Bool) (b : Bool) → test 30 ≡ b → (v : VariableDeclaration) (used rest : List Word) → IsVariable v used → begins (leads test) (used ++ rest) ≡ b
variable_first test b passes v used rest d = front_first (leads test) b (IsVariableType v.element) _ (variable_type_first test b passes v.element) used rest d

-- ---- arrays

index_reads : Reads IsIndexRange none index_at
unfolding index_at
index_reads =
    made_reads
    (Both (λ (_ : Unit {0}). Sign terminals.Array) (Both (λ (_ : Unit {0}). Sign terminals.LeftBracket) (Both IsInt (Both (λ (_ : Unit {0}). Sign terminals.DotDot) (Both IsInt (Both (λ (_ : Unit {0}). Sign terminals.RightBracket) (λ (_ : Unit {0}). Sign terminals.Of)))))))
    IsIndexRange none _ _
    (led terminals.Array _ _ _ (led terminals.LeftBracket _ _ _ (then_reads _ _ none _ _ int_reads (led terminals.DotDot _ _ _ (then_reads _ _ none _ _ int_reads (led terminals.RightBracket _ _ _ (sign_reads terminals.Of)))))))
    (λ p ws d. d) (λ r ws d. ((tt, (tt, (r.first, (tt, (r.last, (tt, tt)))))), refl, d))

abbrev AreVariables : VariableEntries → List Word → Type 0
AreVariables v = IsVariableType v.element ⨾ Sign terminals.Colon ⨾ IsName v.name ⨾ AreAnnotations v.annotations ⨾ IsValue v.value ⨾ Sign terminals.Semicolon

abbrev IsFull : Expression × Unit {0} → List Word → Type 0
IsFull = Both IsValue (λ _. Sign terminals.Semicolon)

full_first : (x : Expression) (used rest : List Word) → (IsValue x ⨾ Sign terminals.Semicolon) used → Stops (leads on_annotations) (used ++ rest)
full_first x used rest d = front_first (leads on_annotations) false (IsValue x) _ (value_first on_annotations false refl x) used rest d

variable_entries_reads : Reads AreVariables none variable_entries_at
unfolding variable_entries_at
variable_entries_reads =
    made_reads (Both IsVariableType (Both (λ (_ : Unit {0}). Sign terminals.Colon) (Both IsName (Both AreAnnotations IsFull)))) AreVariables none _ _
    (then_reads _ _ none _ _ variable_type_reads (led terminals.Colon _ _ _ (named _ _ _
    (pair_reads AreAnnotations IsFull (leads on_annotations) none annotations_at _ annotations_reads (upto_sign IsValue on_basic value_at value_reads terminals.Semicolon refl) (λ y used rest d stops. full_first y.0 used rest d)))))
    (λ p ws d. d) (λ v ws d. ((v.element, (tt, (v.name, (v.annotations, (v.value, tt))))), refl, d))

abbrev AreEntries : Entries → List Word → Type 0
AreEntries (entries.Parameters p) = IsParameter p
AreEntries (entries.Variables v) = AreVariables v

abbrev AreParameters : Entries → List Word → Type 0
AreParameters (entries.Parameters p) ws = IsParameter p ws
AreParameters (entries.Variables v) ws = ⊥

parameters_first : (test : ℕ → Bool) (b : Bool) → test 17 ≡ b → test 21 ≡ b → test 20 ≡ b → test 27 ≡ b → (x : Entries) (used rest : List Word) → AreParameters x used → begins (leads test) (used ++ rest) ≡ b
parameters_first test b bool int float set (entries.Parameters p) used rest d = parameter_item_first test b bool int float set p used rest d
parameters_first test b bool int float set (entries.Variables v) used rest d = absurd d

parameters_are : (x : Entries) (ws : List Word) → AreParameters x ws → (p : Parameter) × (entries.Parameters p ≡ x) × IsParameter p ws
parameters_are (entries.Parameters p) ws d = (p, refl, d)
parameters_are (entries.Variables v) ws d = absurd d

parameters_in : (x : Entries) (ws : List Word) → AreParameters x ws → AreEntries x ws
parameters_in (entries.Parameters p) ws d = d
parameters_in (entries.Variables v) ws d = absurd d

entries_cases : (x : Entries) (ws : List Word) → AreEntries x ws → ((v : VariableEntries) × (entries.Variables v ≡ x) × AreVariables v ws) ⊎ AreParameters x ws
entries_cases (entries.Parameters p) ws d = inr d
entries_cases (entries.Variables v) ws d = inl (v, refl, d)

entries_reads : Reads AreEntries none entries_at
unfolding entries_at
entries_reads =
    sure_choice_reads AreVariables AreParameters AreEntries none (is terminals.Var) (λ v. entries.Variables v) variable_entries_at _ variable_entries_reads
    (made_reads IsParameter AreParameters none (λ p. entries.Parameters p) parameter_at parameter_reads (λ p ws d. d) parameters_are)
    (λ v used rest d. front_first (is terminals.Var) true (IsVariableType v.element) _ (variable_type_first (λ n. n == 30) true refl v.element) used rest d)
    (λ x used rest d stops. parameters_first (λ n. n == 30) false refl refl refl refl x used rest d) (λ v ws d. d) parameters_in entries_cases

abbrev IsArray : Declaration → List Word → Type 0
IsArray (declarations.ParameterArray a) ws = IsParameterArray a ws
IsArray (declarations.VariableArray a) ws = IsVariableArray a ws
IsArray _ ws = ⊥

array_so : (p : IndexRange × Entries) (ws : List Word) → Both IsIndexRange AreEntries p ws → IsArray (array_of p) ws
array_so (r, entries.Parameters p) ws d = d
array_so (r, entries.Variables v) ws d = d

array_again : (x : Declaration) (ws : List Word) → IsArray x ws → (p : IndexRange × Entries) × (array_of p ≡ x) × Both IsIndexRange AreEntries p ws
array_again (declarations.ParameterArray a) ws d = ((a.index, entries.Parameters a.entries), refl, d)
array_again (declarations.VariableArray a) ws d =
    ((a.index, entries.Variables (record { element = a.element; name = a.name; annotations = a.annotations; value = a.value })), refl, d)
array_again (declarations.Parameter p) ws d = absurd d
array_again (declarations.Variable v) ws d = absurd d

array_reads : Reads IsArray none array_at
unfolding array_at
array_reads = made_reads (Both IsIndexRange AreEntries) IsArray none array_of (pair index_at entries_at) (then_reads _ _ none _ _ index_reads entries_reads) array_so array_again

index_first : (test : ℕ → Bool) (b : Bool) → test 16 ≡ b → (r : IndexRange) (used rest : List Word) → IsIndexRange r used → begins (leads test) (used ++ rest) ≡ b
index_first test b passes r used rest d = front_first (leads test) b (Sign terminals.Array) _ (sign_first test b terminals.Array passes) used rest d

array_first : (test : ℕ → Bool) (b : Bool) → test 16 ≡ b → (x : Declaration) (used rest : List Word) → IsArray x used → begins (leads test) (used ++ rest) ≡ b
array_first test b passes (declarations.ParameterArray a) used rest d = front_first (leads test) b (IsIndexRange a.index) _ (index_first test b passes a.index) used rest d
array_first test b passes (declarations.VariableArray a) used rest d = front_first (leads test) b (IsIndexRange a.index) _ (index_first test b passes a.index) used rest d
array_first test b passes (declarations.Parameter p) used rest d = absurd d
array_first test b passes (declarations.Variable v) used rest d = absurd d

-- ---- declarations

abbrev IsSingle : Declaration → List Word → Type 0
IsSingle (declarations.Parameter p) ws = IsParameter p ws
IsSingle (declarations.Variable v) ws = IsVariable v ws
IsSingle _ ws = ⊥

abbrev IsLone : Declaration → List Word → Type 0
IsLone (declarations.Parameter p) ws = IsParameter p ws
IsLone _ ws = ⊥

lone_first : (test : ℕ → Bool) (b : Bool) → test 17 ≡ b → test 21 ≡ b → test 20 ≡ b → test 27 ≡ b → (x : Declaration) (used rest : List Word) → IsLone x used → begins (leads test) (used ++ rest) ≡ b
lone_first test b bool int float set (declarations.Parameter p) used rest d = parameter_item_first test b bool int float set p used rest d
lone_first test b bool int float set (declarations.Variable v) used rest d = absurd d
lone_first test b bool int float set (declarations.ParameterArray a) used rest d = absurd d
lone_first test b bool int float set (declarations.VariableArray a) used rest d = absurd d

lone_is : (x : Declaration) (ws : List Word) → IsLone x ws → (p : Parameter) × (declarations.Parameter p ≡ x) × IsParameter p ws
lone_is (declarations.Parameter p) ws d = (p, refl, d)
lone_is (declarations.Variable v) ws d = absurd d
lone_is (declarations.ParameterArray a) ws d = absurd d
lone_is (declarations.VariableArray a) ws d = absurd d

lone_in : (x : Declaration) (ws : List Word) → IsLone x ws → IsSingle x ws
lone_in (declarations.Parameter p) ws d = d
lone_in (declarations.Variable v) ws d = absurd d
lone_in (declarations.ParameterArray a) ws d = absurd d
lone_in (declarations.VariableArray a) ws d = absurd d

single_cases : (x : Declaration) (ws : List Word) → IsSingle x ws → ((v : VariableDeclaration) × (declarations.Variable v ≡ x) × IsVariable v ws) ⊎ IsLone x ws
single_cases (declarations.Parameter p) ws d = inr d
single_cases (declarations.Variable v) ws d = inl (v, refl, d)
single_cases (declarations.ParameterArray a) ws d = absurd d
single_cases (declarations.VariableArray a) ws d = absurd d

single_first : (test : ℕ → Bool) (b : Bool) → test 30 ≡ b → test 17 ≡ b → test 21 ≡ b → test 20 ≡ b → test 27 ≡ b → (x : Declaration) (used rest : List Word) → IsSingle x used → begins (leads test) (used ++ rest) ≡ b
single_first test b var bool int float set (declarations.Parameter p) used rest d = parameter_item_first test b bool int float set p used rest d
single_first test b var bool int float set (declarations.Variable v) used rest d = variable_first test b var v used rest d
single_first test b var bool int float set (declarations.ParameterArray a) used rest d = absurd d
single_first test b var bool int float set (declarations.VariableArray a) used rest d = absurd d

array_in : (x : Declaration) (ws : List Word) → IsArray x ws → IsDeclaration x ws
array_in (declarations.Parameter p) ws d = absurd d
array_in (declarations.Variable v) ws d = absurd d
array_in (declarations.ParameterArray a) ws d = d
array_in (declarations.VariableArray a) ws d = d

single_in : (x : Declaration) (ws : List Word) → IsSingle x ws → IsDeclaration x ws
single_in (declarations.Parameter p) ws d = d
single_in (declarations.Variable v) ws d = d
single_in (declarations.ParameterArray a) ws d = absurd d
single_in (declarations.VariableArray a) ws d = absurd d

declaration_cases : (x : Declaration) (ws : List Word) → IsDeclaration x ws → IsArray x ws ⊎ IsSingle x ws
declaration_cases (declarations.Parameter p) ws d = inr d
declaration_cases (declarations.Variable v) ws d = inr d
declaration_cases (declarations.ParameterArray a) ws d = inl d
declaration_cases (declarations.VariableArray a) ws d = inl d

single_reads : Reads IsSingle none (either (is terminals.Var) (made (λ v. declarations.Variable v) variable_at) (made (λ p. declarations.Parameter p) parameter_at))
single_reads =
    sure_choice_reads IsVariable IsLone IsSingle none (is terminals.Var) (λ v. declarations.Variable v) variable_at _ variable_reads
    (made_reads IsParameter IsLone none (λ p. declarations.Parameter p) parameter_at parameter_reads (λ p ws d. d) lone_is)
    (variable_first (λ n. n == 30) true refl)
    (λ x used rest d stops. lone_first (λ n. n == 30) false refl refl refl refl x used rest d) (λ v ws d. d) lone_in single_cases

declaration_reads : Reads IsDeclaration none declaration_at
unfolding declaration_at
declaration_reads =
    either_reads IsArray IsSingle IsDeclaration none (is terminals.Array) array_at _ array_reads single_reads array_in single_in
    (array_first (λ n. n == 16) true refl)
    (λ x used rest d stops. single_first (λ n. n == 16) false refl refl refl refl refl x used rest d)
    declaration_cases

pub declaration_first : (test : ℕ → Bool) (b : Bool) → test 16 ≡ b → test 30 ≡ b → test 17 ≡ b → test 21 ≡ b → test 20 ≡ b → test 27 ≡ b
    → (x : Declaration) (used rest : List Word) → IsDeclaration x used → begins (leads test) (used ++ rest) ≡ b
declaration_first test b array var bool int float set (declarations.Parameter p) used rest d = parameter_item_first test b bool int float set p used rest d
declaration_first test b array var bool int float set (declarations.Variable v) used rest d = variable_first test b var v used rest d
declaration_first test b array var bool int float set (declarations.ParameterArray a) used rest d = front_first (leads test) b (IsIndexRange a.index) _ (index_first test b array a.index) used rest d
declaration_first test b array var bool int float set (declarations.VariableArray a) used rest d = front_first (leads test) b (IsIndexRange a.index) _ (index_first test b array a.index) used rest d

abbrev pub declares : ℕ → Bool
declares n = (n == 16) || ((n == 30) || ((n == 17) || ((n == 21) || ((n == 20) || (n == 27)))))

pub declaration_loops : Loops IsDeclaration none (leads declares) declaration_at
declaration_loops = record { reads = declaration_reads; starts = declaration_first declares true refl refl refl refl refl refl; apart = λ w e. refl }

-- ---- constraints

-- a comma and an expression
abbrev pub IsMoreExpression : Expression → List Word → Type 0
IsMoreExpression x = Sign terminals.Comma ⨾ IsExpression x

pub expression_loops : Loops IsMoreExpression (leads on_basic) (is terminals.Comma) more_expressions_at
expression_loops = behind_loops (Sign terminals.Comma) (is terminals.Comma) (sign_at terminals.Comma) (sign_reads terminals.Comma) comma_starts IsExpression (leads on_basic) expression_at expression_reads comma_apart

abbrev expresses : ℕ → Bool
expresses n = (n == 6) || ((n == 29) || ((n == 19) || ((n == 8) || (((n == 3) || (n == 1)) || (n == 0)))))

abbrev on_expressions : ℕ → Bool
on_expressions n = expresses n || ((n == 10) || on_basic n)

some_expressions_reads : Reads (MaybeListed (Sign terminals.Comma) IsExpression) (leads on_expressions) some_expressions_at
unfolding some_expressions_at expressions_at
some_expressions_reads =
    maybe_listed_reads (Sign terminals.Comma) (is terminals.Comma) (sign_at terminals.Comma) (sign_reads terminals.Comma) comma_starts IsExpression (leads on_basic) expression_at expression_reads comma_apart
    leads_expression (λ x used rest d. expression_first expresses true refl refl refl refl refl refl refl x used rest d)

constraint_reads : Reads IsConstraint none constraint_at
unfolding constraint_at
constraint_reads =
    made_reads
    (Both (λ (_ : Unit {0}). Sign terminals.Constraint) (Both IsName (Both (λ (_ : Unit {0}). Sign terminals.LeftParen) (Both (MaybeListed (Sign terminals.Comma) IsExpression) (Both (λ (_ : Unit {0}). Sign terminals.RightParen) (Both AreAnnotations (λ (_ : Unit {0}). Sign terminals.Semicolon)))))))
    IsConstraint none _ _
    (led terminals.Constraint _ _ _ (named _ _ _ (led terminals.LeftParen _ _ _
    (beyond_sign (MaybeListed (Sign terminals.Comma) IsExpression) on_expressions some_expressions_at some_expressions_reads terminals.RightParen refl
    (Both AreAnnotations (λ (_ : Unit {0}). Sign terminals.Semicolon)) none _ (upto_sign AreAnnotations on_annotations annotations_at annotations_reads terminals.Semicolon refl)))))
    (λ p ws d. d) (λ c ws d. ((tt, (c.name, (tt, (c.arguments, (tt, (c.annotations, tt)))))), refl, d))

pub constraint_first : (test : ℕ → Bool) (b : Bool) → test 18 ≡ b → (c : Constraint) (used rest : List Word) → IsConstraint c used → begins (leads test) (used ++ rest) ≡ b
constraint_first test b passes c used rest d = front_first (leads test) b (Sign terminals.Constraint) _ (sign_first test b terminals.Constraint passes) used rest d

pub constraint_loops : Loops IsConstraint none (is terminals.Constraint) constraint_at
constraint_loops = record { reads = constraint_reads; starts = constraint_first (λ n. n == 18) true refl; apart = λ w e. refl }

-- ---- the goal

abbrev IsAimed : Terminal → Identifier → List Word → Type 0
IsAimed k n = Sign k ⨾ IsName n

aimed_first : (test : ℕ → Bool) (b : Bool) (k : Terminal) → test (code k) ≡ b → (n : Identifier) (used rest : List Word) → IsAimed k n used → begins (leads test) (used ++ rest) ≡ b
aimed_first test b k passes n used rest d = front_first (leads test) b (Sign k) _ (sign_first test b k passes) used rest d

abbrev Goal1 : SolveGoal → List Word → Type 0
Goal1 goals.Satisfy ws = ⊥
Goal1 g ws = IsGoal g ws

abbrev Goal2 : SolveGoal → List Word → Type 0
Goal2 (goals.Maximize n) ws = IsAimed terminals.Maximize n ws
Goal2 g ws = ⊥

goal1_first : (test : ℕ → Bool) (b : Bool) → test 23 ≡ b → test 22 ≡ b → (g : SolveGoal) (used rest : List Word) → Goal1 g used → begins (leads test) (used ++ rest) ≡ b
goal1_first test b least most goals.Satisfy used rest d = absurd d
goal1_first test b least most (goals.Minimize n) used rest d = aimed_first test b terminals.Minimize least n used rest d
goal1_first test b least most (goals.Maximize n) used rest d = aimed_first test b terminals.Maximize most n used rest d

goal2_first : (test : ℕ → Bool) (b : Bool) → test 22 ≡ b → (g : SolveGoal) (used rest : List Word) → Goal2 g used → begins (leads test) (used ++ rest) ≡ b
goal2_first test b most goals.Satisfy used rest d = absurd d
goal2_first test b most (goals.Minimize n) used rest d = absurd d
goal2_first test b most (goals.Maximize n) used rest d = aimed_first test b terminals.Maximize most n used rest d

goal2_is : (g : SolveGoal) (ws : List Word) → Goal2 g ws → (p : Unit {0} × Identifier) × (goals.Maximize p.1 ≡ g) × Both (λ (_ : Unit {0}). Sign terminals.Maximize) IsName p ws
goal2_is goals.Satisfy ws d = absurd d
goal2_is (goals.Minimize n) ws d = absurd d
goal2_is (goals.Maximize n) ws d = ((tt, n), refl, d)

goal1_in : (g : SolveGoal) (ws : List Word) → Goal1 g ws → IsGoal g ws
goal1_in goals.Satisfy ws d = absurd d
goal1_in (goals.Minimize n) ws d = d
goal1_in (goals.Maximize n) ws d = d

goal2_in : (g : SolveGoal) (ws : List Word) → Goal2 g ws → Goal1 g ws
goal2_in goals.Satisfy ws d = absurd d
goal2_in (goals.Minimize n) ws d = absurd d
goal2_in (goals.Maximize n) ws d = d

goal1_cases : (g : SolveGoal) (ws : List Word) → IsGoal g ws → ((y : Unit {0}) × (goals.Satisfy ≡ g) × Sign terminals.Satisfy ws) ⊎ Goal1 g ws
goal1_cases goals.Satisfy ws d = inl (tt, refl, d)
goal1_cases (goals.Minimize n) ws d = inr d
goal1_cases (goals.Maximize n) ws d = inr d

goal2_cases : (g : SolveGoal) (ws : List Word) → Goal1 g ws → ((p : Unit {0} × Identifier) × (goals.Minimize p.1 ≡ g) × Both (λ (_ : Unit {0}). Sign terminals.Minimize) IsName p ws) ⊎ Goal2 g ws
goal2_cases goals.Satisfy ws d = absurd d
goal2_cases (goals.Minimize n) ws d = inl ((tt, n), refl, d)
goal2_cases (goals.Maximize n) ws d = inr d

goal_reads : Reads IsGoal none goal_at
unfolding goal_at
goal_reads =
    sure_choice_reads (λ (_ : Unit {0}). Sign terminals.Satisfy) Goal1 IsGoal none (is terminals.Satisfy) (λ _. goals.Satisfy) (sign_at terminals.Satisfy) _ (sign_reads terminals.Satisfy)
    (sure_choice_reads (Both (λ (_ : Unit {0}). Sign terminals.Minimize) IsName) Goal2 Goal1 none (is terminals.Minimize) (λ p. goals.Minimize p.1) (pair (sign_at terminals.Minimize) name_at) _ (led terminals.Minimize _ _ _ name_reads)
    (made_reads (Both (λ (_ : Unit {0}). Sign terminals.Maximize) IsName) Goal2 none (λ p. goals.Maximize p.1) _ (led terminals.Maximize _ _ _ name_reads) (λ p ws d. d) goal2_is)
    (λ p used rest d. aimed_first (λ n. n == 23) true terminals.Minimize refl p.1 used rest d)
    (λ g used rest d stops. goal2_first (λ n. n == 23) false refl g used rest d) (λ p ws d. d) goal2_in goal2_cases)
    (λ y used rest d. sign_first (λ n. n == 26) true terminals.Satisfy refl used rest d)
    (λ g used rest d stops. goal1_first (λ n. n == 26) false refl refl g used rest d) (λ y ws d. d) goal1_in goal1_cases

solve_word_reads : Reads (One solve_worth) none solve_word_at
unfolding solve_word_at
solve_word_reads = let e = is_example terminals.Solve in one_reads solve_worth e.0.at e.0 (rw e.1 refl)

pub solve_reads : Reads IsSolve none solve_at
unfolding solve_at
solve_reads =
    made_reads (Both (One solve_worth) (Both AreAnnotations (Both IsGoal (λ (_ : Unit {0}). Sign terminals.Semicolon)))) IsSolve none _ _
    (then_reads _ _ none _ _ solve_word_reads
    (pair_reads AreAnnotations (Both IsGoal (λ (_ : Unit {0}). Sign terminals.Semicolon)) (leads on_annotations) none annotations_at _ annotations_reads
    (then_reads IsGoal (λ (_ : Unit {0}). Sign terminals.Semicolon) none goal_at (sign_at terminals.Semicolon) goal_reads (sign_reads terminals.Semicolon))
    (λ y used rest d stops. front_first (leads on_annotations) false (IsGoal y.0) _ (goal_first y.0) used rest d)))
    (λ p ws d. d) (λ s ws d. ((s.at, (s.annotations, (s.goal, tt))), refl, d)) where
      goal_first : (g : SolveGoal) (used rest : List Word) → IsGoal g used → begins (leads on_annotations) (used ++ rest) ≡ false
      goal_first goals.Satisfy used rest d = sign_first on_annotations false terminals.Satisfy refl used rest d
      goal_first (goals.Minimize n) used rest d = aimed_first on_annotations false terminals.Minimize refl n used rest d
      goal_first (goals.Maximize n) used rest d = aimed_first on_annotations false terminals.Maximize refl n used rest d

solve_word_first : (test : ℕ → Bool) (b : Bool) → test 28 ≡ b → (at : ℕ) (used rest : List Word) → One solve_worth at used → begins (leads test) (used ++ rest) ≡ b
solve_word_first test b passes at used rest d =
    let same : code (terminal d.0) ≡ 28 = eqb-true (code (terminal d.0)) 28 (cond_some (is terminals.Solve d.0) d.0.at at d.1).0 in
    rw (d.2, same) passes

pub solve_first : (test : ℕ → Bool) (b : Bool) → test 28 ≡ b → (s : Solve) (used rest : List Word) → IsSolve s used → begins (leads test) (used ++ rest) ≡ b
solve_first test b passes s used rest d = front_first (leads test) b (One solve_worth s.at) _ (solve_word_first test b passes s.at) used rest d
