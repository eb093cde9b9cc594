-- No token of a printed item goes on into what follows it.
use Rattle.std.proofs.Common.{◌≡◌, ◌≢◌, ℕ, ◌≤◌, Bool, true, false, List, [], ◌∷◌, ◌++◌, Option, Some, None, refl, sym, ap, subst, ◌∙◌, append_assoc, arith, codes, get_or}
use Rattle.std.specs.List.{AllByRecursion}
use Rattle.fzn_lex.specs.declared.words.What.TheVariants as what
use Rattle.fzn_lex.specs.Classes.{is_word, is_letter, is_digit}
use Rattle.fzn_lex.proofs.TightPieces.{NumberStops}
use Rattle.fzn_print.proofs.Spelled.{stops_at, stops_at_dots}
use Rattle.fzn_words.specs.declared.word.Word.{Word}
use Rattle.fzn_syntax.specs.declared.identifier.Identifier.{Identifier}
use Rattle.fzn_syntax.specs.declared.element.ParameterType.{ParameterType}
use Rattle.fzn_syntax.specs.declared.element.VariableType.{VariableType}
use Rattle.fzn_syntax.specs.declared.expression.Expression.{Expression}
use Rattle.fzn_syntax.specs.declared.annotation.Annotation.{Annotation}
use Rattle.fzn_syntax.specs.declared.predicate.Predicate.{Predicate}
use Rattle.fzn_syntax.specs.declared.declaration.Parameter.{Parameter}
use Rattle.fzn_syntax.specs.declared.declaration.VariableDeclaration.{VariableDeclaration}
use Rattle.fzn_syntax.specs.declared.declaration.IndexRange.{IndexRange}
use Rattle.fzn_syntax.specs.declared.declaration.ParameterArray.{ParameterArray}
use Rattle.fzn_syntax.specs.declared.declaration.VariableArray.{VariableArray}
use Rattle.fzn_syntax.specs.declared.declaration.Declaration.{Declaration}
use Rattle.fzn_syntax.specs.declared.declaration.Declaration.TheVariants as declarations
use Rattle.fzn_syntax.specs.declared.constraint.Constraint.{Constraint}
use Rattle.fzn_syntax.specs.declared.solve.SolveGoal.{SolveGoal}
use Rattle.fzn_syntax.specs.declared.solve.SolveGoal.TheVariants as goals
use Rattle.fzn_syntax.specs.declared.solve.Solve.{Solve}
use Rattle.fzn_syntax.specs.declared.items.Items.{Items}
use Rattle.fzn_print.specs.Marks.{Mark, token, space, newline, symbol, name, text_of, listed, each}
use Rattle.fzn_print.specs.Canonical.{flat_marks, spaced_marks, body_marks, expression_marks, parameter_type_marks, variable_type_marks, arguments_marks, annotation_marks, annotations_marks, ended, predicate_marks, declared_marks, value_marks, maybe_value_marks, parameter_marks, variable_marks, range_marks, of_marks, index_marks, parameter_array_marks, variable_array_marks, declaration_marks, constraint_marks, objective_marks, goal_marks, solve_marks, items_marks}
use Rattle.fzn_print.proofs.Apart.{AreApart, AreApart-append, at_space, at_bracket, spaced, listed_apart, expression_apart, parameter_type_apart, variable_type_apart, predicate_name, array_name, of_name, constraint_name, satisfy_name, minimize_name, maximize_name, solve_name}
use Rattle.fzn_syntax.proofs.Spelled.{IsSpelledName, IsSpelledExpression}
use Rattle.fzn_print.proofs.FlatApart.{arguments_ends, arguments_stop, BodyParts, body_parts, body_shape, body_apart}
use Rattle.fzn_print.proofs.WordStops.{symbol_stops}
use Rattle.fzn_print.proofs.Texts.{text_of-append}
use Rattle.fzn_words.specs.Words.{code, terminal}
use Rattle.fzn_syntax.specs.Balance.{IsBody}
use Rattle.fzn_print.specs.Spelling.{spelling_of}
use Rattle.fzn_lex.specs.Tokens.{Spells}
use Rattle.fzn_syntax.proofs.SpelledItems.{IsSpelledArguments, IsSpelledAnnotation, AreSpelledAnnotations, IsSpelledPredicate, IsSpelledParameter, IsSpelledValue, IsSpelledVariable, IsSpelledRange, IsSpelledParameterArray, IsSpelledVariableArray, IsSpelledDeclaration, IsSpelledConstraint, IsSpelledGoal, IsSpelledSolve, IsSpelledItems}

semicolon_byte : is_word 59 ≡ false
unfolding is_word is_letter is_digit
semicolon_byte = refl

colon_byte : is_word 58 ≡ false
unfolding is_word is_letter is_digit
colon_byte = refl

open_byte : is_word 40 ≡ false
unfolding is_word is_letter is_digit
open_byte = refl

close_byte : is_word 41 ≡ false
unfolding is_word is_letter is_digit
close_byte = refl

at_semicolon : (rest : List ℕ) → NumberStops (59 ∷ rest)
at_semicolon rest = stops_at 59 rest semicolon_byte (λ e. omega arith)

at_colon : (rest : List ℕ) → NumberStops (58 ∷ rest)
at_colon rest = stops_at 58 rest colon_byte (λ e. omega arith)

at_close : (rest : List ℕ) → NumberStops (41 ∷ rest)
at_close rest = stops_at 41 rest close_byte (λ e. omega arith)

ended_apart : (rest : List ℕ) → AreApart ended rest
ended_apart rest = (tt, tt, tt)

-- ---- annotations

arguments_apart : (o : Option (List Word)) (rest : List ℕ) → IsSpelledArguments o → NumberStops rest → AreApart (arguments_marks o) rest
arguments_apart None rest h stop = tt
arguments_apart (Some ws) rest (d, k) stop = arguments_ends ws d k rest stop

arguments_stops : (o : Option (List Word)) (rest : List ℕ) → IsSpelledArguments o → NumberStops rest → NumberStops (text_of (arguments_marks o) ++ rest)
arguments_stops None rest h stop = stop
arguments_stops (Some ws) rest (d, k) stop = arguments_stop ws rest d

annotation_apart : (a : Annotation) (rest : List ℕ) → IsSpelledAnnotation a → NumberStops rest → AreApart (annotation_marks a) rest
annotation_apart a rest (named, args) stop = (tt, tt, (named.0, (arguments_stops a.arguments rest args stop).no_word, arguments_apart a.arguments rest args stop))

annotations_stop : (ns : List Annotation) (rest : List ℕ) → NumberStops rest → NumberStops (text_of (annotations_marks ns) ++ rest)
annotations_stop [] rest stop = stop
annotations_stop (a ∷ ns) rest stop = at_space _

annotations_apart : (ns : List Annotation) (rest : List ℕ) → AreSpelledAnnotations ns → NumberStops rest → AreApart (annotations_marks ns) rest
annotations_apart [] rest h stop = tt
annotations_apart (a ∷ ns) rest (fine, h) stop =
    AreApart-append (annotation_marks a) (annotations_marks ns) rest (annotation_apart a _ fine (annotations_stop ns rest stop)) (annotations_apart ns rest h stop)

-- ---- predicates

body_stop : (ws : List Word) (rest : List ℕ) → IsBody ws ws → NumberStops (text_of (body_marks ws) ++ rest)
body_stop ws rest h =
    let b = body_parts ws h in
    let marks : body_marks ws ≡ flat_marks (b.first ∷ []) ++ (spaced_marks b.inner ++ flat_marks (b.last ∷ [])) = ap body_marks b.parts ∙ body_shape b.first b.inner b.last in
    let low : 4 ≤ code (terminal b.first) = let e = b.first_is in omega arith in
    let high : code (terminal b.first) ≤ 15 = let e = b.first_is in omega arith in
    rw marks (rw (append_assoc (spelling_of b.first.what b.first.text) (text_of (spaced_marks b.inner ++ flat_marks (b.last ∷ []))) rest)
    (symbol_stops b.first.what b.first.text (text_of (spaced_marks b.inner ++ flat_marks (b.last ∷ [])) ++ rest) low high))

predicate_apart : (p : Predicate) (rest : List ℕ) → IsSpelledPredicate p → AreApart (predicate_marks p) rest
predicate_apart p rest (named, body, kept) =
    let after : NumberStops (text_of (body_marks p.body ++ ended) ++ rest) =
    rw (text_of-append (body_marks p.body) ended, append_assoc (text_of (body_marks p.body)) (text_of ended) rest) (body_stop p.body (text_of ended ++ rest) body) in
    spaced (codes "predicate") (name p.name.name ∷ (body_marks p.body ++ ended)) rest predicate_name
    (named.0, after.no_word, AreApart-append (body_marks p.body) ended rest (body_apart p.body (text_of ended ++ rest) body kept) (ended_apart rest))

-- ---- declarations

declared_apart : (n : Identifier) (rest : List ℕ) → IsSpelledName n.name → NumberStops rest → AreApart (declared_marks n) rest
declared_apart n rest h stop = (tt, (λ e. omega arith), (h.0, stop.no_word, tt))

value_apart : (x : Expression) (rest : List ℕ) → IsSpelledExpression x → NumberStops rest → AreApart (value_marks x) rest
value_apart x rest h stop = (tt, tt, expression_apart x rest h stop)

maybe_value_apart : (o : Option Expression) (rest : List ℕ) → IsSpelledValue o → NumberStops rest → AreApart (maybe_value_marks o) rest
maybe_value_apart None rest h stop = tt
maybe_value_apart (Some x) rest h stop = value_apart x rest h stop

maybe_value_stop : (o : Option Expression) (rest : List ℕ) → NumberStops rest → NumberStops (text_of (maybe_value_marks o) ++ rest)
maybe_value_stop None rest stop = stop
maybe_value_stop (Some x) rest stop = at_space _

-- marks behind others
stop_joined : (ms ns : List Mark) (rest : List ℕ) → NumberStops (text_of ms ++ (text_of ns ++ rest)) → NumberStops (text_of (ms ++ ns) ++ rest)
stop_joined ms ns rest h = rw (text_of-append ms ns, append_assoc (text_of ms) (text_of ns) rest) h

parameter_apart : (p : Parameter) (rest : List ℕ) → IsSpelledParameter p → AreApart (parameter_marks p) rest
parameter_apart p rest (type, named, value) =
    let after : NumberStops (text_of (value_marks p.value ++ ended) ++ rest) = at_space _ in
    AreApart-append (parameter_type_marks p.element) (declared_marks p.name ++ (value_marks p.value ++ ended)) rest
    (parameter_type_apart p.element _ type (at_colon _))
    (AreApart-append (declared_marks p.name) (value_marks p.value ++ ended) rest (declared_apart p.name _ named after)
    (AreApart-append (value_marks p.value) ended rest (value_apart p.value _ value (at_semicolon _)) (ended_apart rest)))

variable_apart : (v : VariableDeclaration) (rest : List ℕ) → IsSpelledVariable v → AreApart (variable_marks v) rest
variable_apart v rest (type, named, annotations, value) =
    let tail : NumberStops (text_of (maybe_value_marks v.value ++ ended) ++ rest) = stop_joined (maybe_value_marks v.value) ended rest (maybe_value_stop v.value (text_of ended ++ rest) (at_semicolon _)) in
    AreApart-append (variable_type_marks v.element) (declared_marks v.name ++ (annotations_marks v.annotations ++ (maybe_value_marks v.value ++ ended))) rest
    (variable_type_apart v.element _ type (at_colon _))
    (AreApart-append (declared_marks v.name) (annotations_marks v.annotations ++ (maybe_value_marks v.value ++ ended)) rest
    (declared_apart v.name _ named (stop_joined (annotations_marks v.annotations) (maybe_value_marks v.value ++ ended) rest (annotations_stop v.annotations _ tail)))
    (AreApart-append (annotations_marks v.annotations) (maybe_value_marks v.value ++ ended) rest (annotations_apart v.annotations _ annotations tail)
    (AreApart-append (maybe_value_marks v.value) ended rest (maybe_value_apart v.value _ value (at_semicolon _)) (ended_apart rest))))

range_apart : (r : IndexRange) (rest : List ℕ) → IsSpelledRange r → AreApart (range_marks r) rest
range_apart r rest (first, last) = (tt, tt, (first, stops_at_dots _, (tt, tt, (last, at_bracket _, (tt, tt, tt)))))

of_apart : (rest : List ℕ) → AreApart of_marks rest
of_apart rest = spaced (codes "of") [] rest of_name tt

index_apart : (r : IndexRange) (rest : List ℕ) → IsSpelledRange r → AreApart (index_marks r) rest
index_apart r rest h = spaced (codes "array") (range_marks r ++ of_marks) rest array_name (AreApart-append (range_marks r) of_marks rest (range_apart r _ h) (of_apart rest))

parameter_array_apart : (a : ParameterArray) (rest : List ℕ) → IsSpelledParameterArray a → AreApart (parameter_array_marks a) rest
parameter_array_apart a rest (range, entries) = AreApart-append (index_marks a.index) (parameter_marks a.entries) rest (index_apart a.index _ range) (parameter_apart a.entries rest entries)

variable_array_apart : (a : VariableArray) (rest : List ℕ) → IsSpelledVariableArray a → AreApart (variable_array_marks a) rest
variable_array_apart a rest (range, type, named, annotations, value) =
    let tail : NumberStops (text_of (value_marks a.value ++ ended) ++ rest) = at_space _ in
    AreApart-append (index_marks a.index) (variable_type_marks a.element ++ (declared_marks a.name ++ (annotations_marks a.annotations ++ (value_marks a.value ++ ended)))) rest
    (index_apart a.index _ range)
    (AreApart-append (variable_type_marks a.element) (declared_marks a.name ++ (annotations_marks a.annotations ++ (value_marks a.value ++ ended))) rest
    (variable_type_apart a.element _ type (at_colon _))
    (AreApart-append (declared_marks a.name) (annotations_marks a.annotations ++ (value_marks a.value ++ ended)) rest
    (declared_apart a.name _ named (stop_joined (annotations_marks a.annotations) (value_marks a.value ++ ended) rest (annotations_stop a.annotations _ tail)))
    (AreApart-append (annotations_marks a.annotations) (value_marks a.value ++ ended) rest (annotations_apart a.annotations _ annotations tail)
    (AreApart-append (value_marks a.value) ended rest (value_apart a.value _ value (at_semicolon _)) (ended_apart rest)))))

declaration_apart : (x : Declaration) (rest : List ℕ) → IsSpelledDeclaration x → AreApart (declaration_marks x) rest
declaration_apart (declarations.Parameter p) rest h = parameter_apart p rest h
declaration_apart (declarations.Variable v) rest h = variable_apart v rest h
declaration_apart (declarations.ParameterArray a) rest h = parameter_array_apart a rest h
declaration_apart (declarations.VariableArray a) rest h = variable_array_apart a rest h

-- ---- constraints and the goal

constraint_apart : (c : Constraint) (rest : List ℕ) → IsSpelledConstraint c → AreApart (constraint_marks c) rest
constraint_apart c rest (named, arguments, annotations) =
    let tail : NumberStops (text_of ended ++ rest) = at_semicolon _ in
    spaced (codes "constraint") (name c.name.name ∷ symbol what.LeftParen ∷ (listed expression_marks c.arguments ++ symbol what.RightParen ∷ (annotations_marks c.annotations ++ ended))) rest constraint_name (
      named.0,
      open_byte,
      (
        tt,
        tt,
        AreApart-append (listed expression_marks c.arguments) (symbol what.RightParen ∷ (annotations_marks c.annotations ++ ended)) rest
            (listed_apart expression_marks IsSpelledExpression expression_apart c.arguments _ arguments (at_close _))
            (tt, tt, AreApart-append (annotations_marks c.annotations) ended rest (annotations_apart c.annotations _ annotations tail) (ended_apart rest)),
      ),
    )

objective_apart : (word : List ℕ) (n : Identifier) (rest : List ℕ) → Spells what.Name word → IsSpelledName n.name → NumberStops rest → AreApart (objective_marks word n) rest
objective_apart word n rest h fine stop = spaced word (name n.name ∷ []) rest h (fine.0, stop.no_word, tt)

goal_apart : (g : SolveGoal) (rest : List ℕ) → IsSpelledGoal g → NumberStops rest → AreApart (goal_marks g) rest
goal_apart goals.Satisfy rest h stop = (satisfy_name, stop.no_word, tt)
goal_apart (goals.Minimize n) rest h stop = objective_apart (codes "minimize") n rest minimize_name h stop
goal_apart (goals.Maximize n) rest h stop = objective_apart (codes "maximize") n rest maximize_name h stop

solve_apart : (s : Solve) (rest : List ℕ) → IsSpelledSolve s → AreApart (solve_marks s) rest
solve_apart s rest (annotations, goal) =
    let tail : NumberStops (text_of (space ∷ (goal_marks s.goal ++ ended)) ++ rest) = at_space _ in
    let after : NumberStops (text_of (annotations_marks s.annotations ++ space ∷ (goal_marks s.goal ++ ended)) ++ rest) =
    stop_joined (annotations_marks s.annotations) (space ∷ (goal_marks s.goal ++ ended)) rest (annotations_stop s.annotations _ tail) in (
      solve_name,
      after.no_word,
      AreApart-append (annotations_marks s.annotations) (space ∷ (goal_marks s.goal ++ ended)) rest (annotations_apart s.annotations _ annotations tail)
          (AreApart-append (goal_marks s.goal) ended rest (goal_apart s.goal _ goal (at_semicolon _)) (ended_apart rest)),
    )

-- ---- all items

each_apart : {X : Type 0} (f : X → List Mark) (Fine : X → Type 0) → ((x : X) (rest : List ℕ) → Fine x → AreApart (f x) rest) → (xs : List X) (rest : List ℕ) → AllByRecursion Fine xs → AreApart (each f xs) rest
each_apart f Fine apart [] rest h = tt
each_apart f Fine apart (x ∷ xs) rest (fine, h) = AreApart-append (f x) (each f xs) rest (apart x _ fine) (each_apart f Fine apart xs rest h)

pub items_apart : (t : Items) (rest : List ℕ) → IsSpelledItems t → AreApart (items_marks t) rest
items_apart t rest (predicates, declared, constraints, solve) =
    AreApart-append (each predicate_marks t.predicates) (each declaration_marks t.declarations ++ (each constraint_marks t.constraints ++ solve_marks t.solve)) rest
    (each_apart predicate_marks IsSpelledPredicate predicate_apart t.predicates _ predicates)
    (AreApart-append (each declaration_marks t.declarations) (each constraint_marks t.constraints ++ solve_marks t.solve) rest
    (each_apart declaration_marks IsSpelledDeclaration declaration_apart t.declarations _ declared)
    (AreApart-append (each constraint_marks t.constraints) (solve_marks t.solve) rest (each_apart constraint_marks IsSpelledConstraint constraint_apart t.constraints _ constraints) (solve_apart t.solve rest solve)))
