-- The words of printed items are the items again, places aside.
use Rattle.std.proofs.Common.{◌≡◌, ℕ, Bool, true, false, List, [], ◌∷◌, ◌++◌, map, Option, Some, None, refl, sym, ap, subst, ◌∙◌, codes}
use Rattle.std.specs.Prelude.{ℤ, option_map, ◌==◌}
use Rattle.std.specs.List.{AllByRecursion}
use Rattle.std.proofs.lemmas.Bool.{eq-eqb}
use Rattle.fzn_lex.specs.declared.words.What.{What}
use Rattle.fzn_lex.specs.declared.words.What.TheVariants as what
use Rattle.reading.specs.Language.{◌⨾◌, Nothing, One, Maybe, Each, MaybeListed}
use Rattle.fzn_syntax.specs.declared.identifier.Identifier.{Identifier}
use Rattle.fzn_syntax.specs.declared.expression.Expression.{Expression}
use Rattle.fzn_syntax.specs.declared.declaration.IndexRange.{IndexRange}
use Rattle.fzn_words.specs.declared.word.Word.{Word}
use Rattle.fzn_syntax.specs.declared.annotation.Annotation.{Annotation}
use Rattle.fzn_syntax.specs.declared.predicate.Predicate.{Predicate}
use Rattle.fzn_syntax.specs.declared.declaration.Parameter.{Parameter}
use Rattle.fzn_syntax.specs.declared.declaration.VariableDeclaration.{VariableDeclaration}
use Rattle.fzn_syntax.specs.declared.declaration.ParameterArray.{ParameterArray}
use Rattle.fzn_syntax.specs.declared.declaration.VariableArray.{VariableArray}
use Rattle.fzn_syntax.specs.declared.declaration.Declaration.{Declaration}
use Rattle.fzn_syntax.specs.declared.declaration.Declaration.TheVariants as declarations
use Rattle.fzn_syntax.specs.declared.constraint.Constraint.{Constraint}
use Rattle.fzn_syntax.specs.declared.solve.SolveGoal.{SolveGoal}
use Rattle.fzn_syntax.specs.declared.solve.SolveGoal.TheVariants as goals
use Rattle.fzn_syntax.specs.declared.solve.Solve.{Solve}
use Rattle.fzn_syntax.specs.declared.items.Items.{Items}
use Rattle.fzn_words.specs.Words.{code, terminal_by, terminal, kept_text}
use Rattle.fzn_syntax.specs.Grammar.{int_worth, IsName, IsInt, IsExpression, IsParameterType, IsVariableType}
use Rattle.fzn_syntax.specs.Arguments.{IsArguments}
use Rattle.fzn_syntax.specs.Balance.{IsBody}
use Rattle.fzn_syntax.specs.Items.{IsAnnotation, AreAnnotations, IsPredicate, IsParameter, IsValue, IsVariable, IsIndexRange, IsParameterArray, IsVariableArray, IsDeclaration, IsConstraint, IsGoal, solve_worth, IsSolve, AreItems}
use Rattle.fzn_print.specs.Marks.{Mark, token, space, newline, symbol, name, text_of, listed, each}
use Rattle.fzn_print.specs.Canonical.{word_marks, flat_marks, spaced_word, spaced_marks, body_marks, expression_marks, parameter_type_marks, variable_type_marks, arguments_marks, annotation_marks, annotations_marks, ended, predicate_marks, declared_marks, value_marks, maybe_value_marks, parameter_marks, variable_marks, range_marks, of_marks, index_marks, parameter_array_marks, variable_array_marks, declaration_marks, constraint_marks, objective_marks, goal_marks, solve_marks, items_marks}
use Rattle.fzn_print.specs.Aside.{name_aside, expression_aside, word_aside, words_aside, annotation_aside, annotations_aside, predicate_aside, parameter_aside, variable_aside, parameter_array_aside, variable_array_aside, declaration_aside, constraint_aside, goal_aside, solve_aside, items_aside}
use Rattle.fzn_print.proofs.Texts.{each-append}
use Rattle.fzn_print.proofs.Codes.{Coded, double_colon_code, semicolon_code, colon_code, equal_code, predicate_code, array_code, left_bracket_code, right_bracket_code, dot_dot_code, of_code, constraint_code, left_paren_code, right_paren_code, satisfy_code, minimize_code, maximize_code, solve_code}
use Rattle.fzn_syntax.proofs.Spelled.{IsSpelledName, IsSpelledExpression, AreKept, kept_parts}
use Rattle.fzn_print.proofs.Back.{AreAlike, AlikeParts, alike_parts, sign_back, parameter_type_back, variable_type_back, dots_terminal, of_terminal}
use Rattle.fzn_print.proofs.Placed.{Again, name_again, listed_again, expression_again, open_bracket_terminal, close_bracket_terminal}
use Rattle.fzn_print.proofs.SameWords.{AreSame, flat_same, arguments_same, body_same}
use Rattle.fzn_print.proofs.FlatApart.{BodyParts, body_parts, body_shape}
use Rattle.fzn_syntax.proofs.SpelledItems.{IsSpelledArguments, IsSpelledAnnotation, AreSpelledAnnotations, IsSpelledPredicate, IsSpelledParameter, IsSpelledValue, IsSpelledVariable, IsSpelledRange, IsSpelledParameterArray, IsSpelledVariableArray, IsSpelledDeclaration, IsSpelledConstraint, IsSpelledGoal, IsSpelledSolve, IsSpelledItems}

-- ---- the first of several parts

record Sign (n : ℕ) (ws : List Word) (ms : List Mark) : Type 0 where
  front : List Word
  back : List Word
  parts : ws ≡ front ++ back
  is : Coded n front
  rest : AreAlike back ms

sign : (n : ℕ) (w : What) (text : List ℕ) (ms : List Mark) (ws : List Word) → code (terminal_by w (kept_text w text)) ≡ n → AreAlike ws (token w text ∷ ms) → Sign n ws ms
sign n w text ms ws e (v, vs, parts, is, same, h) = record { front = v ∷ []; back = vs; parts = parts; is = sign_back n w text (v ∷ []) e (v, [], refl, is, same, refl); rest = h }

record Named (n : Identifier) (ws : List Word) (ms : List Mark) : Type 0 where
  front : List Word
  back : List Word
  parts : ws ≡ front ++ back
  again : Again IsName name_aside n front
  rest : AreAlike back ms

named : (n : Identifier) (ms : List Mark) (ws : List Word) → IsSpelledName n.name → AreAlike ws (name n.name ∷ ms) → Named n ws ms
named n ms ws fine (v, vs, parts, is, same, h) = record { front = v ∷ []; back = vs; parts = parts; again = name_again n (v ∷ []) fine (v, [], refl, is, same, refl); rest = h }

double_colon_is : code (terminal_by what.DoubleColon []) ≡ double_colon_code
unfolding terminal_by
double_colon_is = refl

semicolon_is : code (terminal_by what.Semicolon []) ≡ semicolon_code
unfolding terminal_by
semicolon_is = refl

colon_is : code (terminal_by what.Colon []) ≡ colon_code
unfolding terminal_by
colon_is = refl

equal_is : code (terminal_by what.Equal []) ≡ equal_code
unfolding terminal_by
equal_is = refl

left_paren_is : code (terminal_by what.LeftParen []) ≡ left_paren_code
unfolding terminal_by
left_paren_is = refl

right_paren_is : code (terminal_by what.RightParen []) ≡ right_paren_code
unfolding terminal_by
right_paren_is = refl

predicate_is : code (terminal_by what.Name (codes "predicate")) ≡ predicate_code
unfolding terminal_by
predicate_is = refl

array_is : code (terminal_by what.Name (codes "array")) ≡ array_code
unfolding terminal_by
array_is = refl

constraint_is : code (terminal_by what.Name (codes "constraint")) ≡ constraint_code
unfolding terminal_by
constraint_is = refl

satisfy_is : code (terminal_by what.Name (codes "satisfy")) ≡ satisfy_code
unfolding terminal_by
satisfy_is = refl

minimize_is : code (terminal_by what.Name (codes "minimize")) ≡ minimize_code
unfolding terminal_by
minimize_is = refl

maximize_is : code (terminal_by what.Name (codes "maximize")) ≡ maximize_code
unfolding terminal_by
maximize_is = refl

solve_is : code (terminal_by what.Name (codes "solve")) ≡ solve_code
unfolding terminal_by
solve_is = refl

ended_again : (ws : List Word) → AreAlike ws ended → Coded semicolon_code ws
ended_again ws (v, vs, parts, is, same, none) = sign_back semicolon_code what.Semicolon [] ws semicolon_is (v, vs, parts, is, same, none)

-- ---- flat words

same_aside : (ws us : List Word) → AreSame ws us → words_aside us ≡ words_aside ws
same_aside [] us e = rw e refl
same_aside (w ∷ ws) us (v, vs, e, is, same, h) = rw (e, is, same, same_aside ws vs h) refl

abbrev some_words : List Word → Option (List Word)
some_words l = Some l

maybe_arguments : (o : Option (List Word)) (us : List Word) → IsSpelledArguments o → AreAlike us (arguments_marks o) → Again (Maybe IsArguments) (option_map words_aside) o us
maybe_arguments None us fine h = record { thing = None; same = refl; is = h }
maybe_arguments (Some ws) us (d, k) h =
    let s = flat_same ws us k h in
    record { thing = Some us; same = ap (λ (l : List Word). some_words l) (same_aside ws us s); is = arguments_same ws us d s }

each_again : {X : Type 0} (f : X → List Mark) (D : X → List Word → Type 0) (Fine : X → Type 0) (aside : X → X)
    → ((x : X) (ws : List Word) → Fine x → AreAlike ws (f x) → Again D aside x ws)
    → (xs : List X) (ws : List Word) → AllByRecursion Fine xs → AreAlike ws (each f xs) → Again (Each D) (map aside) xs ws
each_again f D Fine aside again [] ws fine h = record { thing = []; same = refl; is = h }
each_again f D Fine aside again (x ∷ xs) ws (one, fine) h =
    let p = alike_parts ws (f x) (each f xs) h in
    let a = again x p.front one p.front_is in
    let b = each_again f D Fine aside again xs p.back fine p.back_is in
    record { thing = a.thing ∷ b.thing; same = rw (a.same, b.same) refl; is = (p.front, p.back, p.parts, a.is, b.is) }

annotation_again : (a : Annotation) (ws : List Word) → IsSpelledAnnotation a → AreAlike ws (annotation_marks a) → Again IsAnnotation annotation_aside a ws
annotation_again a ws (fine, args) h =
    let s = sign double_colon_code what.DoubleColon [] (space ∷ name a.name.name ∷ arguments_marks a.arguments) ws double_colon_is h in
    let n = named a.name (arguments_marks a.arguments) s.back fine s.rest in
    let o = maybe_arguments a.arguments n.back args n.rest in
    record {
      thing = record { name = n.again.thing; arguments = o.thing };
      same = rw (n.again.same, o.same) refl;
      is = (s.front, s.back, s.parts, s.is, (n.front, n.back, n.parts, n.again.is, o.is));
    }

annotations_again : (ns : List Annotation) (ws : List Word) → AreSpelledAnnotations ns → AreAlike ws (annotations_marks ns) → Again AreAnnotations annotations_aside ns ws
annotations_again ns ws fine h = each_again annotation_marks IsAnnotation IsSpelledAnnotation annotation_aside annotation_again ns ws fine h

-- ---- bodies

-- without their spaces the marks of a body are those of its words
alike_spaced : (ws us : List Word) (ms ns : List Mark) → ((vs : List Word) → AreAlike vs ms → AreAlike vs ns) → AreAlike us (each spaced_word ws ++ ms) → AreAlike us (flat_marks ws ++ ns)
alike_spaced [] us ms ns f h = f us h
alike_spaced (w ∷ ws) us ms ns f (v, vs, e, is, same, h) = (v, vs, e, is, same, alike_spaced ws vs ms ns f h)

alike_joined : (ws us : List Word) (ms ns : List Mark) → ((vs : List Word) → AreAlike vs ms → AreAlike vs ns) → AreAlike us (spaced_marks ws ++ ms) → AreAlike us (flat_marks ws ++ ns)
alike_joined [] us ms ns f h = f us h
alike_joined (w ∷ ws) us ms ns f (v, vs, e, is, same, h) = (v, vs, e, is, same, alike_spaced ws vs ms ns f h)

body_flat : (s : Word) (i : List Word) (t : Word) (us : List Word) → AreAlike us (flat_marks (s ∷ []) ++ (spaced_marks i ++ flat_marks (t ∷ []))) → AreAlike us (flat_marks (s ∷ []) ++ (flat_marks i ++ flat_marks (t ∷ [])))
body_flat s i t us (v, vs, e, is, same, h) = (v, vs, e, is, same, alike_joined i vs (flat_marks (t ∷ [])) (flat_marks (t ∷ [])) (λ ws k. k) h)

body_alike : (ws us : List Word) → IsBody ws ws → AreAlike us (body_marks ws) → AreAlike us (flat_marks ws)
body_alike ws us d h =
    let b = body_parts ws d in
    let shape : body_marks ws ≡ flat_marks (b.first ∷ []) ++ (spaced_marks b.inner ++ flat_marks (b.last ∷ [])) = ap body_marks b.parts ∙ body_shape b.first b.inner b.last in
    let flat : flat_marks ws ≡ flat_marks (b.first ∷ []) ++ (flat_marks b.inner ++ flat_marks (b.last ∷ [])) =
    ap (λ (l : List Word). flat_marks l) b.parts ∙ ap (λ (l : List Mark). flat_marks (b.first ∷ []) ++ l) (each-append word_marks b.inner (b.last ∷ [])) in
    subst (AreAlike us) (sym flat) (body_flat b.first b.inner b.last us (subst (AreAlike us) shape h))

body_again : (ws us : List Word) → IsBody ws ws → AreKept ws → AreAlike us (body_marks ws) → Again IsBody words_aside ws us
body_again ws us d k h =
    let s = flat_same ws us k (body_alike ws us d h) in
    record { thing = us; same = same_aside ws us s; is = body_same ws us d s }

predicate_again : (p : Predicate) (ws : List Word) → IsSpelledPredicate p → AreAlike ws (predicate_marks p) → Again IsPredicate predicate_aside p ws
predicate_again p ws (fine, body, kept) h =
    let s = sign predicate_code what.Name (codes "predicate") (space ∷ name p.name.name ∷ (body_marks p.body ++ ended)) ws predicate_is h in
    let n = named p.name (body_marks p.body ++ ended) s.back fine s.rest in
    let q = alike_parts n.back (body_marks p.body) ended n.rest in
    let b = body_again p.body q.front body kept q.front_is in
    record {
      thing = record { name = n.again.thing; body = b.thing };
      same = rw (n.again.same, b.same) refl;
      is = (s.front, s.back, s.parts, s.is, (n.front, n.back, n.parts, n.again.is, (q.front, q.back, q.parts, b.is, ended_again q.back q.back_is)));
    }

-- ---- declarations

-- a colon and the declared name
record Declared (n : Identifier) (ws : List Word) (ms : List Mark) : Type 0 where
  sign : Sign colon_code ws (space ∷ name n.name ∷ ms)
  named : Named n sign.back ms

declared : (n : Identifier) (ms : List Mark) (ws : List Word) → IsSpelledName n.name → AreAlike ws (declared_marks n ++ ms) → Declared n ws ms
declared n ms ws fine h =
    let s = sign colon_code what.Colon [] (space ∷ name n.name ∷ ms) ws colon_is h in
    record { sign = s; named = named n ms s.back fine s.rest }

abbrev some_expression : Expression → Option Expression
some_expression e = Some e

value_again : (x : Expression) (ws : List Word) → IsSpelledExpression x → AreAlike ws (value_marks x) → Again IsValue expression_aside x ws
value_again x ws fine h =
    let s = sign equal_code what.Equal [] (space ∷ expression_marks x) ws equal_is h in
    let e = expression_again x s.back fine s.rest in
    record { thing = e.thing; same = e.same; is = (s.front, s.back, s.parts, s.is, e.is) }

maybe_value_again : (o : Option Expression) (ws : List Word) → IsSpelledValue o → AreAlike ws (maybe_value_marks o) → Again (Maybe IsValue) (option_map expression_aside) o ws
maybe_value_again None ws fine h = record { thing = None; same = refl; is = h }
maybe_value_again (Some x) ws fine h = let v = value_again x ws fine h in record { thing = Some v.thing; same = ap (λ (e : Expression). some_expression e) v.same; is = v.is }

parameter_again : (p : Parameter) (ws : List Word) → IsSpelledParameter p → AreAlike ws (parameter_marks p) → Again IsParameter parameter_aside p ws
parameter_again p ws (type, fine, value) h =
    let t = alike_parts ws (parameter_type_marks p.element) (declared_marks p.name ++ (value_marks p.value ++ ended)) h in
    let d = declared p.name (value_marks p.value ++ ended) t.back fine t.back_is in
    let s = sign equal_code what.Equal [] (space ∷ (expression_marks p.value ++ ended)) d.named.back equal_is d.named.rest in
    let q = alike_parts s.back (expression_marks p.value) ended s.rest in
    let v = expression_again p.value q.front value q.front_is in
    record {
      thing = record { element = p.element; name = d.named.again.thing; value = v.thing };
      same = rw (d.named.again.same, v.same) refl;
      is = (
        t.front,
        t.back,
        t.parts,
        parameter_type_back p.element t.front t.front_is,
        (
          d.sign.front,
          d.sign.back,
          d.sign.parts,
          d.sign.is,
          (d.named.front, d.named.back, d.named.parts, d.named.again.is, (s.front, s.back, s.parts, s.is, (q.front, q.back, q.parts, v.is, ended_again q.back q.back_is))),
        ),
      );
    }

variable_again : (v : VariableDeclaration) (ws : List Word) → IsSpelledVariable v → AreAlike ws (variable_marks v) → Again IsVariable variable_aside v ws
variable_again v ws (type, fine, annotations, value) h =
    let t = alike_parts ws (variable_type_marks v.element) (declared_marks v.name ++ (annotations_marks v.annotations ++ (maybe_value_marks v.value ++ ended))) h in
    let d = declared v.name (annotations_marks v.annotations ++ (maybe_value_marks v.value ++ ended)) t.back fine t.back_is in
    let p = alike_parts d.named.back (annotations_marks v.annotations) (maybe_value_marks v.value ++ ended) d.named.rest in
    let q = alike_parts p.back (maybe_value_marks v.value) ended p.back_is in
    let a = annotations_again v.annotations p.front annotations p.front_is in
    let x = maybe_value_again v.value q.front value q.front_is in
    record {
      thing = record { element = v.element; name = d.named.again.thing; annotations = a.thing; value = x.thing };
      same = rw (d.named.again.same, a.same, x.same) refl;
      is = (
        t.front,
        t.back,
        t.parts,
        variable_type_back v.element t.front t.front_is,
        (
          d.sign.front,
          d.sign.back,
          d.sign.parts,
          d.sign.is,
          (d.named.front, d.named.back, d.named.parts, d.named.again.is, (p.front, p.back, p.parts, a.is, (q.front, q.back, q.parts, x.is, ended_again q.back q.back_is))),
        ),
      );
    }

record Number (z : ℤ) (ws : List Word) (ms : List Mark) : Type 0 where
  front : List Word
  back : List Word
  parts : ws ≡ front ++ back
  is : IsInt z front
  rest : AreAlike back ms

number : (z : ℤ) (ms : List Mark) (ws : List Word) → AreAlike ws (token (what.Int z) [] ∷ ms) → Number z ws ms
number z ms ws (v, vs, parts, is, same, h) = record { front = v ∷ []; back = vs; parts = parts; is = (v, rw is refl, refl); rest = h }

of_again : (ws : List Word) → AreAlike ws of_marks → Coded of_code ws
of_again ws (v, vs, parts, is, same, none) = sign_back of_code what.Name (codes "of") ws of_terminal (v, vs, parts, is, same, none)

index_again : (r : IndexRange) (ws : List Word) → AreAlike ws (index_marks r) → IsIndexRange r ws
index_again r ws h =
    let a = sign array_code what.Name (codes "array") (space ∷ (range_marks r ++ of_marks)) ws array_is h in
    let b = sign left_bracket_code what.LeftBracket [] (token (what.Int r.first) [] ∷ symbol what.DotDot ∷ token (what.Int r.last) [] ∷ symbol what.RightBracket ∷ of_marks) a.back open_bracket_terminal a.rest in
    let c = number r.first (symbol what.DotDot ∷ token (what.Int r.last) [] ∷ symbol what.RightBracket ∷ of_marks) b.back b.rest in
    let d = sign dot_dot_code what.DotDot [] (token (what.Int r.last) [] ∷ symbol what.RightBracket ∷ of_marks) c.back dots_terminal c.rest in
    let e = number r.last (symbol what.RightBracket ∷ of_marks) d.back d.rest in
    let f = sign right_bracket_code what.RightBracket [] of_marks e.back close_bracket_terminal e.rest in (
      a.front,
      a.back,
      a.parts,
      a.is,
      (
        b.front,
        b.back,
        b.parts,
        b.is,
        (
          c.front,
          c.back,
          c.parts,
          c.is,
          (
            d.front,
            d.back,
            d.parts,
            d.is,
            (
              e.front,
              e.back,
              e.parts,
              e.is,
              (f.front, f.back, f.parts, f.is, of_again f.back f.rest),
            ),
          ),
        ),
      ),
    )

parameter_array_again : (a : ParameterArray) (ws : List Word) → IsSpelledParameterArray a → AreAlike ws (parameter_array_marks a) → Again IsParameterArray parameter_array_aside a ws
parameter_array_again a ws (range, entries) h =
    let p = alike_parts ws (index_marks a.index) (parameter_marks a.entries) h in
    let e = parameter_again a.entries p.back entries p.back_is in
    record { thing = record { index = a.index; entries = e.thing }; same = rw e.same refl; is = (p.front, p.back, p.parts, index_again a.index p.front p.front_is, e.is) }

variable_array_again : (v : VariableArray) (ws : List Word) → IsSpelledVariableArray v → AreAlike ws (variable_array_marks v) → Again IsVariableArray variable_array_aside v ws
variable_array_again v ws (range, type, fine, annotations, value) h =
    let i = alike_parts ws (index_marks v.index) (variable_type_marks v.element ++ (declared_marks v.name ++ (annotations_marks v.annotations ++ (value_marks v.value ++ ended)))) h in
    let t = alike_parts i.back (variable_type_marks v.element) (declared_marks v.name ++ (annotations_marks v.annotations ++ (value_marks v.value ++ ended))) i.back_is in
    let d = declared v.name (annotations_marks v.annotations ++ (value_marks v.value ++ ended)) t.back fine t.back_is in
    let p = alike_parts d.named.back (annotations_marks v.annotations) (value_marks v.value ++ ended) d.named.rest in
    let q = alike_parts p.back (value_marks v.value) ended p.back_is in
    let a = annotations_again v.annotations p.front annotations p.front_is in
    let x = value_again v.value q.front value q.front_is in
    record {
      thing = record { index = v.index; element = v.element; name = d.named.again.thing; annotations = a.thing; value = x.thing };
      same = rw (d.named.again.same, a.same, x.same) refl;
      is = (
        i.front,
        i.back,
        i.parts,
        index_again v.index i.front i.front_is,
        (
          t.front,
          t.back,
          t.parts,
          variable_type_back v.element t.front t.front_is,
          (
            d.sign.front,
            d.sign.back,
            d.sign.parts,
            d.sign.is,
            (d.named.front, d.named.back, d.named.parts, d.named.again.is, (p.front, p.back, p.parts, a.is, (q.front, q.back, q.parts, x.is, ended_again q.back q.back_is))),
          ),
        ),
      );
    }

declaration_again : (x : Declaration) (ws : List Word) → IsSpelledDeclaration x → AreAlike ws (declaration_marks x) → Again IsDeclaration declaration_aside x ws
declaration_again (declarations.Parameter p) ws fine h = let a = parameter_again p ws fine h in record { thing = declarations.Parameter a.thing; same = ap (λ (y : Parameter). declarations.Parameter y) a.same; is = a.is }
declaration_again (declarations.Variable v) ws fine h = let a = variable_again v ws fine h in record { thing = declarations.Variable a.thing; same = ap (λ (y : VariableDeclaration). declarations.Variable y) a.same; is = a.is }
declaration_again (declarations.ParameterArray p) ws fine h = let a = parameter_array_again p ws fine h in record { thing = declarations.ParameterArray a.thing; same = ap (λ (y : ParameterArray). declarations.ParameterArray y) a.same; is = a.is }
declaration_again (declarations.VariableArray v) ws fine h = let a = variable_array_again v ws fine h in record { thing = declarations.VariableArray a.thing; same = ap (λ (y : VariableArray). declarations.VariableArray y) a.same; is = a.is }

-- ---- constraints and the goal

constraint_again : (c : Constraint) (ws : List Word) → IsSpelledConstraint c → AreAlike ws (constraint_marks c) → Again IsConstraint constraint_aside c ws
constraint_again c ws (fine, arguments, annotations) h =
    let s = sign constraint_code what.Name (codes "constraint") (space ∷ name c.name.name ∷ symbol what.LeftParen ∷ (listed expression_marks c.arguments ++ symbol what.RightParen ∷ (annotations_marks c.annotations ++ ended))) ws constraint_is h in
    let n = named c.name (symbol what.LeftParen ∷ (listed expression_marks c.arguments ++ symbol what.RightParen ∷ (annotations_marks c.annotations ++ ended))) s.back fine s.rest in
    let o = sign left_paren_code what.LeftParen [] (listed expression_marks c.arguments ++ symbol what.RightParen ∷ (annotations_marks c.annotations ++ ended)) n.back left_paren_is n.rest in
    let p = alike_parts o.back (listed expression_marks c.arguments) (symbol what.RightParen ∷ (annotations_marks c.annotations ++ ended)) o.rest in
    let x = listed_again expression_marks IsExpression IsSpelledExpression expression_aside expression_again c.arguments p.front arguments p.front_is in
    let r = sign right_paren_code what.RightParen [] (annotations_marks c.annotations ++ ended) p.back right_paren_is p.back_is in
    let q = alike_parts r.back (annotations_marks c.annotations) ended r.rest in
    let a = annotations_again c.annotations q.front annotations q.front_is in
    record {
      thing = record { name = n.again.thing; arguments = x.thing; annotations = a.thing };
      same = rw (n.again.same, x.same, a.same) refl;
      is = (
        s.front,
        s.back,
        s.parts,
        s.is,
        (
          n.front,
          n.back,
          n.parts,
          n.again.is,
          (
            o.front,
            o.back,
            o.parts,
            o.is,
            (
              p.front,
              p.back,
              p.parts,
              x.is,
              (r.front, r.back, r.parts, r.is, (q.front, q.back, q.parts, a.is, ended_again q.back q.back_is)),
            ),
          ),
        ),
      );
    }

goal_again : (g : SolveGoal) (ws : List Word) → IsSpelledGoal g → AreAlike ws (goal_marks g) → Again IsGoal goal_aside g ws
goal_again goals.Satisfy ws fine h = record { thing = goals.Satisfy; same = refl; is = sign_back satisfy_code what.Name (codes "satisfy") ws satisfy_is h }
goal_again (goals.Minimize n) ws fine h =
    let s = sign minimize_code what.Name (codes "minimize") (space ∷ name n.name ∷ []) ws minimize_is h in
    let a = name_again n s.back fine s.rest in
    record { thing = goals.Minimize a.thing; same = ap (λ (i : Identifier). goals.Minimize i) a.same; is = (s.front, s.back, s.parts, s.is, a.is) }
goal_again (goals.Maximize n) ws fine h =
    let s = sign maximize_code what.Name (codes "maximize") (space ∷ name n.name ∷ []) ws maximize_is h in
    let a = name_again n s.back fine s.rest in
    record { thing = goals.Maximize a.thing; same = ap (λ (i : Identifier). goals.Maximize i) a.same; is = (s.front, s.back, s.parts, s.is, a.is) }

solve_word : (v : Word) → code (terminal v) ≡ solve_code → solve_worth v ≡ Some v.at
solve_word v e = rw (eq-eqb (code (terminal v)) solve_code e) refl

solve_again : (s : Solve) (ws : List Word) → IsSpelledSolve s → AreAlike ws (solve_marks s) → Again IsSolve solve_aside s ws
solve_again s ws (annotations, goal) (v, vs, parts, is, same, h) =
    let p = alike_parts vs (annotations_marks s.annotations) (space ∷ (goal_marks s.goal ++ ended)) h in
    let q = alike_parts p.back (goal_marks s.goal) ended p.back_is in
    let a = annotations_again s.annotations p.front annotations p.front_is in
    let g = goal_again s.goal q.front goal q.front_is in
    record {
      thing = record { at = v.at; annotations = a.thing; goal = g.thing };
      same = rw (a.same, g.same) refl;
      is = (v ∷ [], vs, parts, (v, solve_word v (rw (is, same) solve_is), refl), (p.front, p.back, p.parts, a.is, (q.front, q.back, q.parts, g.is, ended_again q.back q.back_is)));
    }

pub items_again : (t : Items) (ws : List Word) → IsSpelledItems t → AreAlike ws (items_marks t) → Again AreItems items_aside t ws
items_again t ws (predicates, declared_spelled, constraints, solve) h =
    let p = alike_parts ws (each predicate_marks t.predicates) (each declaration_marks t.declarations ++ (each constraint_marks t.constraints ++ solve_marks t.solve)) h in
    let q = alike_parts p.back (each declaration_marks t.declarations) (each constraint_marks t.constraints ++ solve_marks t.solve) p.back_is in
    let r = alike_parts q.back (each constraint_marks t.constraints) (solve_marks t.solve) q.back_is in
    let a = each_again predicate_marks IsPredicate IsSpelledPredicate predicate_aside predicate_again t.predicates p.front predicates p.front_is in
    let b = each_again declaration_marks IsDeclaration IsSpelledDeclaration declaration_aside declaration_again t.declarations q.front declared_spelled q.front_is in
    let c = each_again constraint_marks IsConstraint IsSpelledConstraint constraint_aside constraint_again t.constraints r.front constraints r.front_is in
    let d = solve_again t.solve r.back solve r.back_is in
    record {
      thing = record { predicates = a.thing; declarations = b.thing; constraints = c.thing; solve = d.thing };
      same = rw (a.same, b.same, c.same, d.same) refl;
      is = (p.front, p.back, p.parts, a.is, (q.front, q.back, q.parts, b.is, (r.front, r.back, r.parts, c.is, d.is)));
    }
