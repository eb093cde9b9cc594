-- Whole items of a text are spelled.
use Rattle.std.proofs.Common.{◌≡◌, ℕ, Bool, true, false, cond, List, [], ◌∷◌, ◌++◌, Option, Some, None, refl, sym, ap, subst, ◌∙◌}
use Rattle.std.specs.Prelude.{ℤ}
use Rattle.std.specs.List.{AllByRecursion}
use Rattle.fzn_lex.specs.declared.words.What.{What}
use Rattle.fzn_lex.specs.declared.words.What.TheVariants as what
use Rattle.fzn_lex.specs.Tokens.{IsSmall}
use Rattle.fzn_lex.specs.Kept.{IsKept}
use Rattle.reading.specs.Language.{◌⨾◌, Nothing, One, Maybe, Each, MaybeListed}
use Rattle.fzn_words.specs.declared.word.Word.{Word}
use Rattle.fzn_syntax.specs.declared.identifier.Identifier.{Identifier}
use Rattle.fzn_syntax.specs.declared.element.ParameterType.{ParameterType}
use Rattle.fzn_syntax.specs.declared.element.VariableType.{VariableType}
use Rattle.fzn_syntax.specs.declared.expression.Expression.{Expression}
use Rattle.fzn_syntax.specs.declared.annotation.Annotation.{Annotation}
use Rattle.fzn_syntax.specs.declared.predicate.Predicate.{Predicate}
use Rattle.fzn_syntax.specs.declared.declaration.Parameter.{Parameter}
use Rattle.fzn_syntax.specs.declared.declaration.VariableDeclaration.{VariableDeclaration}
use Rattle.fzn_syntax.specs.declared.declaration.IndexRange.{IndexRange}
use Rattle.fzn_syntax.specs.declared.declaration.ParameterArray.{ParameterArray}
use Rattle.fzn_syntax.specs.declared.declaration.VariableArray.{VariableArray}
use Rattle.fzn_syntax.specs.declared.declaration.Declaration.{Declaration}
use Rattle.fzn_syntax.specs.declared.declaration.Declaration.TheVariants as declarations
use Rattle.fzn_syntax.specs.declared.constraint.Constraint.{Constraint}
use Rattle.fzn_syntax.specs.declared.solve.SolveGoal.{SolveGoal}
use Rattle.fzn_syntax.specs.declared.solve.SolveGoal.TheVariants as goals
use Rattle.fzn_syntax.specs.declared.solve.Solve.{Solve}
use Rattle.fzn_syntax.specs.declared.items.Items.{Items}
use Rattle.fzn_words.specs.Words.{int_of}
use Rattle.fzn_syntax.specs.Grammar.{IsName, IsInt, IsExpression, IsParameterType, IsVariableType}
use Rattle.fzn_syntax.specs.Arguments.{IsArguments}
use Rattle.fzn_syntax.specs.Balance.{IsBody}
use Rattle.fzn_syntax.specs.Items.{IsAnnotation, AreAnnotations, IsPredicate, IsParameter, IsValue, IsVariable, IsIndexRange, IsParameterArray, IsVariableArray, IsDeclaration, IsConstraint, IsGoal, IsSolve, AreItems}
use Rattle.fzn_syntax.proofs.Spelled.{IsSpelledParameterType, IsSpelledVariableType, IsSpelledName, IsSpelledExpression, AreKept, kept_parts, name_spelled, parameter_type_spelled, variable_type_spelled, expression_spelled, listed_spelled}

abbrev pub IsSpelledArguments : Option (List Word) → Type 0
IsSpelledArguments None = Unit {0}
IsSpelledArguments (Some ws) = IsArguments ws ws × AreKept ws

abbrev pub IsSpelledAnnotation : Annotation → Type 0
IsSpelledAnnotation a = IsSpelledName a.name.name × IsSpelledArguments a.arguments

abbrev pub AreSpelledAnnotations : List Annotation → Type 0
AreSpelledAnnotations ns = AllByRecursion IsSpelledAnnotation ns

abbrev pub IsSpelledPredicate : Predicate → Type 0
IsSpelledPredicate p = IsSpelledName p.name.name × IsBody p.body p.body × AreKept p.body

abbrev pub IsSpelledParameter : Parameter → Type 0
IsSpelledParameter p = IsSpelledParameterType p.element × IsSpelledName p.name.name × IsSpelledExpression p.value

abbrev pub IsSpelledValue : Option Expression → Type 0
IsSpelledValue None = Unit {0}
IsSpelledValue (Some x) = IsSpelledExpression x

abbrev pub IsSpelledVariable : VariableDeclaration → Type 0
IsSpelledVariable v = IsSpelledVariableType v.element × IsSpelledName v.name.name × AreSpelledAnnotations v.annotations × IsSpelledValue v.value

abbrev pub IsSpelledRange : IndexRange → Type 0
IsSpelledRange r = IsSmall r.first × IsSmall r.last

abbrev pub IsSpelledParameterArray : ParameterArray → Type 0
IsSpelledParameterArray a = IsSpelledRange a.index × IsSpelledParameter a.entries

abbrev pub IsSpelledVariableArray : VariableArray → Type 0
IsSpelledVariableArray a = IsSpelledRange a.index × IsSpelledVariableType a.element × IsSpelledName a.name.name × AreSpelledAnnotations a.annotations × IsSpelledExpression a.value

abbrev pub IsSpelledDeclaration : Declaration → Type 0
IsSpelledDeclaration (declarations.Parameter p) = IsSpelledParameter p
IsSpelledDeclaration (declarations.Variable v) = IsSpelledVariable v
IsSpelledDeclaration (declarations.ParameterArray a) = IsSpelledParameterArray a
IsSpelledDeclaration (declarations.VariableArray a) = IsSpelledVariableArray a

abbrev pub IsSpelledConstraint : Constraint → Type 0
IsSpelledConstraint c = IsSpelledName c.name.name × AllByRecursion IsSpelledExpression c.arguments × AreSpelledAnnotations c.annotations

abbrev pub IsSpelledGoal : SolveGoal → Type 0
IsSpelledGoal goals.Satisfy = Unit {0}
IsSpelledGoal (goals.Minimize n) = IsSpelledName n.name
IsSpelledGoal (goals.Maximize n) = IsSpelledName n.name

abbrev pub IsSpelledSolve : Solve → Type 0
IsSpelledSolve s = AreSpelledAnnotations s.annotations × IsSpelledGoal s.goal

abbrev pub IsSpelledItems : Items → Type 0
IsSpelledItems t = AllByRecursion IsSpelledPredicate t.predicates × AllByRecursion IsSpelledDeclaration t.declarations × AllByRecursion IsSpelledConstraint t.constraints × IsSpelledSolve t.solve

-- ---- what is known of the parts

-- the facts of both parts
both_spelled : (A B : List Word → Type 0) (F G : Type 0) (ws : List Word) → ((us : List Word) → A us → AreKept us → F) → ((us : List Word) → B us → AreKept us → G)
    → (A ⨾ B) ws → AreKept ws → F × G
both_spelled A B F G ws f g (a, b, e, x, y) k = let p = kept_parts a b (subst AreKept e k) in (f a x p.0, g b y p.1)

-- the first part tells nothing
behind_spelled : (A B : List Word → Type 0) (G : Type 0) (ws : List Word) → ((us : List Word) → B us → AreKept us → G) → (A ⨾ B) ws → AreKept ws → G
behind_spelled A B G ws g (a, b, e, x, y) k = let p = kept_parts a b (subst AreKept e k) in g b y p.1

-- the second part tells nothing
before_spelled : (A B : List Word → Type 0) (F : Type 0) (ws : List Word) → ((us : List Word) → A us → AreKept us → F) → (A ⨾ B) ws → AreKept ws → F
before_spelled A B F ws f (a, b, e, x, y) k = let p = kept_parts a b (subst AreKept e k) in f a x p.0

each_spelled : {X : Type 0} (D : X → List Word → Type 0) (Spelled : X → Type 0) → ((x : X) (ws : List Word) → D x ws → AreKept ws → Spelled x)
    → (xs : List X) (ws : List Word) → Each D xs ws → AreKept ws → AllByRecursion Spelled xs
each_spelled D Spelled spelled [] ws d k = tt
each_spelled D Spelled spelled (x ∷ xs) ws (a, b, e, d, more) k =
    let p = kept_parts a b (subst AreKept e k) in (spelled x a d p.0, each_spelled D Spelled spelled xs b more p.1)

arguments_spelled : (o : Option (List Word)) (ws : List Word) → Maybe IsArguments o ws → AreKept ws → IsSpelledArguments o
arguments_spelled None ws d k = tt
arguments_spelled (Some us) ws (e, d) k = subst (λ (l : List Word). IsArguments l l × AreKept l) (sym e) ((refl, d), k)

pub annotation_spelled : (a : Annotation) (ws : List Word) → IsAnnotation a ws → AreKept ws → IsSpelledAnnotation a
annotation_spelled a ws d k = behind_spelled _ _ (IsSpelledAnnotation a) ws (λ us x h. both_spelled _ _ (IsSpelledName a.name.name) (IsSpelledArguments a.arguments) us (name_spelled a.name) (arguments_spelled a.arguments) x h) d k

annotations_spelled : (ns : List Annotation) (ws : List Word) → AreAnnotations ns ws → AreKept ws → AreSpelledAnnotations ns
annotations_spelled ns ws d k = each_spelled IsAnnotation IsSpelledAnnotation annotation_spelled ns ws d k

body_spelled : (flat ws : List Word) → IsBody flat ws → AreKept ws → IsBody flat flat × AreKept flat
body_spelled flat ws (e, d) k = subst (λ (l : List Word). IsBody l l × AreKept l) (sym e) ((refl, d), k)

predicate_spelled : (p : Predicate) (ws : List Word) → IsPredicate p ws → AreKept ws → IsSpelledPredicate p
predicate_spelled p ws d k =
    let x = behind_spelled _ _ (IsSpelledName p.name.name × (IsBody p.body p.body × AreKept p.body)) ws
    (λ us y h. both_spelled _ _ (IsSpelledName p.name.name) (IsBody p.body p.body × AreKept p.body) us (name_spelled p.name)
    (λ vs z g. before_spelled _ _ (IsBody p.body p.body × AreKept p.body) vs (body_spelled p.body) z g) y h) d k in
    (x.0, x.1.0, x.1.1)

-- a value and the end of the item
value_spelled : (x : Expression) (ws : List Word) → IsValue x ws → AreKept ws → IsSpelledExpression x
value_spelled x ws d k = behind_spelled _ _ (IsSpelledExpression x) ws (expression_spelled x) d k

maybe_value_spelled : (o : Option Expression) (ws : List Word) → Maybe IsValue o ws → AreKept ws → IsSpelledValue o
maybe_value_spelled None ws d k = tt
maybe_value_spelled (Some x) ws d k = value_spelled x ws d k

parameter_spelled : (p : Parameter) (ws : List Word) → IsParameter p ws → AreKept ws → IsSpelledParameter p
parameter_spelled p ws d k =
    let x = both_spelled _ _ (IsSpelledParameterType p.element) (IsSpelledName p.name.name × IsSpelledExpression p.value) ws (parameter_type_spelled p.element)
    (λ us y h. behind_spelled _ _ (IsSpelledName p.name.name × IsSpelledExpression p.value) us
    (λ vs z g. both_spelled _ _ (IsSpelledName p.name.name) (IsSpelledExpression p.value) vs (name_spelled p.name)
    (λ ts t f. behind_spelled _ _ (IsSpelledExpression p.value) ts (λ rs r q. before_spelled _ _ (IsSpelledExpression p.value) rs (expression_spelled p.value) r q) t f) z g) y h) d k in
    (x.0, x.1.0, x.1.1)

variable_spelled : (v : VariableDeclaration) (ws : List Word) → IsVariable v ws → AreKept ws → IsSpelledVariable v
variable_spelled v ws d k =
    let x = both_spelled _ _ (IsSpelledVariableType v.element) (IsSpelledName v.name.name × (AreSpelledAnnotations v.annotations × IsSpelledValue v.value)) ws (variable_type_spelled v.element)
    (λ us y h. behind_spelled _ _ (IsSpelledName v.name.name × (AreSpelledAnnotations v.annotations × IsSpelledValue v.value)) us
    (λ vs z g. both_spelled _ _ (IsSpelledName v.name.name) (AreSpelledAnnotations v.annotations × IsSpelledValue v.value) vs (name_spelled v.name)
    (λ ts t f. both_spelled _ _ (AreSpelledAnnotations v.annotations) (IsSpelledValue v.value) ts (annotations_spelled v.annotations)
    (λ rs r q. before_spelled _ _ (IsSpelledValue v.value) rs (maybe_value_spelled v.value) r q) t f) z g) y h) d k in
    (x.0, x.1.0, x.1.1.0, x.1.1.1)

int_kept : (w : What) (text : List ℕ) (z : ℤ) → int_of w ≡ Some z → IsKept w text → IsSmall z
int_kept (what.Int y) text z e h = let same : y ≡ z = cc in subst IsSmall same h
int_kept _ text z e h = absurd cc

int_spelled : (z : ℤ) (ws : List Word) → IsInt z ws → AreKept ws → IsSmall z
int_spelled z ws (s, worth, e) k = let h = subst AreKept e k in int_kept s.what s.text z worth h.0.0

index_spelled : (r : IndexRange) (ws : List Word) → IsIndexRange r ws → AreKept ws → IsSpelledRange r
index_spelled r ws d k =
    behind_spelled _ _ (IsSpelledRange r) ws (λ us y h. behind_spelled _ _ (IsSpelledRange r) us
    (λ vs z g. both_spelled _ _ (IsSmall r.first) (IsSmall r.last) vs (int_spelled r.first)
    (λ ts t f. behind_spelled _ _ (IsSmall r.last) ts (λ qs q m. before_spelled _ _ (IsSmall r.last) qs (int_spelled r.last) q m) t f) z g) y h) d k

parameter_array_spelled : (a : ParameterArray) (ws : List Word) → IsParameterArray a ws → AreKept ws → IsSpelledParameterArray a
parameter_array_spelled a ws d k = both_spelled _ _ (IsSpelledRange a.index) (IsSpelledParameter a.entries) ws (index_spelled a.index) (parameter_spelled a.entries) d k

variable_array_spelled : (a : VariableArray) (ws : List Word) → IsVariableArray a ws → AreKept ws → IsSpelledVariableArray a
variable_array_spelled a ws d k =
    let x = both_spelled _ _ (IsSpelledRange a.index) (IsSpelledVariableType a.element × (IsSpelledName a.name.name × (AreSpelledAnnotations a.annotations × IsSpelledExpression a.value))) ws (index_spelled a.index)
    (λ os o w. both_spelled _ _ (IsSpelledVariableType a.element) (IsSpelledName a.name.name × (AreSpelledAnnotations a.annotations × IsSpelledExpression a.value)) os (variable_type_spelled a.element)
    (λ us y h. behind_spelled _ _ (IsSpelledName a.name.name × (AreSpelledAnnotations a.annotations × IsSpelledExpression a.value)) us
    (λ vs z g. both_spelled _ _ (IsSpelledName a.name.name) (AreSpelledAnnotations a.annotations × IsSpelledExpression a.value) vs (name_spelled a.name)
    (λ ts t f. both_spelled _ _ (AreSpelledAnnotations a.annotations) (IsSpelledExpression a.value) ts (annotations_spelled a.annotations)
    (λ rs r q. before_spelled _ _ (IsSpelledExpression a.value) rs (value_spelled a.value) r q) t f) z g) y h) o w) d k in
    (x.0, x.1.0, x.1.1.0, x.1.1.1.0, x.1.1.1.1)

declaration_spelled : (x : Declaration) (ws : List Word) → IsDeclaration x ws → AreKept ws → IsSpelledDeclaration x
declaration_spelled (declarations.Parameter p) ws d k = parameter_spelled p ws d k
declaration_spelled (declarations.Variable v) ws d k = variable_spelled v ws d k
declaration_spelled (declarations.ParameterArray a) ws d k = parameter_array_spelled a ws d k
declaration_spelled (declarations.VariableArray a) ws d k = variable_array_spelled a ws d k

constraint_spelled : (c : Constraint) (ws : List Word) → IsConstraint c ws → AreKept ws → IsSpelledConstraint c
constraint_spelled c ws d k =
    let x = behind_spelled _ _ (IsSpelledName c.name.name × (AllByRecursion IsSpelledExpression c.arguments × AreSpelledAnnotations c.annotations)) ws
    (λ us y h. both_spelled _ _ (IsSpelledName c.name.name) (AllByRecursion IsSpelledExpression c.arguments × AreSpelledAnnotations c.annotations) us (name_spelled c.name)
    (λ vs z g. behind_spelled _ _ (AllByRecursion IsSpelledExpression c.arguments × AreSpelledAnnotations c.annotations) vs
    (λ ts t f. both_spelled _ _ (AllByRecursion IsSpelledExpression c.arguments) (AreSpelledAnnotations c.annotations) ts (listed_spelled IsExpression IsSpelledExpression expression_spelled c.arguments)
    (λ rs r q. behind_spelled _ _ (AreSpelledAnnotations c.annotations) rs (λ ps p m. before_spelled _ _ (AreSpelledAnnotations c.annotations) ps (annotations_spelled c.annotations) p m) r q) t f) z g) y h) d k in
    (x.0, x.1.0, x.1.1)

goal_spelled : (g : SolveGoal) (ws : List Word) → IsGoal g ws → AreKept ws → IsSpelledGoal g
goal_spelled goals.Satisfy ws d k = tt
goal_spelled (goals.Minimize n) ws d k = behind_spelled _ _ (IsSpelledName n.name) ws (name_spelled n) d k
goal_spelled (goals.Maximize n) ws d k = behind_spelled _ _ (IsSpelledName n.name) ws (name_spelled n) d k

solve_spelled : (s : Solve) (ws : List Word) → IsSolve s ws → AreKept ws → IsSpelledSolve s
solve_spelled s ws d k =
    behind_spelled _ _ (IsSpelledSolve s) ws (λ us y h. both_spelled _ _ (AreSpelledAnnotations s.annotations) (IsSpelledGoal s.goal) us (annotations_spelled s.annotations)
    (λ vs z g. before_spelled _ _ (IsSpelledGoal s.goal) vs (goal_spelled s.goal) z g) y h) d k

pub items_spelled : (t : Items) (ws : List Word) → AreItems t ws → AreKept ws → IsSpelledItems t
items_spelled t ws d k =
    let x = both_spelled _ _ (AllByRecursion IsSpelledPredicate t.predicates) (AllByRecursion IsSpelledDeclaration t.declarations × (AllByRecursion IsSpelledConstraint t.constraints × IsSpelledSolve t.solve)) ws
    (each_spelled IsPredicate IsSpelledPredicate predicate_spelled t.predicates)
    (λ us y h. both_spelled _ _ (AllByRecursion IsSpelledDeclaration t.declarations) (AllByRecursion IsSpelledConstraint t.constraints × IsSpelledSolve t.solve) us (each_spelled IsDeclaration IsSpelledDeclaration declaration_spelled t.declarations)
    (λ vs z g. both_spelled _ _ (AllByRecursion IsSpelledConstraint t.constraints) (IsSpelledSolve t.solve) vs (each_spelled IsConstraint IsSpelledConstraint constraint_spelled t.constraints) (solve_spelled t.solve) z g) y h) d k in
    (x.0, x.1.0, x.1.1.0, x.1.1.1)
