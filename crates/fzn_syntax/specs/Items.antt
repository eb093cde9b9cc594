-- The grammar of whole items.
use Rattle.std.specs.Prelude.{ℕ, List, Option, Some, None, if◌then◌else◌}
use Rattle.reading.specs.Language.{◌⨾◌, One, Maybe, Each, MaybeListed}
use Rattle.fzn_words.specs.declared.terminal.Terminal.TheVariants as terminals
use Rattle.fzn_words.specs.declared.word.Word.{Word}
use Rattle.fzn_syntax.specs.declared.expression.Expression.{Expression}
use Rattle.fzn_syntax.specs.declared.annotation.Annotation.{Annotation}
use Rattle.fzn_syntax.specs.declared.predicate.Predicate.{Predicate}
use Rattle.fzn_syntax.specs.declared.declaration.Parameter.{Parameter}
use Rattle.fzn_syntax.specs.declared.declaration.VariableDeclaration.{VariableDeclaration}
use Rattle.fzn_syntax.specs.declared.declaration.IndexRange.{IndexRange}
use Rattle.fzn_syntax.specs.declared.declaration.ParameterArray.{ParameterArray}
use Rattle.fzn_syntax.specs.declared.declaration.VariableArray.{VariableArray}
use Rattle.fzn_syntax.specs.declared.declaration.Declaration.{Declaration}
use Rattle.fzn_syntax.specs.declared.declaration.Declaration.TheVariants as declarations
use Rattle.fzn_syntax.specs.declared.constraint.Constraint.{Constraint}
use Rattle.fzn_syntax.specs.declared.solve.SolveGoal.{SolveGoal}
use Rattle.fzn_syntax.specs.declared.solve.SolveGoal.TheVariants as goals
use Rattle.fzn_syntax.specs.declared.solve.Solve.{Solve}
use Rattle.fzn_syntax.specs.declared.items.Items.{Items}
use Rattle.fzn_words.specs.Words.{is}
use Rattle.fzn_syntax.specs.Grammar.{Sign, IsName, IsInt, IsExpression, IsParameterType, IsVariableType}
use Rattle.fzn_syntax.specs.Arguments.{IsArguments}
use Rattle.fzn_syntax.specs.Balance.{IsBody}

-- '::' Name ['(' [arg {',' arg}*] ')']
abbrev pub IsAnnotation : Annotation → List Word → Type 0
IsAnnotation a = Sign terminals.DoubleColon ⨾ IsName a.name ⨾ Maybe IsArguments a.arguments

-- {'::' ann}*
abbrev pub AreAnnotations : List Annotation → List Word → Type 0
AreAnnotations = Each IsAnnotation

-- 'predicate' Name '(' balanced ')' ';'
abbrev pub IsPredicate : Predicate → List Word → Type 0
IsPredicate p = Sign terminals.Predicate ⨾ IsName p.name ⨾ IsBody p.body ⨾ Sign terminals.Semicolon

-- partype ':' Name '=' expr ';'
abbrev pub IsParameter : Parameter → List Word → Type 0
IsParameter p = IsParameterType p.element ⨾ Sign terminals.Colon ⨾ IsName p.name ⨾ Sign terminals.Equal ⨾ IsExpression p.value ⨾ Sign terminals.Semicolon

-- '=' expr
abbrev pub IsValue : Expression → List Word → Type 0
IsValue x = Sign terminals.Equal ⨾ IsExpression x

-- vartype ':' Name anns ['=' expr] ';'
abbrev pub IsVariable : VariableDeclaration → List Word → Type 0
IsVariable v = IsVariableType v.element ⨾ Sign terminals.Colon ⨾ IsName v.name ⨾ AreAnnotations v.annotations ⨾ Maybe IsValue v.value ⨾ Sign terminals.Semicolon

-- 'array' '[' Int '..' Int ']' 'of'
abbrev pub IsIndexRange : IndexRange → List Word → Type 0
IsIndexRange r = Sign terminals.Array ⨾ Sign terminals.LeftBracket ⨾ IsInt r.first ⨾ Sign terminals.DotDot ⨾ IsInt r.last ⨾ Sign terminals.RightBracket ⨾ Sign terminals.Of

-- 'array' '[' Int '..' Int ']' 'of' partype ':' Name '=' expr ';'
abbrev pub IsParameterArray : ParameterArray → List Word → Type 0
IsParameterArray a = IsIndexRange a.index ⨾ IsParameter a.entries

-- 'array' '[' Int '..' Int ']' 'of' vartype ':' Name anns '=' expr ';'
abbrev pub IsVariableArray : VariableArray → List Word → Type 0
IsVariableArray a =
    IsIndexRange a.index ⨾ IsVariableType a.element ⨾ Sign terminals.Colon ⨾ IsName a.name ⨾ AreAnnotations a.annotations ⨾ IsValue a.value ⨾ Sign terminals.Semicolon

-- a parameter, a variable, an array of parameters or one of variables
abbrev pub IsDeclaration : Declaration → List Word → Type 0
IsDeclaration (declarations.Parameter p) = IsParameter p
IsDeclaration (declarations.Variable v) = IsVariable v
IsDeclaration (declarations.ParameterArray a) = IsParameterArray a
IsDeclaration (declarations.VariableArray a) = IsVariableArray a

-- 'constraint' Name '(' [expr {',' expr}*] ')' anns ';'
abbrev pub IsConstraint : Constraint → List Word → Type 0
IsConstraint c =
    Sign terminals.Constraint ⨾ IsName c.name ⨾ Sign terminals.LeftParen ⨾ MaybeListed (Sign terminals.Comma) IsExpression c.arguments ⨾ Sign terminals.RightParen ⨾ AreAnnotations c.annotations
    ⨾ Sign terminals.Semicolon

-- 'satisfy' | 'minimize' Name | 'maximize' Name
abbrev pub IsGoal : SolveGoal → List Word → Type 0
IsGoal goals.Satisfy = Sign terminals.Satisfy
IsGoal (goals.Minimize n) = Sign terminals.Minimize ⨾ IsName n
IsGoal (goals.Maximize n) = Sign terminals.Maximize ⨾ IsName n

-- the word `solve` is worth its place
abbrev pub solve_worth : Word → Option ℕ
solve_worth w = if is terminals.Solve w then Some w.at else None

-- 'solve' anns goal ';'
abbrev pub IsSolve : Solve → List Word → Type 0
IsSolve s = One solve_worth s.at ⨾ AreAnnotations s.annotations ⨾ IsGoal s.goal ⨾ Sign terminals.Semicolon

-- {predicate}* {decl}* {constraint}* solve
abbrev pub AreItems : Items → List Word → Type 0
AreItems t = Each IsPredicate t.predicates ⨾ Each IsDeclaration t.declarations ⨾ Each IsConstraint t.constraints ⨾ IsSolve t.solve
