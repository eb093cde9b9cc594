-- What the readers of items answer.
use Rattle.std.specs.Prelude.{ℕ, Bool, ◌||◌, List, [], Option}
use Rattle.reading.specs.Readers.{Answer, one, nothing, pair, made, either, maybe, many, behind, listed, whole}
use Rattle.fzn_words.specs.declared.terminal.Terminal.TheVariants as terminals
use Rattle.fzn_words.specs.declared.word.Word.{Word}
use Rattle.fzn_syntax.specs.declared.expression.Expression.{Expression}
use Rattle.fzn_syntax.specs.declared.annotation.Annotation.{Annotation}
use Rattle.fzn_syntax.specs.declared.predicate.Predicate.{Predicate}
use Rattle.fzn_syntax.specs.declared.declaration.Parameter.{Parameter}
use Rattle.fzn_syntax.specs.declared.declaration.VariableDeclaration.{VariableDeclaration}
use Rattle.fzn_syntax.specs.declared.declaration.IndexRange.{IndexRange}
use Rattle.fzn_syntax.specs.declared.declaration.Declaration.{Declaration}
use Rattle.fzn_syntax.specs.declared.declaration.Declaration.TheVariants as declarations
use Rattle.fzn_syntax.specs.declared.declaration.Entries.{Entries}
use Rattle.fzn_syntax.specs.declared.declaration.Entries.TheVariants as entries
use Rattle.fzn_syntax.specs.declared.declaration.VariableEntries.{VariableEntries}
use Rattle.fzn_syntax.specs.declared.constraint.Constraint.{Constraint}
use Rattle.fzn_syntax.specs.declared.solve.SolveGoal.{SolveGoal}
use Rattle.fzn_syntax.specs.declared.solve.SolveGoal.TheVariants as goals
use Rattle.fzn_syntax.specs.declared.solve.Solve.{Solve}
use Rattle.fzn_syntax.specs.declared.items.Items.{Items}
use Rattle.fzn_words.specs.Words.{is}
use Rattle.fzn_syntax.specs.Reading.{sign_at, name_at, int_at, leads_basic, expression_at, parameter_type_at, variable_type_at}
use Rattle.fzn_syntax.specs.Turns.{arguments_at}
use Rattle.fzn_syntax.specs.Balance.{body_at}
use Rattle.fzn_syntax.specs.Items.{solve_worth}

-- reads ['(' [arg {',' arg}*] ')']
unfoldable pub maybe_arguments_at : List Word → Answer Word (Option (List Word))
maybe_arguments_at = maybe (is terminals.LeftParen) arguments_at

-- reads '::' Name ['(' [arg {',' arg}*] ')']
unfoldable pub annotation_at : List Word → Answer Word Annotation
annotation_at = made (λ p. record { name = p.1.0; arguments = p.1.1 }) (pair (sign_at terminals.DoubleColon) (pair name_at maybe_arguments_at))

-- reads {'::' ann}*
abbrev pub annotations_at : List Word → Answer Word (List Annotation)
annotations_at = many (is terminals.DoubleColon) annotation_at

-- reads 'predicate' Name '(' balanced ')' ';'
unfoldable pub predicate_at : List Word → Answer Word Predicate
predicate_at = made (λ p. record { name = p.1.0; body = p.1.1.0 }) (pair (sign_at terminals.Predicate) (pair name_at (pair body_at (sign_at terminals.Semicolon))))

-- reads partype ':' Name '=' expr ';'
unfoldable pub parameter_at : List Word → Answer Word Parameter
parameter_at =
    made (λ p. record { element = p.0; name = p.1.1.0; value = p.1.1.1.1.0 })
    (pair parameter_type_at (pair (sign_at terminals.Colon) (pair name_at (pair (sign_at terminals.Equal) (pair expression_at (sign_at terminals.Semicolon))))))

-- reads '=' expr
unfoldable pub value_at : List Word → Answer Word Expression
value_at = made (λ p. p.1) (pair (sign_at terminals.Equal) expression_at)

-- reads ['=' expr]
unfoldable pub maybe_value_at : List Word → Answer Word (Option Expression)
maybe_value_at = maybe (is terminals.Equal) value_at

-- reads vartype ':' Name anns ['=' expr] ';'
unfoldable pub variable_at : List Word → Answer Word VariableDeclaration
variable_at =
    made (λ p. record { element = p.0; name = p.1.1.0; annotations = p.1.1.1.0; value = p.1.1.1.1.0 })
    (pair variable_type_at (pair (sign_at terminals.Colon) (pair name_at (pair annotations_at (pair maybe_value_at (sign_at terminals.Semicolon))))))

-- reads 'array' '[' Int '..' Int ']' 'of'
unfoldable pub index_at : List Word → Answer Word IndexRange
index_at =
    made (λ p. record { first = p.1.1.0; last = p.1.1.1.1.0 })
    (pair (sign_at terminals.Array) (pair (sign_at terminals.LeftBracket) (pair int_at (pair (sign_at terminals.DotDot) (pair int_at (pair (sign_at terminals.RightBracket) (sign_at terminals.Of)))))))

-- reads vartype ':' Name anns '=' expr ';'
unfoldable pub variable_entries_at : List Word → Answer Word VariableEntries
variable_entries_at =
    made (λ p. record { element = p.0; name = p.1.1.0; annotations = p.1.1.1.0; value = p.1.1.1.1.0 })
    (pair variable_type_at (pair (sign_at terminals.Colon) (pair name_at (pair annotations_at (pair value_at (sign_at terminals.Semicolon))))))

-- reads what stands behind 'of' in the declaration of an array
unfoldable pub entries_at : List Word → Answer Word Entries
entries_at = either (is terminals.Var) (made (λ v. entries.Variables v) variable_entries_at) (made (λ p. entries.Parameters p) parameter_at)

-- an array of the entries
abbrev pub array_of : IndexRange × Entries → Declaration
array_of (r, entries.Parameters p) = declarations.ParameterArray (record { index = r; entries = p })
array_of (r, entries.Variables v) = declarations.VariableArray (record { index = r; element = v.element; name = v.name; annotations = v.annotations; value = v.value })

-- reads the declaration of an array
unfoldable pub array_at : List Word → Answer Word Declaration
array_at = made array_of (pair index_at entries_at)

-- reads a declaration
unfoldable pub declaration_at : List Word → Answer Word Declaration
declaration_at =
    either (is terminals.Array) array_at
    (either (is terminals.Var) (made (λ v. declarations.Variable v) variable_at) (made (λ p. declarations.Parameter p) parameter_at))

-- reads ',' expr
abbrev pub more_expressions_at : List Word → Answer Word Expression
more_expressions_at = behind (sign_at terminals.Comma) expression_at

-- reads expr {',' expr}*
unfoldable pub expressions_at : List Word → Answer Word (List Expression)
expressions_at = listed (is terminals.Comma) (sign_at terminals.Comma) expression_at

-- an expression may begin with the word
abbrev pub leads_expression : Word → Bool
leads_expression w = is terminals.LeftBracket w || leads_basic w

-- reads [expr {',' expr}*]
unfoldable pub some_expressions_at : List Word → Answer Word (List Expression)
some_expressions_at = either leads_expression expressions_at (made (λ _. []) nothing)

-- reads 'constraint' Name '(' [expr {',' expr}*] ')' anns ';'
unfoldable pub constraint_at : List Word → Answer Word Constraint
constraint_at =
    made (λ p. record { name = p.1.0; arguments = p.1.1.1.0; annotations = p.1.1.1.1.1.0 })
    (pair (sign_at terminals.Constraint) (pair name_at (pair (sign_at terminals.LeftParen) (pair some_expressions_at (pair (sign_at terminals.RightParen) (pair annotations_at (sign_at terminals.Semicolon)))))))

-- reads 'satisfy' | 'minimize' Name | 'maximize' Name
unfoldable pub goal_at : List Word → Answer Word SolveGoal
goal_at =
    either (is terminals.Satisfy) (made (λ _. goals.Satisfy) (sign_at terminals.Satisfy))
    (either (is terminals.Minimize) (made (λ p. goals.Minimize p.1) (pair (sign_at terminals.Minimize) name_at)) (made (λ p. goals.Maximize p.1) (pair (sign_at terminals.Maximize) name_at)))

-- reads the word `solve`
unfoldable pub solve_word_at : List Word → Answer Word ℕ
solve_word_at = one solve_worth

-- reads 'solve' anns goal ';'
unfoldable pub solve_at : List Word → Answer Word Solve
solve_at =
    made (λ p. record { at = p.0; annotations = p.1.0; goal = p.1.1.0 }) (pair solve_word_at (pair annotations_at (pair goal_at (sign_at terminals.Semicolon))))

-- a declaration may begin with the word
abbrev pub leads_declaration : Word → Bool
leads_declaration w = is terminals.Array w || (is terminals.Var w || (is terminals.Bool w || (is terminals.IntWord w || (is terminals.FloatWord w || is terminals.Set w))))

-- reads {predicate}*
abbrev pub predicates_at : List Word → Answer Word (List Predicate)
predicates_at = many (is terminals.Predicate) predicate_at

-- reads {decl}*
abbrev pub declarations_at : List Word → Answer Word (List Declaration)
declarations_at = many leads_declaration declaration_at

-- reads {constraint}*
abbrev pub constraints_at : List Word → Answer Word (List Constraint)
constraints_at = many (is terminals.Constraint) constraint_at

-- reads {predicate}* {decl}* {constraint}* solve
unfoldable pub items_at : List Word → Answer Word Items
items_at =
    made (λ p. record { predicates = p.0; declarations = p.1.0; constraints = p.1.1.0; solve = p.1.1.1 })
    (pair predicates_at (pair declarations_at (pair constraints_at solve_at)))

-- reads items to the end of the words
unfoldable pub text_at : List Word → Answer Word Items
text_at = whole items_at
