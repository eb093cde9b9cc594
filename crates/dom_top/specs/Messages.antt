-- The line on standard error that tells an answer, and what a sink has of it.
use Rattle.std.specs.Prelude.{◌≡◌, ◌⊎◌, ℕ, ◌+◌, List, [], ◌∷◌, ◌++◌, Option, codes, decimal}
use Rattle.dom_core.specs.declared.var_id.VarId.{VarId}
use Rattle.dom_edge.specs.Causes.{CountRose}
use Rattle.dom_edge.specs.Text.{Gains, GainsPrefix}
use Rattle.dom_limits.specs.declared.counted.Counted.{Counted}
use Rattle.dom_limits.specs.declared.counted.Counted.TheVariants.{Variables, Constraints, ArrayEntries, ArgumentEntries, Free}
use Rattle.fzn_lex.specs.declared.errors.LexError.{LexError}
use Rattle.fzn_lex.specs.declared.errors.LexError.TheVariants as lexing
use Rattle.fzn_syntax.specs.declared.error.SyntaxError.{SyntaxError}
use Rattle.fzn_syntax.specs.declared.error.SyntaxError.TheVariants as parsing
use Rattle.fzn_lower.specs.declared.error.ModelError.{ModelError}
use Rattle.fzn_lower.specs.declared.error.ModelError.TheVariants as lowering
use Rattle.dom_top.specs.declared.answer.Answer.{Answer}
use Rattle.dom_top.specs.declared.answer.Answer.TheVariants.{Best, Infeasible, Shown, ModelRefused, WordsRefused, ReadFault, WriteFault, NoMemory}
use Rattle.dom_top.specs.declared.fault.ModelFault.{ModelFault}
use Rattle.dom_top.specs.declared.fault.ModelFault.TheVariants.{Lex, Syntax, Lower, NotBuilt}

-- a line of the program
abbrev pub line : List ℕ → List ℕ
line text = codes "dombreak: " ++ (text ++ 10 ∷ [])

-- a fault and the byte where it is
abbrev pub at_byte : List ℕ → ℕ → List ℕ
at_byte text at = text ++ (codes " at byte " ++ decimal at)

-- what is told of a fault of the bytes
abbrev pub lex_text : LexError → List ℕ
lex_text lexing.TooLong = codes "text too long"
lex_text (lexing.BadByte at) = at_byte (codes "bad byte") at
lex_text (lexing.BadNumber at) = at_byte (codes "bad number") at
lex_text (lexing.OpenString at) = at_byte (codes "open string") at
lex_text lexing.Memory = codes "no memory"

-- what is told of a fault of the tokens
abbrev pub syntax_text : SyntaxError → List ℕ
syntax_text (parsing.Unexpected at) = at_byte (codes "unexpected token") at
syntax_text parsing.Memory = codes "no memory"

-- what there are too many of
abbrev pub counted_text : Counted → List ℕ
counted_text Variables = codes "variables"
counted_text Constraints = codes "constraints"
counted_text ArrayEntries = codes "array entries"
counted_text ArgumentEntries = codes "argument entries"
counted_text Free = codes "free variables"

-- a fault and the variable that has it, by its number from 1
abbrev pub of_variable : List ℕ → VarId → List ℕ
of_variable text x = text ++ (codes " variable " ++ decimal (x.0 + 1))

-- what is told of a fault of the items
abbrev pub lower_text : ModelError → List ℕ
lower_text (lowering.TooMany what count) = codes "too many " ++ (counted_text what ++ (codes ": " ++ decimal count))
lower_text (lowering.NameTwice at) = at_byte (codes "name declared twice") at
lower_text (lowering.UnknownName at) = at_byte (codes "unknown name") at
lower_text (lowering.UnknownConstraint at) = at_byte (codes "unknown constraint") at
lower_text (lowering.WrongArguments at) = at_byte (codes "wrong arguments") at
lower_text (lowering.FloatOrSet at) = at_byte (codes "float or set variable") at
lower_text (lowering.CyclicDefinition x) = of_variable (codes "cyclic definition of") x
lower_text (lowering.EmptyDomain x) = of_variable (codes "empty domain of") x
lower_text (lowering.Unbounded x) = of_variable (codes "unbounded") x
lower_text (lowering.DomainTooLarge x count) = of_variable (codes "domain of") x ++ (codes " has " ++ (decimal count ++ codes " values"))
lower_text (lowering.TooWide c) = codes "constraint " ++ (decimal c ++ codes " too wide")
lower_text lowering.NotBuilt = codes "not built"
lower_text lowering.Memory = codes "no memory"

-- what is told of a fault of the model
abbrev pub fault_text : ModelFault → List ℕ
fault_text (Lex error) = lex_text error
fault_text (Syntax error) = syntax_text error
fault_text (Lower error) = lower_text error
fault_text NotBuilt = codes "not built"

-- the line that tells an answer, none where the code is 0
abbrev pub message_of : Answer → List ℕ
message_of (Best values nodes nogoods) = []
message_of (Infeasible nodes nogoods) = []
message_of Shown = []
message_of (ModelRefused fault) = line (codes "model refused: " ++ fault_text fault)
message_of WordsRefused = line (codes "words refused")
message_of ReadFault = line (codes "read fault")
message_of WriteFault = line (codes "write fault")
message_of NoMemory = line (codes "no memory")

-- a sink has gained a line, or a prefix of it where a write failed, or nothing for want of memory
abbrev pub Tells : Option (List ℕ) → Option (List ℕ) → ℕ → ℕ → List ℕ → Type 0
Tells old new faults_old faults_new text = Gains old new text ⊎ ((GainsPrefix old new text × CountRose faults_old faults_new) ⊎ (new ≡ old))
