-- The answers of a run, and the number with which the program ends.
use Rattle.std.specs.Prelude.{ℕ}
use Rattle.dom_top.specs.declared.answer.Answer.{Answer}
use Rattle.dom_top.specs.declared.answer.Answer.TheVariants.{Best, Infeasible, Shown, ModelRefused, WordsRefused, ReadFault, WriteFault, NoMemory}

-- the exit code of an answer
abbrev pub code_of : Answer → ℕ
code_of (Best values nodes nogoods) = 0
code_of (Infeasible nodes nogoods) = 0
code_of Shown = 0
code_of (ModelRefused fault) = 2
code_of WordsRefused = 3
code_of ReadFault = 4
code_of WriteFault = 5
code_of NoMemory = 6

-- the answer comes before anything is written, and before room is made for that
abbrev pub IsEarly : Answer → Type 0
IsEarly (Best values nodes nogoods) = ⊥
IsEarly (Infeasible nodes nogoods) = ⊥
IsEarly Shown = ⊥
IsEarly (ModelRefused fault) = Unit {0}
IsEarly WordsRefused = Unit {0}
IsEarly ReadFault = Unit {0}
IsEarly WriteFault = ⊥
IsEarly NoMemory = ⊥
