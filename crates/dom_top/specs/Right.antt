-- When each answer of a run comes, and what stands after it.
use Rattle.std.specs.Prelude.{◌≡◌, ◌⊎◌, ℕ, List, take, Option}
use Rattle.dom_edge.specs.Causes.{CountRose}
use Rattle.dom_edge.specs.File.{IsMissing, Holds}
use Rattle.dom_top.specs.declared.answer.Answer.{Answer}
use Rattle.dom_top.specs.declared.answer.Answer.TheVariants.{Best, Infeasible, Shown, ModelRefused, WordsRefused, ReadFault, WriteFault, NoMemory}
use Rattle.dom_top.specs.Shown.{IsShownText}
use Rattle.dom_top.specs.Solved.{IsSolvedText}
use Rattle.dom_top.specs.Words.{AsksSolve, AsksShow, AsksNothing}
use Rattle.dom_top.specs.Written.{Written, IsSilent}

-- what a run sees of the folder, and what it leaves
pub record Course : Type 0 where
  pub told : List ℕ → Option (Option (List ℕ))
  pub reads_old : ℕ
  pub reads_new : ℕ
  pub out : Written

-- a course by its parts
abbrev pub course : (List ℕ → Option (Option (List ℕ))) → ℕ → ℕ → Written → Course
course told reads_old reads_new out = record { told = told; reads_old = reads_old; reads_new = reads_new; out = out }

-- how many bytes of a file are read at most: one more than a text may have
abbrev pub most_read : ℕ
most_read = 16777217

-- the file is there, and the fact holds of the text that was read, and of the file's bytes where they are told; these were read to
-- their end, or up to the most that is read
pub record HasFile (c : Course) (model : List ℕ) (P : List ℕ → Type 0) : Type 0 where
  pub present : IsMissing (c.told model) → ⊥
  pub text : List ℕ
  pub read : P text
  pub far : (bytes : List ℕ) → Holds (c.told model) bytes → text ≡ take most_read bytes
  pub file : (bytes : List ℕ) → Holds (c.told model) bytes → P bytes

-- when each answer comes to a command over the model of this name, which leaves so much of a text
abbrev pub IsAnswered : (List ℕ → Written → Answer → Type 0) → Course → List ℕ → Answer → Type 0
IsAnswered Leaves c model (Best values nodes nogoods) = HasFile c model (λ text. Leaves text c.out (Best values nodes nogoods))
IsAnswered Leaves c model (Infeasible nodes nogoods) = HasFile c model (λ text. Leaves text c.out (Infeasible nodes nogoods))
IsAnswered Leaves c model Shown = HasFile c model (λ text. Leaves text c.out Shown)
IsAnswered Leaves c model (ModelRefused fault) = HasFile c model (λ text. Leaves text c.out (ModelRefused fault)) × IsSilent c.out
IsAnswered Leaves c model WordsRefused = ⊥
IsAnswered Leaves c model ReadFault = CountRose c.reads_old c.reads_new × IsSilent c.out
IsAnswered Leaves c model WriteFault = HasFile c model (λ text. Leaves text c.out WriteFault) × CountRose c.out.faults_old c.out.faults_new
IsAnswered Leaves c model NoMemory = IsSilent c.out

-- the words ask to solve a model, and this is the answer
abbrev pub AskedToSolve : List (List ℕ) → Course → Answer → Type 0
AskedToSolve words c answer = (model : List ℕ) × AsksSolve words model × IsAnswered IsSolvedText c model answer

-- the words ask to show a model, and this is the answer
abbrev pub AskedToShow : List (List ℕ) → Course → Answer → Type 0
AskedToShow words c answer = (model : List ℕ) × AsksShow words model × IsAnswered IsShownText c model answer

-- the words ask for one of the two, and this is the answer
abbrev pub Asked : List (List ℕ) → Course → Answer → Type 0
Asked words c answer = AskedToSolve words c answer ⊎ AskedToShow words c answer

-- when each answer comes, and what stands after it
abbrev pub IsRight : List (List ℕ) → Course → Answer → Type 0
IsRight words c (Best values nodes nogoods) = AskedToSolve words c (Best values nodes nogoods)
IsRight words c (Infeasible nodes nogoods) = AskedToSolve words c (Infeasible nodes nogoods)
IsRight words c Shown = AskedToShow words c Shown
IsRight words c (ModelRefused fault) = Asked words c (ModelRefused fault)
IsRight words c WordsRefused = AsksNothing words × (c.reads_new ≡ c.reads_old) × IsSilent c.out
IsRight words c ReadFault = Asked words c ReadFault
IsRight words c WriteFault = Asked words c WriteFault
IsRight words c NoMemory = Asked words c NoMemory
