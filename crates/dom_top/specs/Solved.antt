-- What solving leaves, answer by answer.
use Rattle.std.specs.Prelude.{◌≡◌, ◌⊎◌, ℕ, ℤ, true, List, codes}
use Rattle.dom_edge.specs.Causes.{CountRose}
use Rattle.dom_edge.specs.Text.{Gains, GainsPrefix}
use Rattle.dom_model.specs.Least.{IsFeasible, IsLeast}
use Rattle.dom_model.specs.Problem.{Problem}
use Rattle.dom_report.specs.Text.{answer_text_of}
use Rattle.dom_search.specs.Outcome.{AreNodes}
use Rattle.dom_top.specs.declared.answer.Answer.{Answer}
use Rattle.dom_top.specs.declared.answer.Answer.TheVariants.{Best, Infeasible, Shown, ModelRefused, WordsRefused, ReadFault, WriteFault, NoMemory}
use Rattle.dom_top.specs.Texts.{IsBuilt, IsFault}
use Rattle.dom_top.specs.Written.{Written, IsSilent}

-- no assignment is feasible
abbrev pub HasNone : Problem → Type 0
HasNone p = (a : List ℤ) → IsFeasible p a → ⊥

-- the line of a model without a feasible assignment
abbrev pub unsatisfiable_text : List ℕ
unsatisfiable_text = codes "=====UNSATISFIABLE=====\n"

-- the text that a complete search prints
abbrev pub IsAnswerText : Problem → List ℕ → Type 0
IsAnswerText p text =
    ((a : List ℤ) × IsLeast p a × (text ≡ answer_text_of p a true)) ⊎ (HasNone p × (text ≡ unsatisfiable_text))

-- the least assignment was found, and its text written
pub record IsBest (p : Problem) (out : Written) (values : List ℤ) (nodes nogoods : ℕ) : Type 0 where
  pub least : IsLeast p values
  pub text : Gains out.old out.new (answer_text_of p values true)
  pub counted : AreNodes p nodes
  pub no_nogoods : nogoods ≡ 0

-- no assignment is feasible, and the text says so
pub record IsInfeasible (p : Problem) (out : Written) (nodes nogoods : ℕ) : Type 0 where
  pub none : HasNone p
  pub text : Gains out.old out.new unsatisfiable_text
  pub counted : AreNodes p nodes
  pub no_nogoods : nogoods ≡ 0

-- a write failed, and a prefix of the text was written
pub record IsWriteFault (p : Problem) (out : Written) : Type 0 where
  pub rose : CountRose out.faults_old out.faults_new
  pub text : List ℕ
  pub is : IsAnswerText p text
  pub cut : GainsPrefix out.old out.new text

-- what solving a model leaves
abbrev pub IsSolved : Problem → Written → Answer → Type 0
IsSolved p out (Best values nodes nogoods) = IsBest p out values nodes nogoods
IsSolved p out (Infeasible nodes nogoods) = IsInfeasible p out nodes nogoods
IsSolved p out Shown = ⊥
IsSolved p out (ModelRefused fault) = ⊥
IsSolved p out WordsRefused = ⊥
IsSolved p out ReadFault = ⊥
IsSolved p out WriteFault = IsWriteFault p out
IsSolved p out NoMemory = IsSilent out

-- what solving the model of a text leaves
abbrev pub IsSolvedText : List ℕ → Written → Answer → Type 0
IsSolvedText text out (Best values nodes nogoods) = (p : Problem) × IsBuilt text p × IsSolved p out (Best values nodes nogoods)
IsSolvedText text out (Infeasible nodes nogoods) = (p : Problem) × IsBuilt text p × IsSolved p out (Infeasible nodes nogoods)
IsSolvedText text out Shown = ⊥
IsSolvedText text out (ModelRefused fault) = IsFault text fault × IsSilent out
IsSolvedText text out WordsRefused = ⊥
IsSolvedText text out ReadFault = ⊥
IsSolvedText text out WriteFault = (p : Problem) × IsBuilt text p × IsSolved p out WriteFault
IsSolvedText text out NoMemory = IsSilent out
