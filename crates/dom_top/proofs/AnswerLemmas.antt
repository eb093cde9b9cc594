-- What a command leaves of the text that was read, it leaves of the file.
use Rattle.std.proofs.Common.{◌≡◌, ℕ, ◌<◌, List, take, subst}
use Rattle.dom_edge.specs.File.{IsMissing, Holds}
use Rattle.dom_top.specs.declared.answer.Answer.{Answer}
use Rattle.dom_top.specs.declared.answer.Answer.TheVariants.{Best, Infeasible, Shown, ModelRefused, WordsRefused, ReadFault, WriteFault, NoMemory}
use Rattle.dom_top.specs.Right.{Course, HasFile, IsAnswered, most_read}
use Rattle.dom_top.specs.Shown.{IsShownText}
use Rattle.dom_top.specs.Solved.{IsSolvedText}
use Rattle.dom_top.specs.Written.{Written}
use Rattle.dom_top.proofs.FileLemmas.{has_file, fault_file}

solved_file : (limit : ℕ) → 16777216 < limit → (text file : List ℕ) → text ≡ take limit file → (out : Written) (answer : Answer)
    → IsSolvedText text out answer → IsSolvedText file out answer
solved_file limit above text file is out (Best values nodes nogoods) s =
    has_file limit above text file is (λ t. IsSolvedText t out (Best values nodes nogoods)) s.1.stands.items s.1.stands.read.has s
solved_file limit above text file is out (Infeasible nodes nogoods) s =
    has_file limit above text file is (λ t. IsSolvedText t out (Infeasible nodes nogoods)) s.1.stands.items s.1.stands.read.has s
solved_file limit above text file is out Shown s = absurd s
solved_file limit above text file is out (ModelRefused fault) s = (fault_file limit above text file is fault s.0, s.1)
solved_file limit above text file is out WordsRefused s = absurd s
solved_file limit above text file is out ReadFault s = absurd s
solved_file limit above text file is out WriteFault s =
    has_file limit above text file is (λ t. IsSolvedText t out WriteFault) s.1.stands.items s.1.stands.read.has s
solved_file limit above text file is out NoMemory s = s

shown_file : (limit : ℕ) → 16777216 < limit → (text file : List ℕ) → text ≡ take limit file → (out : Written) (answer : Answer)
    → IsShownText text out answer → IsShownText file out answer
shown_file limit above text file is out (Best values nodes nogoods) s = absurd s
shown_file limit above text file is out (Infeasible nodes nogoods) s = absurd s
shown_file limit above text file is out Shown s = has_file limit above text file is (λ t. IsShownText t out Shown) s.0 s.2.has s
shown_file limit above text file is out (ModelRefused fault) s = (fault_file limit above text file is fault s.0, s.1, s.2)
shown_file limit above text file is out WordsRefused s = absurd s
shown_file limit above text file is out ReadFault s = absurd s
shown_file limit above text file is out WriteFault s = has_file limit above text file is (λ t. IsShownText t out WriteFault) s.0 s.2.has s
shown_file limit above text file is out NoMemory s = s

module _ (c : Course) (model text : List ℕ) (limit : ℕ) (above : 16777216 < limit) (present : IsMissing (c.told model) → ⊥) (is : (file : List ℕ) → Holds (c.told model) file → text ≡ take limit file) (most : limit ≡ most_read) where
  far_of : (file : List ℕ) → Holds (c.told model) file → text ≡ take most_read file
  far_of file holds = subst (λ n. text ≡ take n file) most (is file holds)

  solved_of : (answer : Answer) → IsSolvedText text c.out answer → HasFile c model (λ t. IsSolvedText t c.out answer)
  solved_of answer s =
      record { present = present; text = text; read = s; far = far_of; file = λ file holds. solved_file limit above text file (is file holds) c.out answer s }

  shown_of : (answer : Answer) → IsShownText text c.out answer → HasFile c model (λ t. IsShownText t c.out answer)
  shown_of answer s =
      record { present = present; text = text; read = s; far = far_of; file = λ file holds. shown_file limit above text file (is file holds) c.out answer s }

  pub solve_answered : (answer : Answer) → IsSolvedText text c.out answer → IsAnswered IsSolvedText c model answer
  solve_answered (Best values nodes nogoods) s = solved_of (Best values nodes nogoods) s
  solve_answered (Infeasible nodes nogoods) s = solved_of (Infeasible nodes nogoods) s
  solve_answered Shown s = absurd s
  solve_answered (ModelRefused fault) s = (solved_of (ModelRefused fault) s, s.1)
  solve_answered WordsRefused s = s
  solve_answered ReadFault s = absurd s
  solve_answered WriteFault s = (solved_of WriteFault s, s.2.rose)
  solve_answered NoMemory s = s

  pub show_answered : (answer : Answer) → IsShownText text c.out answer → IsAnswered IsShownText c model answer
  show_answered (Best values nodes nogoods) s = absurd s
  show_answered (Infeasible nodes nogoods) s = absurd s
  show_answered Shown s = shown_of Shown s
  show_answered (ModelRefused fault) s = (shown_of (ModelRefused fault) s, s.2)
  show_answered WordsRefused s = s
  show_answered ReadFault s = absurd s
  show_answered WriteFault s = (shown_of WriteFault s, s.3.rose)
  show_answered NoMemory s = s
