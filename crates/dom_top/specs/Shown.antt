-- What showing leaves, answer by answer.
use Rattle.std.specs.Prelude.{◌≢◌, ℕ, List}
use Rattle.dom_edge.specs.Causes.{CountRose}
use Rattle.dom_edge.specs.Text.{Gains, GainsPrefix}
use Rattle.dom_model.specs.Problem.{Problem}
use Rattle.fzn_print.specs.Canonical.{items_marks}
use Rattle.fzn_print.specs.Marks.{text_of}
use Rattle.fzn_print.specs.ReadBack.{ReadsBack}
use Rattle.fzn_syntax.specs.declared.items.Items.{Items}
use Rattle.dom_top.specs.declared.answer.Answer.{Answer}
use Rattle.dom_top.specs.declared.answer.Answer.TheVariants.{Best, Infeasible, Shown, ModelRefused, WordsRefused, ReadFault, WriteFault, NoMemory}
use Rattle.dom_top.specs.declared.fault.ModelFault.TheVariants.{NotBuilt}
use Rattle.dom_top.specs.Texts.{IsRead, IsFault}
use Rattle.dom_top.specs.Written.{Written, IsSilent}

-- the canonical text of items
abbrev pub canonical_text_of : Items → List ℕ
canonical_text_of items = text_of (items_marks items)

-- the canonical text was written, and is read back as these items
pub record IsCanonical (items : Items) (out : Written) : Type 0 where
  pub text : Gains out.old out.new (canonical_text_of items)
  pub back : ReadsBack items (canonical_text_of items)

-- a write failed, and a prefix of the canonical text was written
pub record IsCutShort (items : Items) (out : Written) : Type 0 where
  pub rose : CountRose out.faults_old out.faults_new
  pub cut : GainsPrefix out.old out.new (canonical_text_of items)

-- what showing items leaves
abbrev pub IsShown : Items → Written → Answer → Type 0
IsShown items out (Best values nodes nogoods) = ⊥
IsShown items out (Infeasible nodes nogoods) = ⊥
IsShown items out Shown = IsCanonical items out
IsShown items out (ModelRefused fault) = ⊥
IsShown items out WordsRefused = ⊥
IsShown items out ReadFault = ⊥
IsShown items out WriteFault = IsCutShort items out
IsShown items out NoMemory = IsSilent out

-- what showing a text leaves: its items are shown where it stands for a model, however wide
abbrev pub IsShownText : List ℕ → Written → Answer → Type 0
IsShownText text out (Best values nodes nogoods) = ⊥
IsShownText text out (Infeasible nodes nogoods) = ⊥
IsShownText text out Shown = (items : Items) × (p : Problem) × IsRead text items p × IsShown items out Shown
IsShownText text out (ModelRefused fault) = IsFault text fault × (fault ≢ NotBuilt) × IsSilent out
IsShownText text out WordsRefused = ⊥
IsShownText text out ReadFault = ⊥
IsShownText text out WriteFault = (items : Items) × (p : Problem) × IsRead text items p × IsShown items out WriteFault
IsShownText text out NoMemory = IsSilent out
