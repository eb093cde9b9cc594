-- The words after the program's name, and what they ask for.
use Rattle.std.specs.Prelude.{◌≡◌, ◌≢◌, ℕ, List, [], ◌∷◌, Result, Ok, Err, codes, map, String, string_bytes}
use Rattle.std.specs.declared.alloc.Global.{Global}
use Rattle.dom_top.specs.declared.words.Command.{Command}
use Rattle.dom_top.specs.declared.words.Command.TheVariants.{Solve, Show}
use Rattle.dom_top.specs.declared.words.WordsError.{WordsError}
use Rattle.dom_top.specs.declared.words.WordsError.TheVariants.{Refused}

-- a word that stands for itself: it is not empty, and does not begin with '-'
abbrev pub IsPlain : List ℕ → Type 0
IsPlain [] = ⊥
IsPlain (first ∷ rest) = first ≢ 45

-- the words are this command and the name of a model
pub record Asks (command : List ℕ) (words : List (List ℕ)) (model : List ℕ) : Type 0 where
  pub words_are : words ≡ command ∷ model ∷ []
  pub plain : IsPlain model

-- the words ask to solve the model of this name
abbrev pub AsksSolve : List (List ℕ) → List ℕ → Type 0
AsksSolve words model = Asks (codes "solve") words model

-- the words ask to show the model of this name
abbrev pub AsksShow : List (List ℕ) → List ℕ → Type 0
AsksShow words model = Asks (codes "show") words model

-- the words ask for nothing
pub record AsksNothing (words : List (List ℕ)) : Type 0 where
  pub solves_nothing : (model : List ℕ) → AsksSolve words model → ⊥
  pub shows_nothing : (model : List ℕ) → AsksShow words model → ⊥

-- the words ask for this command, or for none
abbrev pub IsReading : List (List ℕ) → Result Command WordsError → Type 0
IsReading words (Ok (Solve model)) = AsksSolve words model.now
IsReading words (Ok (Show model)) = AsksShow words model.now
IsReading words (Err Refused) = AsksNothing words

-- the bytes of each word
abbrev pub bytes_of : List (String Global) → List (List ℕ)
bytes_of words = map string_bytes words
