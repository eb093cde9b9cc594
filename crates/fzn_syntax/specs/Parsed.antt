-- What parsing answers: the items, or the place where the words stop to begin any.
use Rattle.std.specs.Prelude.{◌≡◌, ℕ, List, [], ◌∷◌, Result, Ok, Err}
use Rattle.reading.specs.Places.{FailsAt}
use Rattle.fzn_words.specs.declared.word.Word.{Word}
use Rattle.fzn_syntax.specs.declared.error.SyntaxError.{SyntaxError}
use Rattle.fzn_syntax.specs.declared.error.SyntaxError.TheVariants.{Unexpected, Memory}
use Rattle.fzn_syntax.specs.declared.items.Items.{Items}
use Rattle.fzn_syntax.specs.Items.{AreItems}

-- the first byte of the first word, or the end of a text of this length
abbrev pub place_of : ℕ → List Word → ℕ
place_of len [] = len
place_of len (w ∷ ws) = w.at

-- the words up to this place begin items, and with the word there none; at the end of the text the words are no items, but begin some
pub record StopsAt (len : ℕ) (ws : List Word) (at : ℕ) : Type 0 where
  pub left : ℕ
  pub fails : FailsAt AreItems ws left
  pub place : at ≡ place_of len fails.rest

-- the words are these items; or they stop to begin any at this place of a text of this length
abbrev pub IsParsed : ℕ → List Word → Result Items SyntaxError → Type 0
IsParsed len ws (Ok items) = AreItems items ws
IsParsed len ws (Err (Unexpected at)) = StopsAt len ws at
IsParsed len ws (Err Memory) = Unit {0}

-- one list of words has one answer, want of memory aside
abbrev pub HasOneAnswer : Type 0
HasOneAnswer =
    (len : ℕ) (ws : List Word) (one other : Result Items SyntaxError) → IsParsed len ws one → IsParsed len ws other
    → (one ≡ Err Memory → ⊥) → (other ≡ Err Memory → ⊥) → one ≡ other
