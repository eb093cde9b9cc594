-- What comes of reading a text.
use Rattle.std.specs.Prelude.{◌≢◌, ℕ, List, Result, Ok, Err}
use Rattle.fzn_syntax.specs.declared.items.Items.{Items}
use Rattle.dom_top.specs.declared.fault.ModelFault.TheVariants.{NotBuilt}
use Rattle.dom_top.specs.declared.texts.Reading.{Reading}
use Rattle.dom_top.specs.declared.texts.ReadingError.{ReadingError}
use Rattle.dom_top.specs.declared.texts.ReadingError.TheVariants.{Fault, Memory}
use Rattle.dom_top.specs.Texts.{HasItems, IsRead, IsFault}

-- the first fault of the text, which is none of its model; or want of memory
abbrev pub IsNotRead : List ℕ → ReadingError → Type 0
IsNotRead text (Fault fault) = IsFault text fault × (fault ≢ NotBuilt)
IsNotRead text Memory = Unit {0}

-- the items of the text
abbrev pub IsItemsOf : List ℕ → Result Items ReadingError → Type 0
IsItemsOf text (Ok items) = HasItems text items
IsItemsOf text (Err error) = IsNotRead text error

-- the items and the model of the text
abbrev pub IsReadingOf : List ℕ → Result Reading ReadingError → Type 0
IsReadingOf text (Ok reading) = IsRead text reading.items reading.model
IsReadingOf text (Err error) = IsNotRead text error
