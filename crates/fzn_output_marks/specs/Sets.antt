-- The index sets that an annotation gives: the grammar of its argument, and what each set counts as.
use Rattle.std.specs.Prelude.{◌≡◌, ◌↔◌, ◌≤◌, ℕ, List, [], ◌∷◌, length, ℤ, ◌≤ℤ◌, Option, Some, None}
use Rattle.std.specs.List.{Contains}
use Rattle.reading.specs.Language.{◌⨾◌, Listed, MaybeListed}
use Rattle.fzn_words.specs.declared.terminal.Terminal.TheVariants as terminals
use Rattle.fzn_words.specs.declared.word.Word.{Word}
use Rattle.fzn_syntax.specs.declared.annotation.Annotation.{Annotation}
use Rattle.fzn_syntax.specs.Grammar.{Sign, IsInt}
use Rattle.dom_index_sets.specs.declared.index_set.IndexSet.{IndexSet}
use Rattle.fzn_output_marks.specs.declared.literal.SetLiteral.{SetLiteral}
use Rattle.fzn_output_marks.specs.declared.literal.SetLiteral.TheVariants as literals
use Rattle.dom_index_sets.specs.Sizes.{product_of}

-- Int '..' Int | '{' [Int {',' Int}*] '}'
abbrev pub IsSetLiteral : SetLiteral → List Word → Type 0
IsSetLiteral (literals.Range s) = IsInt s.lo ⨾ Sign terminals.DotDot ⨾ IsInt s.hi
IsSetLiteral (literals.Set ns) = Sign terminals.LeftBrace ⨾ MaybeListed (Sign terminals.Comma) IsInt ns ⨾ Sign terminals.RightBrace

-- '(' '[' set {',' set}* ']' ')'
abbrev pub IsArgument : List SetLiteral → List Word → Type 0
IsArgument ls = Sign terminals.LeftParen ⨾ Sign terminals.LeftBracket ⨾ Listed (Sign terminals.Comma) IsSetLiteral ls ⨾ Sign terminals.RightBracket ⨾ Sign terminals.RightParen

-- these are the integers from one end to the other, one at least
abbrev pub IsWhole : List ℤ → IndexSet → Type 0
IsWhole ns s = (s.lo ≤ℤ s.hi) × ((n : ℤ) → Contains ns n ↔ ((s.lo ≤ℤ n) × (n ≤ℤ s.hi)))

-- a range has its ends as written; a set counts as a range where it has a value and no gap
abbrev pub CountsAs : SetLiteral → IndexSet → Type 0
CountsAs (literals.Range r) s = s ≡ r
CountsAs (literals.Set ns) s = IsWhole ns s

-- each literal counts as the range at its place
abbrev pub CountAs : List SetLiteral → List IndexSet → Type 0
CountAs [] [] = Unit {0}
CountAs (l ∷ ls) (s ∷ ss) = CountsAs l s × CountAs ls ss
CountAs _ _ = ⊥

-- the words are one list of one to six set literals, which count as these ranges
pub record AreIndexSets (words : List Word) (sets : List IndexSet) : Type 0 where
  pub literals : List SetLiteral
  pub written : IsArgument literals words
  pub ends : CountAs literals sets
  pub few : length sets ≤ 6

-- the arguments are there and give these index sets
abbrev pub GiveIndexSets : Option (List Word) → List IndexSet → Type 0
GiveIndexSets (Some words) sets = AreIndexSets words sets
GiveIndexSets None sets = ⊥

-- the annotation's arguments give these index sets
abbrev pub HasIndexSets : Annotation → List IndexSet → Type 0
HasIndexSets a sets = GiveIndexSets a.arguments sets

-- the annotation's arguments give no index sets
abbrev pub HasNoIndexSets : Annotation → Type 0
HasNoIndexSets a = (sets : List IndexSet) → HasIndexSets a sets → ⊥

-- the annotation's arguments give index sets whose sizes multiplied are this length
abbrev pub HasRightSets : Annotation → ℕ → Type 0
HasRightSets a length = (sets : List IndexSet) × HasIndexSets a sets × (product_of sets ≡ length)
