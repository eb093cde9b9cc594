-- What the steps answer between the words and the index sets.
use Rattle.std.specs.Prelude.{◌≤◌, List, length}
use Rattle.fzn_words.specs.declared.word.Word.{Word}
use Rattle.dom_index_sets.specs.declared.index_set.IndexSet.{IndexSet}
use Rattle.fzn_output_marks.specs.declared.literal.SetLiteral.{SetLiteral}
use Rattle.fzn_output_marks.specs.Sets.{IsArgument, CountsAs, CountAs, AreIndexSets}

-- the words are no list of set literals
abbrev pub IsUnread : List Word → Type 0
IsUnread ws = (ls : List SetLiteral) → IsArgument ls ws → ⊥

-- the words give no index sets
abbrev pub HasNoSets : List Word → Type 0
HasNoSets ws = (sets : List IndexSet) → AreIndexSets ws sets → ⊥

-- the literal counts as no range
abbrev pub IsNotSet : SetLiteral → Type 0
IsNotSet l = (s : IndexSet) → CountsAs l s → ⊥

-- the literals count as these ranges, which are few enough
abbrev pub CountAsFew : List SetLiteral → List IndexSet → Type 0
CountAsFew ls sets = CountAs ls sets × (length sets ≤ 6)

-- the literals count as no ranges, or as too many
abbrev pub HasNoEnds : List SetLiteral → Type 0
HasNoEnds ls = (sets : List IndexSet) → CountAsFew ls sets → ⊥
