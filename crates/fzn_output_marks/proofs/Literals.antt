-- The readers of set literals read their languages.
use Rattle.std.proofs.Common.{◌≡◌, ℕ, ℤ, Bool, true, false, ◌||◌, ◌==◌, List, ◌++◌, Some, ◌⊎◌, inl, inr, refl}
use Rattle.reading.specs.Language.{◌⨾◌, Listed, MaybeListed}
use Rattle.reading.specs.Readers.{begins, none}
use Rattle.reading.proofs.Laws.{Reads}
use Rattle.reading.proofs.Joins.{Both, pair_reads, then_reads, made_reads}
use Rattle.reading.proofs.Loops.{Loops}
use Rattle.reading.proofs.Lists.{behind_loops, listed_reads, maybe_listed_reads}
use Rattle.fzn_lex.specs.declared.words.What.{What}
use Rattle.fzn_lex.specs.declared.words.What.TheVariants as what
use Rattle.fzn_words.specs.declared.terminal.Terminal.TheVariants as terminals
use Rattle.fzn_words.specs.declared.word.Word.{Word}
use Rattle.fzn_words.specs.Words.{code, terminal_by, is, int_of}
use Rattle.fzn_syntax.specs.Grammar.{Sign, IsInt}
use Rattle.fzn_syntax.specs.Reading.{sign_at, int_at}
use Rattle.fzn_syntax.proofs.Choices.{sure_choice_reads}
use Rattle.fzn_syntax.proofs.Firsts.{sign_reads, int_reads, leads, sign_first, front_first, comma_starts}
use Rattle.dom_index_sets.specs.declared.index_set.IndexSet.{IndexSet}
use Rattle.fzn_output_marks.specs.declared.literal.SetLiteral.{SetLiteral}
use Rattle.fzn_output_marks.specs.declared.literal.SetLiteral.TheVariants as literals
use Rattle.fzn_output_marks.specs.Reading.{range_at, more_ints_at, ints_at, some_ints_at, set_at, literal_at, more_literals_at, literals_at, argument_at}
use Rattle.fzn_output_marks.specs.Sets.{IsSetLiteral, IsArgument}

-- ---- the first word

int_code : (test : ℕ → Bool) (b : Bool) → test 3 ≡ b → (w : What) (text : List ℕ) (z : ℤ) → int_of w ≡ Some z → test (code (terminal_by w text)) ≡ b
unfolding terminal_by
int_code test b passes (what.Int z) text y e = passes
int_code test b passes _ text y e = absurd cc

int_first : (test : ℕ → Bool) (b : Bool) → test 3 ≡ b → (z : ℤ) (used rest : List Word) → IsInt z used → begins (leads test) (used ++ rest) ≡ b
int_first test b passes z used rest d = rw d.2 (int_code test b passes d.0.what d.0.text z d.1)

-- ---- ranges

abbrev pub IsRange : IndexSet → List Word → Type 0
IsRange s = IsInt s.lo ⨾ Sign terminals.DotDot ⨾ IsInt s.hi

range_reads : Reads IsRange none range_at
unfolding range_at
range_reads =
    made_reads (Both IsInt (Both (λ (_ : Unit {0}). Sign terminals.DotDot) IsInt)) IsRange none _ _
    (then_reads _ _ none _ _ int_reads (then_reads _ _ none _ _ (sign_reads terminals.DotDot) int_reads))
    (λ p ws d. d) (λ s ws d. ((s.lo, (tt, s.hi)), refl, d))

-- ---- sets

abbrev pub IsMoreInt : ℤ → List Word → Type 0
IsMoreInt z = Sign terminals.Comma ⨾ IsInt z

pub ints_loops : Loops IsMoreInt none (is terminals.Comma) more_ints_at
ints_loops = behind_loops (Sign terminals.Comma) (is terminals.Comma) (sign_at terminals.Comma) (sign_reads terminals.Comma) comma_starts IsInt none int_at int_reads (λ w e. refl)

-- what a list of integers may go on with
abbrev on_ints : ℕ → Bool
on_ints n = (n == 3) || ((n == 10) || false)

some_ints_reads : Reads (MaybeListed (Sign terminals.Comma) IsInt) (leads on_ints) some_ints_at
unfolding some_ints_at ints_at
some_ints_reads =
    maybe_listed_reads (Sign terminals.Comma) (is terminals.Comma) (sign_at terminals.Comma) (sign_reads terminals.Comma) comma_starts IsInt none int_at int_reads (λ w e. refl)
    (is terminals.Int) (λ z used rest d. int_first (λ n. n == 3) true refl z used rest d)

abbrev pub IsSet : List ℤ → List Word → Type 0
IsSet ns = Sign terminals.LeftBrace ⨾ MaybeListed (Sign terminals.Comma) IsInt ns ⨾ Sign terminals.RightBrace

set_reads : Reads IsSet none set_at
unfolding set_at
set_reads =
    made_reads (Both (λ (_ : Unit {0}). Sign terminals.LeftBrace) (Both (MaybeListed (Sign terminals.Comma) IsInt) (λ (_ : Unit {0}). Sign terminals.RightBrace))) IsSet none (λ p. p.1.0) _
    (then_reads _ _ none _ _ (sign_reads terminals.LeftBrace)
    (pair_reads _ _ (leads on_ints) none _ _ some_ints_reads (sign_reads terminals.RightBrace) (λ y used rest d stops. sign_first on_ints false terminals.RightBrace refl used rest d)))
    (λ p ws d. d) (λ ns ws d. ((tt, (ns, tt)), refl, d))

set_first : (test : ℕ → Bool) (b : Bool) → test 8 ≡ b → (ns : List ℤ) (used rest : List Word) → IsSet ns used → begins (leads test) (used ++ rest) ≡ b
set_first test b passes ns used rest d = front_first (leads test) b (Sign terminals.LeftBrace) _ (sign_first test b terminals.LeftBrace passes) used rest d

-- ---- set literals

-- a range, and no set
abbrev IsRangeAlone : SetLiteral → List Word → Type 0
IsRangeAlone (literals.Range s) ws = IsRange s ws
IsRangeAlone (literals.Set ns) ws = ⊥

range_alone : (l : SetLiteral) (ws : List Word) → IsRangeAlone l ws → (s : IndexSet) × (literals.Range s ≡ l) × IsRange s ws
range_alone (literals.Range s) ws d = (s, refl, d)
range_alone (literals.Set ns) ws d = absurd d

range_alone_first : (test : ℕ → Bool) (b : Bool) → test 3 ≡ b → (l : SetLiteral) (used rest : List Word) → IsRangeAlone l used → begins (leads test) (used ++ rest) ≡ b
range_alone_first test b passes (literals.Range s) used rest d = front_first (leads test) b (IsInt s.lo) _ (int_first test b passes s.lo) used rest d
range_alone_first test b passes (literals.Set ns) used rest d = absurd d

range_in : (l : SetLiteral) (ws : List Word) → IsRangeAlone l ws → IsSetLiteral l ws
range_in (literals.Range s) ws d = d
range_in (literals.Set ns) ws d = absurd d

literal_cases : (l : SetLiteral) (ws : List Word) → IsSetLiteral l ws → ((ns : List ℤ) × (literals.Set ns ≡ l) × IsSet ns ws) ⊎ IsRangeAlone l ws
literal_cases (literals.Range s) ws d = inr d
literal_cases (literals.Set ns) ws d = inl (ns, refl, d)

literal_reads : Reads IsSetLiteral none literal_at
unfolding literal_at
literal_reads =
    sure_choice_reads IsSet IsRangeAlone IsSetLiteral none (is terminals.LeftBrace) (λ ns. literals.Set ns) set_at _ set_reads
    (made_reads IsRange IsRangeAlone none (λ s. literals.Range s) range_at range_reads (λ s ws d. d) range_alone)
    (λ ns used rest d. set_first (λ n. n == 8) true refl ns used rest d)
    (λ l used rest d stops. range_alone_first (λ n. n == 8) false refl l used rest d) (λ ns ws d. d) range_in literal_cases

-- ---- lists of set literals

abbrev pub IsMoreLiteral : SetLiteral → List Word → Type 0
IsMoreLiteral l = Sign terminals.Comma ⨾ IsSetLiteral l

pub literals_loops : Loops IsMoreLiteral none (is terminals.Comma) more_literals_at
literals_loops =
    behind_loops (Sign terminals.Comma) (is terminals.Comma) (sign_at terminals.Comma) (sign_reads terminals.Comma) comma_starts IsSetLiteral none literal_at literal_reads (λ w e. refl)

-- what a list of literals may go on with
abbrev on_literals : ℕ → Bool
on_literals n = (n == 10) || false

literals_reads : Reads (Listed (Sign terminals.Comma) IsSetLiteral) (leads on_literals) literals_at
unfolding literals_at
literals_reads =
    listed_reads (Sign terminals.Comma) (is terminals.Comma) (sign_at terminals.Comma) (sign_reads terminals.Comma) comma_starts IsSetLiteral none literal_at literal_reads (λ w e. refl)

pub argument_reads : Reads IsArgument none argument_at
unfolding argument_at
argument_reads =
    made_reads
    (Both (λ (_ : Unit {0}). Sign terminals.LeftParen) (Both (λ (_ : Unit {0}). Sign terminals.LeftBracket)
    (Both (Listed (Sign terminals.Comma) IsSetLiteral) (Both (λ (_ : Unit {0}). Sign terminals.RightBracket) (λ (_ : Unit {0}). Sign terminals.RightParen)))))
    IsArgument none (λ p. p.1.1.0) _
    (then_reads _ _ none _ _ (sign_reads terminals.LeftParen) (then_reads _ _ none _ _ (sign_reads terminals.LeftBracket)
    (pair_reads _ _ (leads on_literals) none _ _ literals_reads (then_reads _ _ none _ _ (sign_reads terminals.RightBracket) (sign_reads terminals.RightParen))
    (λ y used rest d stops. front_first (leads on_literals) false (Sign terminals.RightBracket) _ (sign_first on_literals false terminals.RightBracket refl) used rest d))))
    (λ p ws d. d) (λ ls ws d. ((tt, (tt, (ls, (tt, tt)))), refl, d))
