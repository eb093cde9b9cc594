-- What set literals count as, and what the words of an argument spell.
use Rattle.std.proofs.Common.{◌≡◌, ◌↔◌, ◌≤ℤ◌, ◌==◌, Bool, true, false, ℕ, zero, suc, ◌<◌, List, [], ◌∷◌, ◌++◌, length, get_or, ℤ, Option, Some, None, Result, Ok, Err, refl, sym, ap, ◌∙◌, subst, arith}
use Rattle.std.specs.Option.{MatchOption}
use Rattle.std.specs.Result.{IfOk}
use Rattle.std.proofs.lemmas.List.{append-nil, nil_from_length}
use Rattle.std.proofs.lemmas.Bool.{eqb-true}
use Rattle.std.proofs.lemmas.Int.{ints}
use Rattle.fzn_syntax.specs.declared.annotation.Annotation.{Annotation}
use Rattle.reading.proofs.Laws.{okay_is, never_both, stops_none}
use Rattle.reading.specs.Readers.{none}
use Rattle.fzn_words.specs.declared.word.Word.{Word}
use Rattle.dom_index_sets.specs.declared.index_set.IndexSet.{IndexSet}
use Rattle.fzn_output_marks.specs.declared.literal.SetLiteral.{SetLiteral}
use Rattle.fzn_output_marks.specs.declared.literal.SetLiteral.TheVariants as literals
use Rattle.fzn_output_marks.specs.Gaps.{IsNotWhole}
use Rattle.fzn_output_marks.specs.Reading.{argument_at}
use Rattle.fzn_output_marks.specs.Answers.{IsUnread, HasNoSets, IsNotSet, CountAsFew, HasNoEnds}
use Rattle.fzn_output_marks.specs.Sets.{IsArgument, IsWhole, CountsAs, CountAs, AreIndexSets, GiveIndexSets, HasIndexSets, HasNoIndexSets, HasRightSets}
use Rattle.dom_index_sets.specs.Sizes.{product_of}
use Rattle.fzn_output_marks.proofs.Literals.{argument_reads}

-- ---- the words

-- the reader answers nothing else where the words spell an argument
spelled : (ws : List Word) (ls : List SetLiteral) → IsArgument ls ws → argument_at ws ≡ Ok (ls, [])
spelled ws ls d = ap argument_at (sym (append-nil ws)) ∙ argument_reads.takes ls ws [] d (stops_none {S = Word} [])

argument_read : (ws : List Word) (ls : List SetLiteral) (rest : List Word) → argument_at ws ≡ Ok (ls, rest) → rest ≡ [] → IsArgument ls ws
argument_read ws ls rest e end =
    let t = argument_reads.took ws ls rest e in
    let all : ws ≡ t.used = t.parts ∙ ap (λ (r : List Word). t.used ++ r) end ∙ append-nil t.used in
    subst (IsArgument ls) (sym all) t.fits

none_left : (rest : List Word) (b : Bool) → b ≡ (length rest == 0) → b ≡ true → rest ≡ []
none_left rest b e is = nil_from_length rest (eqb-true (length rest) 0 (sym e ∙ is))

-- the reader is at the end where nothing is left
pub end_told : (ws : List Word) (ls : List SetLiteral) (rest : List Word) (b : Bool) → argument_at ws ≡ Ok (ls, rest) → b ≡ (length rest == 0) → b ≡ true → IsArgument ls ws
end_told ws ls rest b e test is = argument_read ws ls rest e (none_left rest b test is)

more_behind : (ws : List Word) (ls : List SetLiteral) (rest : List Word) → argument_at ws ≡ Ok (ls, rest) → (rest ≡ [] → ⊥) → IsUnread ws
more_behind ws ls rest e more other d =
    more (ap (λ (q : List SetLiteral × List Word). q.1) (okay_is (ls, rest) (other, []) (sym e ∙ spelled ws other d)))

pub more_told : (ws : List Word) (ls : List SetLiteral) (rest : List Word) (b : Bool) → argument_at ws ≡ Ok (ls, rest) → b ≡ (length rest == 0) → b ≡ false → IsUnread ws
more_told ws ls rest b e test is = more_behind ws ls rest e (λ end. let f : b ≡ true = test ∙ ap (λ (r : List Word). length r == 0) end in absurd cc)

pub argument_stuck : (ws : List Word) (left : ℕ) → argument_at ws ≡ Err left → IsUnread ws
argument_stuck ws left e other d = never_both (other, []) left (argument_at ws) (spelled ws other d) e

pub one_argument : (ws : List Word) (one other : List SetLiteral) → IsArgument one ws → IsArgument other ws → one ≡ other
one_argument ws one other d e = ap (λ (q : List SetLiteral × List Word). q.0) (okay_is (one, []) (other, []) (sym (spelled ws one d) ∙ spelled ws other e))

-- ---- what literals count as

pub set_told : (l : SetLiteral) (vs ns : List ℤ) (r : Option IndexSet) → l ≡ literals.Set vs → ns ≡ vs → MatchOption r (IsNotWhole ns) (IsWhole ns) → MatchOption r (IsNotSet l) (CountsAs l)
set_told l vs ns r is same h =
    subst (λ (m : SetLiteral). MatchOption r (IsNotSet m) (CountsAs m)) (sym is) (subst (λ (xs : List ℤ). MatchOption r (IsNotWhole xs) (IsWhole xs)) same h)

pub count_length : (ls : List SetLiteral) (sets : List IndexSet) → CountAs ls sets → length sets ≡ length ls
count_length [] [] h = refl
count_length [] (s ∷ sets) h = absurd h
count_length (l ∷ ls) [] h = absurd h
count_length (l ∷ ls) (s ∷ sets) h = ap suc (count_length ls sets h.1)

pub count_push : (ls : List SetLiteral) (sets : List IndexSet) (l : SetLiteral) (s : IndexSet) → CountAs ls sets → CountsAs l s → CountAs (ls ++ l ∷ []) (sets ++ s ∷ [])
count_push [] [] l s h new = (new, tt)
count_push [] (r ∷ sets) l s h new = absurd h
count_push (k ∷ ls) [] l s h new = absurd h
count_push (k ∷ ls) (r ∷ sets) l s h new = (h.0, count_push ls sets l s h.1 new)

-- one that counts as no range is enough
pub none_counts : (ls : List SetLiteral) (i : ℕ) (l : SetLiteral) → i < length ls → l ≡ get_or ls i l → IsNotSet l → HasNoEnds ls
none_counts [] i l lt is wrong sets h = absurd (omega arith)
none_counts (k ∷ ls) zero l lt is wrong [] h = absurd h.0
none_counts (k ∷ ls) zero l lt is wrong (s ∷ sets) h = wrong s (subst (λ (m : SetLiteral). CountsAs m s) (sym is) h.0.0)
none_counts (k ∷ ls) (suc i) l lt is wrong [] h = absurd h.0
none_counts (k ∷ ls) (suc i) l lt is wrong (s ∷ sets) h = none_counts ls i l (omega arith) is wrong sets (h.0.1, omega (arith, h.1))

pub too_many : (ls : List SetLiteral) → 6 < length ls → HasNoEnds ls
too_many ls many sets h = absurd (omega (arith, h.1, count_length ls sets h.0))

-- ---- the answer

read_told : (ws : List Word) (ls : List SetLiteral) (r : Option (List IndexSet)) → IsArgument ls ws → MatchOption r (HasNoEnds ls) (CountAsFew ls) → MatchOption r (HasNoSets ws) (AreIndexSets ws)
read_told ws ls (Some sets) d h = record { literals = ls; written = d; ends = h.0; few = h.1 }
read_told ws ls None d h = λ sets are. h sets (subst (λ (ms : List SetLiteral). CountAs ms sets) (one_argument ws are.literals ls are.written d) are.ends, are.few)

pub unread_none : (ws : List Word) → IsUnread ws → HasNoSets ws
unread_none ws unread sets are = unread are.literals are.written

pub all_told : {E : Type 0} (ws : List Word) (ls : List SetLiteral) (r : Result (Option (List IndexSet)) E) → IsArgument ls ws
    → IfOk r (λ found. MatchOption found (HasNoEnds ls) (CountAsFew ls)) → IfOk r (λ found. MatchOption found (HasNoSets ws) (AreIndexSets ws))
all_told ws ls (Ok found) d h = read_told ws ls found d h
all_told ws ls (Err e) d h = tt

-- ---- one answer

same_ends : (s t : IndexSet) → s.lo ≡ t.lo → s.hi ≡ t.hi → s ≡ t
same_ends s t lo hi =
    let low : s ≡ record { lo = t.lo; hi = s.hi } = ap (λ x. record { lo = x; hi = s.hi }) lo in
    let high : record { lo = t.lo; hi = s.hi } ≡ t = ap (λ x. record { lo = t.lo; hi = x }) hi in
    low ∙ high

-- the ends of a whole set are among its integers, so another's ends are no nearer
ends_apart : (ns : List ℤ) (s t : IndexSet) → IsWhole ns s → IsWhole ns t → (t.lo ≤ℤ s.lo) × (s.hi ≤ℤ t.hi)
ends_apart ns s t one other =
    let low = (one.1 s.lo).1 (omega (arith, ints), one.0) in
    let high = (one.1 s.hi).1 (one.0, omega (arith, ints)) in
    (((other.1 s.lo).0 low).0, ((other.1 s.hi).0 high).1)

one_whole : (ns : List ℤ) (s t : IndexSet) → IsWhole ns s → IsWhole ns t → s ≡ t
one_whole ns s t one other =
    let there = ends_apart ns s t one other in
    let back = ends_apart ns t s other one in
    let lo : s.lo ≡ t.lo = omega (arith, ints, there.0, back.0) in
    let hi : s.hi ≡ t.hi = omega (arith, ints, there.1, back.1) in
    same_ends s t lo hi

one_range : (l : SetLiteral) (s t : IndexSet) → CountsAs l s → CountsAs l t → s ≡ t
one_range (literals.Range r) s t one other = one ∙ sym other
one_range (literals.Set ns) s t one other = one_whole ns s t one other

one_count : (ls : List SetLiteral) (ss ts : List IndexSet) → CountAs ls ss → CountAs ls ts → ss ≡ ts
one_count [] [] [] one other = refl
one_count [] [] (t ∷ ts) one other = absurd other
one_count [] (s ∷ ss) ts one other = absurd one
one_count (l ∷ ls) [] ts one other = absurd one
one_count (l ∷ ls) (s ∷ ss) [] one other = absurd other
one_count (l ∷ ls) (s ∷ ss) (t ∷ ts) one other =
    let first : s ≡ t = one_range l s t one.0 other.0 in
    ap (λ (r : IndexSet). r ∷ ss) first ∙ ap (λ (rs : List IndexSet). t ∷ rs) (one_count ls ss ts one.1 other.1)

one_are : (ws : List Word) (ss ts : List IndexSet) → AreIndexSets ws ss → AreIndexSets ws ts → ss ≡ ts
one_are ws ss ts one other =
    let same : other.literals ≡ one.literals = one_argument ws other.literals one.literals other.written one.written in
    one_count one.literals ss ts one.ends (subst (λ (ls : List SetLiteral). CountAs ls ts) same other.ends)

pub one_give : (arguments : Option (List Word)) (ss ts : List IndexSet) → GiveIndexSets arguments ss → GiveIndexSets arguments ts → ss ≡ ts
one_give (Some ws) ss ts one other = one_are ws ss ts one other
one_give None ss ts one other = absurd one

pub none_right : (a : Annotation) (length : ℕ) → HasNoIndexSets a → (false ≡ true) ↔ HasRightSets a length
none_right a length none = (λ e. absurd cc, λ right. absurd (none right.0 right.1))

pub some_right : (a : Annotation) (length : ℕ) (sets : List IndexSet) (b : Bool) → HasIndexSets a sets → (b ≡ true) ↔ (product_of sets ≡ length) → (b ≡ true) ↔ HasRightSets a length
some_right a length sets b has told = (
  λ e. (sets, has, told.0 e),
  λ right. told.1 (ap product_of (one_give a.arguments sets right.0 has right.1) ∙ right.2),
)
