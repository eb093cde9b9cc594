-- The reader of whole texts: what it reads is items, and where it is stuck is the first place where the words begin none.
use Rattle.std.proofs.Common.{◌≡◌, ℕ, ◌-◌, ◌≤◌, Bool, false, ◌||◌, ◌==◌, List, [], ◌∷◌, ◌++◌, length, drop, Ok, Err, refl, sym, ap, ◌∙◌, arith, length-append}
use Rattle.std.proofs.lemmas.List.{length-map, drop_at, drop-map}
use Rattle.fzn_lex.specs.declared.tokens.Token.{Token}
use Rattle.reading.specs.Language.{◌⨾◌, Each}
use Rattle.reading.specs.Readers.{begins, none, all, pair, whole}
use Rattle.reading.specs.Places.{FailsAt}
use Rattle.reading.proofs.Laws.{Stops, Reads}
use Rattle.reading.proofs.Joins.{Both, pair_reads, made_reads}
use Rattle.reading.proofs.Loops.{many_reads}
use Rattle.reading.proofs.Faults.{whole_reads, whole_ends, not_both, one_place, fails_there, read_whole, one_thing}
use Rattle.fzn_words.specs.declared.terminal.Terminal.TheVariants as terminals
use Rattle.fzn_words.specs.declared.word.Word.{Word}
use Rattle.fzn_syntax.specs.declared.error.SyntaxError.TheVariants as faults
use Rattle.fzn_syntax.specs.declared.declaration.Declaration.{Declaration}
use Rattle.fzn_syntax.specs.declared.constraint.Constraint.{Constraint}
use Rattle.fzn_syntax.specs.declared.solve.Solve.{Solve}
use Rattle.fzn_syntax.specs.declared.items.Items.{Items}
use Rattle.fzn_words.specs.Words.{is, word_of, words}
use Rattle.fzn_syntax.specs.Items.{IsPredicate, IsDeclaration, IsConstraint, IsSolve, AreItems}
use Rattle.fzn_syntax.specs.ItemReading.{predicate_at, declaration_at, constraint_at, solve_at, predicates_at, declarations_at, constraints_at, items_at, text_at}
use Rattle.fzn_syntax.specs.Parsed.{place_of, StopsAt, HasOneAnswer}
use Rattle.fzn_syntax.proofs.Firsts.{leads, front_first}
use Rattle.fzn_syntax.proofs.ItemLaws.{predicate_loops, declares, declaration_first, declaration_loops, constraint_first, constraint_loops, solve_first, solve_reads}

-- ---- the parts of a text

abbrev on_constraints : ℕ → Bool
on_constraints n = (n == 18) || false

abbrev on_declarations : ℕ → Bool
on_declarations n = declares n || false

abbrev on_predicates : ℕ → Bool
on_predicates n = (n == 25) || false

abbrev AreLast : List Constraint × Solve → List Word → Type 0
AreLast = Both (Each IsConstraint) IsSolve

abbrev AreLater : List Declaration × (List Constraint × Solve) → List Word → Type 0
AreLater = Both (Each IsDeclaration) AreLast

last_first : (test : ℕ → Bool) (b : Bool) → test 18 ≡ b → test 28 ≡ b → (cs : List Constraint) (s : Solve) (used rest : List Word) → (Each IsConstraint cs ⨾ IsSolve s) used → begins (leads test) (used ++ rest) ≡ b
last_first test b constraint solve [] s used rest d = rw (d.2, d.3) (solve_first test b solve s d.1 rest d.4)
last_first test b constraint solve (c ∷ cs) s used rest d =
    front_first (leads test) b (Each IsConstraint (c ∷ cs)) (IsSolve s) (front_first (leads test) b (IsConstraint c) (Each IsConstraint cs) (constraint_first test b constraint c)) used rest d

later_first : (ds : List Declaration) (cs : List Constraint) (s : Solve) (used rest : List Word) → (Each IsDeclaration ds ⨾ AreLast (cs, s)) used → Stops (leads on_predicates) (used ++ rest)
later_first [] cs s used rest d = rw (d.2, d.3) (last_first on_predicates false refl refl cs s d.1 rest d.4)
later_first (x ∷ ds) cs s used rest d =
    front_first (leads on_predicates) false (Each IsDeclaration (x ∷ ds)) (AreLast (cs, s))
    (front_first (leads on_predicates) false (IsDeclaration x) (Each IsDeclaration ds) (declaration_first on_predicates false refl refl refl refl refl refl x)) used rest d

last_reads : Reads AreLast none (pair constraints_at solve_at)
last_reads =
    pair_reads (Each IsConstraint) IsSolve (leads on_constraints) none constraints_at solve_at (many_reads IsConstraint none (is terminals.Constraint) constraint_at constraint_loops) solve_reads
    (λ s used rest d stops. solve_first on_constraints false refl s used rest d)

later_reads : Reads AreLater none (pair declarations_at (pair constraints_at solve_at))
later_reads =
    pair_reads (Each IsDeclaration) AreLast (leads on_declarations) none declarations_at (pair constraints_at solve_at) (many_reads IsDeclaration none (leads declares) declaration_at declaration_loops) last_reads
    (λ y used rest d stops. last_first on_declarations false refl refl y.0 y.1 used rest d)

items_reads : Reads AreItems none items_at
unfolding items_at
items_reads =
    made_reads (Both (Each IsPredicate) AreLater) AreItems none _ (pair predicates_at (pair declarations_at (pair constraints_at solve_at)))
    (pair_reads (Each IsPredicate) AreLater (leads on_predicates) none predicates_at (pair declarations_at (pair constraints_at solve_at))
    (many_reads IsPredicate none (is terminals.Predicate) predicate_at predicate_loops) later_reads
    (λ y used rest d stops. later_first y.0 y.1.0 y.1.1 used rest d))
    (λ p ws d. d) (λ t ws d. ((t.predicates, (t.declarations, (t.constraints, t.solve))), refl, d))

text_reads : Reads AreItems all text_at
unfolding text_at
text_reads = whole_reads AreItems none items_at items_reads

pub text_is : (ws : List Word) (t : Items) (rest : List Word) → text_at ws ≡ Ok (t, rest) → AreItems t ws
unfolding text_at
text_is ws t rest e = read_whole AreItems (whole items_at) (whole_reads AreItems none items_at items_reads) ws t rest e (whole_ends AreItems none items_at items_reads ws t rest e)

pub text_fails : (ws : List Word) (left : ℕ) → text_at ws ≡ Err left → FailsAt AreItems ws left
text_fails ws left e = fails_there AreItems text_at text_reads ws left e

-- ---- the place of what is left

pub few_left : (bytes : List ℕ) (tokens : List Token) (left : ℕ) → text_at (words bytes tokens) ≡ Err left → left ≤ length tokens
few_left bytes tokens left e =
    let f = text_fails (words bytes tokens) left e in
    let size : length (words bytes tokens) ≡ length tokens = simp length-map in
    omega (arith, size, f.count, ap length f.parts, length-append f.front f.rest)

rest_left : (front rest : List Word) → drop (length (front ++ rest) - length rest) (front ++ rest) ≡ rest
rest_left front rest =
    let n : length (front ++ rest) - length rest ≡ length front = omega (arith, length-append front rest) in
    rw n (drop_at front rest (length front) refl)

left_words : (k : ℕ) (ws front rest : List Word) → ws ≡ front ++ rest → k ≡ length (front ++ rest) - length rest → drop k ws ≡ rest
left_words k ws front rest parts same = ap (λ (n : ℕ). drop n ws) same ∙ ap (λ (l : List Word). drop (length (front ++ rest) - length rest) l) parts ∙ rest_left front rest

drop_words : (n : ℕ) (bytes : List ℕ) (tokens : List Token) → words bytes (drop n tokens) ≡ drop n (words bytes tokens)
drop_words n bytes tokens = sym (drop-map (word_of bytes) n tokens)

pub stops_there : (len : ℕ) (bytes : List ℕ) (tokens : List Token) (left at : ℕ) → text_at (words bytes tokens) ≡ Err left
    → at ≡ place_of len (words bytes (drop (length tokens - left) tokens)) → StopsAt len (words bytes tokens) at
stops_there len bytes tokens left at e place =
    let f = text_fails (words bytes tokens) left e in
    let ws = words bytes tokens in
    let size : length ws ≡ length tokens = simp length-map in
    let n : length tokens - left ≡ length (f.front ++ f.rest) - length f.rest = omega (arith, size, ap length f.parts, f.count) in
    let rest : words bytes (drop (length tokens - left) tokens) ≡ f.rest = drop_words (length tokens - left) bytes tokens ∙ left_words (length tokens - left) ws f.front f.rest f.parts n in
    record { left = left; fails = f; place = place ∙ ap (place_of len) rest }

-- ---- one answer

rests_alike : (f g r s : List Word) → f ++ r ≡ g ++ s → length r ≡ length s → r ≡ s
rests_alike f g r s e same = sym (rest_left f r) ∙ ap (λ (l : List Word). drop (length l - length r) l) e ∙ ap (λ (n : ℕ). drop (length (g ++ s) - n) (g ++ s)) same ∙ rest_left g s

one_stop : (len : ℕ) (ws : List Word) (n m : ℕ) → StopsAt len ws n → StopsAt len ws m → n ≡ m
one_stop len ws n m a b =
    let left : a.left ≡ b.left = one_place AreItems ws a.left b.left a.fails b.fails in
    let lengths : length a.fails.rest ≡ length b.fails.rest = sym a.fails.count ∙ left ∙ b.fails.count in
    let rests : a.fails.rest ≡ b.fails.rest = rests_alike a.fails.front b.fails.front a.fails.rest b.fails.rest (sym a.fails.parts ∙ b.fails.parts) lengths in
    a.place ∙ ap (place_of len) rests ∙ sym b.place

pub one_answer : HasOneAnswer
one_answer len ws (Ok t) (Ok u) d e m n = ap (λ (x : Items). Ok x) (one_thing AreItems text_at text_reads t u ws d e)
one_answer len ws (Ok t) (Err (faults.Unexpected at)) d e m n = absurd (not_both AreItems ws t e.left d e.fails)
one_answer len ws (Ok t) (Err faults.Memory) d e m n = absurd (n refl)
one_answer len ws (Err (faults.Unexpected at)) (Ok u) d e m n = absurd (not_both AreItems ws u d.left e d.fails)
one_answer len ws (Err (faults.Unexpected at)) (Err (faults.Unexpected other)) d e m n = ap (λ (x : ℕ). Err (faults.Unexpected x)) (one_stop len ws at other d e)
one_answer len ws (Err (faults.Unexpected at)) (Err faults.Memory) d e m n = absurd (n refl)
one_answer len ws (Err faults.Memory) other d e m n = absurd (m refl)
