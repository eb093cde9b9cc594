-- A text is cut in one way, and so it has one answer.
use Rattle.std.proofs.Common.{◌≡◌, ◌≢◌, ℕ, suc, ◌≤◌, ◌<◌, List, [], ◌∷◌, ◌++◌, length, take, drop, refl, sym, ap, ◌∙◌, arith, append_assoc, Option, Some, None, Result, Ok, Err, if◌then◌else◌}
use Rattle.std.specs.Prelude.{◌==◌}
use Rattle.std.proofs.lemmas.Bool.{ne_eqb}
use Rattle.std.proofs.lemmas.List.{length-append, take-append-drop, append-nil}
use Rattle.fzn_lex.specs.declared.words.What.TheVariants.{Int}
use Rattle.fzn_lex.specs.declared.pieces.Sort.{Sort}
use Rattle.fzn_lex.specs.declared.pieces.Sort.TheVariants.{Word}
use Rattle.fzn_lex.specs.declared.pieces.Piece.{Piece}
use Rattle.fzn_lex.specs.declared.pieces.Fault.{Fault}
use Rattle.fzn_lex.specs.declared.pieces.Fault.TheVariants as faults
use Rattle.fzn_lex.specs.declared.tokens.Token.{Token}
use Rattle.fzn_lex.specs.declared.errors.LexError.{LexError}
use Rattle.fzn_lex.specs.declared.errors.LexError.TheVariants.{TooLong, BadByte, BadNumber, OpenString, Memory}
use Rattle.fzn_lex.specs.Tokens.{IsSmall}
use Rattle.fzn_lex.specs.Cutting.{IsLongest, BeginsNone, IsFine, IsHuge, IsFault, Cutting, bytes_of, IsCut, tokens_of, FailsAt, IsWhole, limit, IsLexed, HasOneAnswer, error_of}
use Rattle.fzn_lex.specs.Scan.{piece, first_of}
use Rattle.fzn_lex.proofs.Heads.{IsHead, first_heads}
use Rattle.fzn_lex.proofs.Longest.{spelled_some, longest_read, same_piece}

-- no fine piece begins here
abbrev pub Ends : List ℕ → Type 0
Ends bs = (s : Sort) (t r : List ℕ) → IsLongest s t r → IsFine s → t ++ r ≡ bs → ⊥

pub nothing_ends : Ends []
nothing_ends s t r l f e =
    let some = spelled_some s t l.spelled in
    let n : length (t ++ r) ≡ 0 = ap length e in
    omega (arith, length-append t r)

none_ends : (bs : List ℕ) → BeginsNone bs → Ends bs
none_ends bs h s t r l f e = h s t r l.spelled e

fine_small : (z : _) (s : Sort) → Word (Int z) ≡ s → IsFine s → IsSmall z
fine_small z s e f = let h = f in rw (← e) at h

huge_ends : (bs : List ℕ) → IsHuge bs → Ends bs
huge_ends bs h s t r l f e =
    let same = same_piece (Word (Int h.value)) h.text h.rest s t r h.longest l (sym h.parts ∙ sym e) in
    h.wrong (fine_small h.value s same.sort f)

pub fault_ends : (fault : Fault) (bs : List ℕ) → IsFault fault bs → Ends bs
fault_ends faults.BadByte bs (b, rest, e, other, h) = none_ends bs h
fault_ends faults.BadNumber bs h = huge_ends bs h
fault_ends faults.OpenString bs (rest, e, h) = none_ends bs h

same_cutting : (p q : Cutting) → p.sort ≡ q.sort → p.text ≡ q.text → p ≡ q
same_cutting p q e d = ap (λ (s : Sort). let c : Cutting = record { sort = s; text = p.text } in c) e ∙ ap (λ (t : List ℕ). let c : Cutting = record { sort = q.sort; text = t } in c) d

pub record Same (ps qs : List Cutting) (r r' : List ℕ) : Type 0 where
  pub pieces : ps ≡ qs
  pub rest : r ≡ r'

pub one_cutting : (ps qs : List Cutting) (r r' : List ℕ) → IsCut ps r → IsCut qs r' → Ends r → Ends r' → bytes_of ps ++ r ≡ bytes_of qs ++ r' → Same ps qs r r'
one_cutting [] [] r r' h h' ends ends' e = record { pieces = refl; rest = e }
one_cutting [] (q ∷ qs) r r' h (l, f, h') ends ends' e =
    absurd (ends q.sort q.text (bytes_of qs ++ r') l f (sym (append_assoc q.text (bytes_of qs) r') ∙ sym e))
one_cutting (p ∷ ps) [] r r' (l, f, h) h' ends ends' e =
    absurd (ends' p.sort p.text (bytes_of ps ++ r) l f (sym (append_assoc p.text (bytes_of ps) r) ∙ e))
one_cutting (p ∷ ps) (q ∷ qs) r r' (l, f, h) (l', f', h') ends ends' e =
    let same = same_piece p.sort p.text (bytes_of ps ++ r) q.sort q.text (bytes_of qs ++ r') l l'
    (sym (append_assoc p.text (bytes_of ps) r) ∙ e ∙ append_assoc q.text (bytes_of qs) r') in
    let more = one_cutting ps qs r r' h h' ends ends' same.rest in
    record { pieces = rw (same_cutting p q same.sort same.text, more.pieces) refl; rest = more.rest }

-- ---- the one answer

abbrev fault_of : ℕ → Option Piece → Fault
fault_of b None = if b == 34 then faults.OpenString else faults.BadByte
fault_of b (Some p) = faults.BadNumber

abbrev answer_of : List Cutting → List ℕ → Result (List Token) LexError
answer_of ps [] = Ok (tokens_of 0 ps)
answer_of ps (b ∷ bs) = Err (error_of (fault_of b (first_of (b ∷ bs))) (length (bytes_of ps)))

none_read : (bs : List ℕ) → BeginsNone bs → (o : Option Piece) → first_of bs ≡ o → first_of bs ≡ None
none_read bs h None e = e
none_read bs h (Some p) e =
    let head : IsHead bs p = let k = first_heads bs in rw e at k in
    absurd (h p.sort (take p.len bs) (drop p.len bs) head.spelled (take-append-drop p.len bs))

same_head : (b c : ℕ) (bs cs : List ℕ) → b ∷ bs ≡ c ∷ cs → b ≡ c
same_head b c bs cs e = cc

fault_is : (fault : Fault) (b : ℕ) (bs : List ℕ) → IsFault fault (b ∷ bs) → fault_of b (first_of (b ∷ bs)) ≡ fault
fault_is faults.BadByte b bs (c, rest, e, other, h) =
    let n = none_read (b ∷ bs) h (first_of (b ∷ bs)) refl in
    let q : b ≢ 34 = λ k. other (sym (same_head b c bs rest e) ∙ k) in
    rw (n, ne_eqb b 34 q) refl
fault_is faults.BadNumber b bs h =
    let n : first_of (b ∷ bs) ≡ Some (piece (Word (Int h.value)) (length h.text)) = ap first_of h.parts ∙ longest_read (Word (Int h.value)) h.text h.rest h.longest in
    rw n refl
fault_is faults.OpenString b bs (rest, e, h) =
    let n = none_read (b ∷ bs) h (first_of (b ∷ bs)) refl in
    let q : b ≡ 34 = same_head b 34 bs rest e in
    rw n (rw q refl)

fault_some : (fault : Fault) → IsFault fault [] → ⊥
fault_some faults.BadByte (c, rest, e, other, h) = absurd (let n : 0 ≡ suc (length rest) = ap length e in omega arith)
fault_some faults.BadNumber h =
    let n : 0 ≡ length (h.text ++ h.rest) = ap length h.parts in
    let some = spelled_some (Word (Int h.value)) h.text h.longest.spelled in
    omega (arith, length-append h.text h.rest)
fault_some faults.OpenString (rest, e, h) = absurd (let n : 0 ≡ suc (length rest) = ap length e in omega arith)

record Settled (text : List ℕ) (r : Result (List Token) LexError) : Type 0 where
  pieces : List Cutting
  rest : List ℕ
  parts : text ≡ bytes_of pieces ++ rest
  cut : IsCut pieces rest
  ends : Ends rest
  is : r ≡ answer_of pieces rest

settle_whole : (text : List ℕ) (tokens : List Token) → IsWhole text tokens → Settled text (Ok tokens)
settle_whole text tokens w = record {
  pieces = w.pieces;
  rest = [];
  parts = w.parts ∙ sym (append-nil (bytes_of w.pieces));
  cut = w.cut;
  ends = nothing_ends;
  is = rw w.are refl;
}

fault_answer : (fault : Fault) (ps : List Cutting) (rest : List ℕ) (at : ℕ) → at ≡ length (bytes_of ps) → IsFault fault rest
    → ◌≡◌ {A = Result (List Token) LexError} (Err (error_of fault at)) (answer_of ps rest)
fault_answer fault ps [] at e h = absurd (fault_some fault h)
fault_answer fault ps (b ∷ bs) at e h = rw (fault_is fault b bs h, e) refl

settle_fails : (fault : Fault) (text : List ℕ) (at : ℕ) → FailsAt fault text at → Settled text (Err (error_of fault at))
settle_fails fault text at h = record {
  pieces = h.pieces;
  rest = h.rest;
  parts = h.parts;
  cut = h.cut;
  ends = fault_ends fault h.rest h.fault_at;
  is = fault_answer fault h.pieces h.rest at h.place h.fault_at;
}

data Outcome : List ℕ → Result (List Token) LexError → Type 0 where
  long : {text : List ℕ} {r : Result (List Token) LexError} → limit < length text → r ≡ Err TooLong → Outcome text r
  settled : {text : List ℕ} {r : Result (List Token) LexError} → length text ≤ limit → Settled text r → Outcome text r

outcome : (text : List ℕ) (r : Result (List Token) LexError) → IsLexed text r → (r ≡ Err Memory → ⊥) → Outcome text r
outcome text (Ok tokens) h m = settled h.0 (settle_whole text tokens h.1)
outcome text (Err TooLong) h m = long h refl
outcome text (Err (BadByte at)) h m = settled h.0 (settle_fails faults.BadByte text at h.1)
outcome text (Err (BadNumber at)) h m = settled h.0 (settle_fails faults.BadNumber text at h.1)
outcome text (Err (OpenString at)) h m = settled h.0 (settle_fails faults.OpenString text at h.1)
outcome text (Err Memory) h m = absurd (m refl)

settled_same : (text : List ℕ) (one other : Result (List Token) LexError) → Settled text one → Settled text other → one ≡ other
settled_same text one other s s' =
    let same = one_cutting s.pieces s'.pieces s.rest s'.rest s.cut s'.cut s.ends s'.ends (sym s.parts ∙ s'.parts) in
    s.is ∙ rw (same.pieces, same.rest) (sym s'.is)

outcome_same : (text : List ℕ) (one other : Result (List Token) LexError) → Outcome text one → Outcome text other → one ≡ other
outcome_same text one other (long l e) (long l' e') = e ∙ sym e'
outcome_same text one other (long l e) (settled l' s') = absurd (omega arith)
outcome_same text one other (settled l s) (long l' e') = absurd (omega arith)
outcome_same text one other (settled l s) (settled l' s') = settled_same text one other s s'

pub one_answer : HasOneAnswer
one_answer text one other h h' m m' = outcome_same text one other (outcome text one h m) (outcome text other h' m')
