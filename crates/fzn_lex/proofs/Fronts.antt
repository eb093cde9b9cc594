-- The part of a text that is cut so far.
use Rattle.std.proofs.Common.{◌≡◌, ℕ, ◌+◌, ◌-◌, ◌≤◌, List, [], ◌∷◌, ◌++◌, length, take, drop, refl, sym, ap, ◌∙◌, arith, append_assoc, Err}
use Rattle.std.proofs.lemmas.List.{length-append, length-take-le, take-append-drop, drop-drop, append-nil, drop_all, take_at, drop_at}
use Rattle.fzn_lex.specs.declared.pieces.Sort.{Sort}
use Rattle.fzn_lex.specs.declared.pieces.Sort.TheVariants.{Blank, Comment, Word}
use Rattle.fzn_lex.specs.declared.pieces.Piece.{Piece}
use Rattle.fzn_lex.specs.declared.pieces.Fault.{Fault}
use Rattle.fzn_lex.specs.declared.pieces.Fault.TheVariants as faults
use Rattle.fzn_lex.specs.declared.tokens.Token.{Token}
use Rattle.fzn_lex.specs.Tokens.{IsSpelled}
use Rattle.fzn_lex.specs.Cutting.{IsLongest, IsFine, IsFault, Cutting, bytes_of, IsCut, told, tokens_of, FailsAt, IsWhole, limit, IsLexed, AreTokens, error_of}
use Rattle.fzn_lex.specs.Heading.{IsTaken}
use Rattle.fzn_lex.proofs.Longest.{spelled_some}

pub record Front (text : List ℕ) (at : ℕ) (tokens : List Token) : Type 0 where
  pub pieces : List Cutting
  pub parts : text ≡ bytes_of pieces ++ drop at text
  pub place : at ≡ length (bytes_of pieces)
  pub cut : IsCut pieces (drop at text)
  pub are : tokens ≡ tokens_of 0 pieces

pub front_start : (text : List ℕ) → Front text 0 []
front_start text = record { pieces = []; parts = refl; place = refl; cut = tt; are = refl }

pub bytes_of-push : (ps : List Cutting) (c : Cutting) → bytes_of (ps ++ c ∷ []) ≡ bytes_of ps ++ c.text
bytes_of-push [] c = append-nil c.text
bytes_of-push (p ∷ ps) c = rw (bytes_of-push ps c) (sym (append_assoc p.text (bytes_of ps) c.text))

IsCut-push : (ps : List Cutting) (c : Cutting) (rest : List ℕ) → IsCut ps (c.text ++ rest) → IsLongest c.sort c.text rest → IsFine c.sort → IsCut (ps ++ c ∷ []) rest
IsCut-push [] c rest h l f = (l, f, tt)
IsCut-push (p ∷ ps) c rest (l', f', h) l f =
    (rw (bytes_of-push ps c, append_assoc (bytes_of ps) c.text rest) l', f', IsCut-push ps c rest h l f)

tokens_of-push : (at : ℕ) (ps : List Cutting) (c : Cutting)
    → tokens_of at (ps ++ c ∷ []) ≡ tokens_of at ps ++ told (at + length (bytes_of ps)) (at + length (bytes_of ps) + length c.text) c.sort
tokens_of-push at [] c =
    let z : at + 0 ≡ at = omega arith in
    rw z (append-nil (told at (at + length c.text) c.sort))
tokens_of-push at (p ∷ ps) c =
    let len = length-append p.text (bytes_of ps) in
    let sum : at + length p.text + length (bytes_of ps) ≡ at + length (p.text ++ bytes_of ps) = omega arith in
    let ih = tokens_of-push (at + length p.text) ps c in
    rw (ih, sum) (sym (append_assoc (told at (at + length p.text) p.sort) (tokens_of (at + length p.text) ps) _))

pub front_more : (text : List ℕ) (at : ℕ) (tokens : List Token) (p : Piece) → Front text at tokens → IsTaken (drop at text) p
    → Front text (at + p.len) (tokens ++ told at (at + p.len) p.sort)
front_more text at tokens p f t =
    let c : Cutting = record { sort = p.sort; text = take p.len (drop at text) } in
    let long : length c.text ≡ p.len = length-take-le p.len (drop at text) t.fits in
    let rest : drop p.len (drop at text) ≡ drop (at + p.len) text = drop-drop p.len at text in
    let split : c.text ++ drop (at + p.len) text ≡ drop at text = rw (← rest) (take-append-drop p.len (drop at text)) in
    let whole = bytes_of-push f.pieces c in
    record {
      pieces = f.pieces ++ c ∷ [];
      parts = rw (whole, append_assoc (bytes_of f.pieces) c.text (drop (at + p.len) text), split) f.parts;
      place = rw (whole, length-append (bytes_of f.pieces) c.text, long) (ap (λ (n : ℕ). n + p.len) f.place);
      cut = IsCut-push f.pieces c (drop (at + p.len) text) (rw split f.cut) (rw (← rest) t.longest) t.fine;
      are = rw (tokens_of-push 0 f.pieces c, long) (let z : 0 + length (bytes_of f.pieces) ≡ at = omega (arith, f.place) in rw (z, f.are) refl);
    }

pub front_whole : (text : List ℕ) (at : ℕ) (tokens : List Token) → Front text at tokens → length text ≤ at → IsWhole text tokens
front_whole text at tokens f end =
    let none : drop at text ≡ [] = drop_all at text end in
    record {
      pieces = f.pieces;
      parts = let e = f.parts in e ∙ (rw none (append-nil (bytes_of f.pieces)));
      cut = let h = f.cut in rw none at h;
      are = f.are;
    }

pub front_fails : (text : List ℕ) (at : ℕ) (tokens : List Token) (fault : Fault) → Front text at tokens → IsFault fault (drop at text) → FailsAt fault text at
front_fails text at tokens fault f h = record { pieces = f.pieces; rest = drop at text; parts = f.parts; place = f.place; cut = f.cut; fault_at = h }

pub fails_lexed : (text : List ℕ) (at : ℕ) (fault : Fault) → length text ≤ limit → FailsAt fault text at → IsLexed text (Err (error_of fault at))
fails_lexed text at faults.BadByte short h = (short, h)
fails_lexed text at faults.BadNumber short h = (short, h)
fails_lexed text at faults.OpenString short h = (short, h)

-- ---- the tokens of a cut text

earlier : (text : List ℕ) (from later : ℕ) (ts : List Token) → from ≤ later → AreTokens text later ts → AreTokens text from ts
earlier text from later [] le h = tt
earlier text from later (t ∷ ts) le (l, some, fits, spelled, more) = (omega arith, some, fits, spelled, more)

-- the tokens from this place on, behind a piece that ends there
told_tokens : (text : List ℕ) (at : ℕ) (s : Sort) (t front rest : List ℕ) (ts : List Token) → text ≡ front ++ (t ++ rest) → at ≡ length front
    → IsSpelled s t → AreTokens text (at + length t) ts → AreTokens text at (told at (at + length t) s ++ ts)
told_tokens text at Blank t front rest ts e n h more = earlier text at (at + length t) ts (omega arith) more
told_tokens text at Comment t front rest ts e n h more = earlier text at (at + length t) ts (omega arith) more
told_tokens text at (Word w) t front rest ts e n h more =
    let some = spelled_some (Word w) t h in
    let len = ap length e in
    let len' = length-append front (t ++ rest) in
    let len'' = length-append t rest in
    let d : drop at text ≡ t ++ rest = rw e (drop_at front (t ++ rest) at (sym n)) in
    let k : at + length t - at ≡ length t = omega arith in
    (omega arith, omega arith, omega arith, rw (d, k, take_at t rest (length t) refl) h, more)

cut_tokens : (text : List ℕ) (at : ℕ) (ps : List Cutting) (front rest : List ℕ) → text ≡ front ++ (bytes_of ps ++ rest) → at ≡ length front
    → IsCut ps rest → AreTokens text at (tokens_of at ps)
cut_tokens text at [] front rest e n h = tt
cut_tokens text at (p ∷ ps) front rest e n (l, f, h) =
    let e' : text ≡ front ++ (p.text ++ (bytes_of ps ++ rest)) = e ∙ ap (λ (t : List ℕ). front ++ t) (append_assoc p.text (bytes_of ps) rest) in
    let len = length-append front p.text in
    let more = cut_tokens text (at + length p.text) ps (front ++ p.text) rest (e' ∙ sym (append_assoc front p.text (bytes_of ps ++ rest))) (omega arith) h in
    told_tokens text at p.sort p.text front (bytes_of ps ++ rest) (tokens_of (at + length p.text) ps) e' n l.spelled more

pub whole_tokens : (text : List ℕ) (tokens : List Token) → IsWhole text tokens → AreTokens text 0 tokens
whole_tokens text tokens w = rw w.are (cut_tokens text 0 w.pieces [] [] (w.parts ∙ sym (append-nil (bytes_of w.pieces))) refl w.cut)
