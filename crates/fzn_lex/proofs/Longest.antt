-- The longest piece at a place is the one that is read there.
use Rattle.std.proofs.Common.{◌≡◌, ℕ, ◌≤◌, ◌<◌, Bool, List, [], ◌∷◌, ◌++◌, length, take, drop, get_or, refl, sym, ap, ◌∙◌, arith, inl, inr, Option, Some, None, Result, Ok, Err, if◌then◌else◌}
use Rattle.std.specs.Prelude.{◌==◌}
use Rattle.std.proofs.lemmas.Bool.{cases_Bool, eqb-true, eqb-false}
use Rattle.std.proofs.lemmas.List.{length-append, length-take-le, take-append-drop, take_at, drop_at}
use Rattle.fzn_lex.specs.declared.words.What.TheVariants.{Name, Int, Float, Text, LeftParen, RightParen, LeftBracket, RightBracket, LeftBrace, RightBrace, Comma, Semicolon, Colon, DoubleColon, Equal, DotDot}
use Rattle.fzn_lex.specs.declared.pieces.Sort.{Sort}
use Rattle.fzn_lex.specs.declared.pieces.Sort.TheVariants.{Blank, Comment, Word}
use Rattle.fzn_lex.specs.declared.pieces.Piece.{Piece}
use Rattle.fzn_lex.specs.declared.pieces.Fault.{Fault}
use Rattle.fzn_lex.specs.declared.pieces.Fault.TheVariants.{BadByte, OpenString}
use Rattle.fzn_lex.specs.Tokens.{IsSpelled, IsDigits, IsMagnitude, IsFraction, minus}
use Rattle.fzn_lex.specs.Cutting.{IsLongest, BeginsNone, IsFine, IsHuge}
use Rattle.fzn_lex.specs.Scan.{piece, first_of, Judges, Answers}
use Rattle.fzn_lex.specs.Heading.{IsTaken, IsFirst}
use Rattle.fzn_lex.proofs.Heads.{IsHead, first_heads, covers}

none_some : (p : Piece) → ◌≡◌ {A = Option Piece} (Some p) None → ⊥
none_some p e = cc

same_some : (p q : Piece) → ◌≡◌ {A = Option Piece} (Some p) (Some q) → p ≡ q
same_some p q e = cc

digits_some : (base : ℕ) (ds : List ℕ) → IsDigits base ds → 0 < length ds
digits_some base ds h = h.some

magnitude_some : (p : List ℕ) (n : ℕ) → IsMagnitude p n → 0 < length p
magnitude_some p n (inl d) = digits_some 10 p d.0
magnitude_some p n (inr (inl (ds, e, d, v))) = rw e (omega arith)
magnitude_some p n (inr (inr (ds, e, d, v))) = rw e (omega arith)

fraction_some : (p : List ℕ) → IsFraction p → 0 < length p
fraction_some p h = rw h.parts (let s = digits_some 10 h.ds h.digits in omega (arith, length-append h.ds h.tail))

-- what is read, whole, is a longest piece
read_longest : (bs : List ℕ) (p : Piece) → first_of bs ≡ Some p → IsHead bs p → IsLongest p.sort (take p.len bs) (drop p.len bs)
read_longest bs p e h = record {
  spelled = h.spelled;
  longest = λ s t r sp join.
      let c = covers s t r sp in
      let whole : t ++ r ≡ bs = join ∙ take-append-drop p.len bs in
      let same : c.found ≡ p = same_some c.found p (sym c.is ∙ ap first_of whole ∙ e) in
      let l : length t ≤ c.found.len = c.reach in
      let m : length t ≤ p.len = rw same at l in
      rw (length-take-le p.len bs h.fits) m;
}

head_at : (bs : List ℕ) (p : Piece) → first_of bs ≡ Some p → IsHead bs p
head_at bs p e = let h = first_heads bs in rw e at h

number_some : (negative : Bool) (p rest : List ℕ) → p ≡ minus negative ++ rest → 0 < length rest → 0 < length p
number_some negative p rest e h = rw e (omega (arith, length-append (minus negative) rest))

-- a piece has a byte
pub spelled_some : (s : Sort) (t : List ℕ) → IsSpelled s t → 0 < length t
spelled_some Blank t (b, e, h) = rw e (omega arith)
spelled_some Comment t (bs, e, h) = rw e (omega arith)
spelled_some (Word Name) t (b, bs, e, h, are) = rw e (omega arith)
spelled_some (Word (Int z)) t h = number_some h.negative t h.rest h.parts (magnitude_some h.rest h.size h.magnitude)
spelled_some (Word Float) t (negative, p, e, h) = number_some negative t p e (fraction_some p h)
spelled_some (Word Text) t (bs, e, h) = rw e (omega arith)
spelled_some (Word LeftParen) t e = rw e (omega arith)
spelled_some (Word RightParen) t e = rw e (omega arith)
spelled_some (Word LeftBracket) t e = rw e (omega arith)
spelled_some (Word RightBracket) t e = rw e (omega arith)
spelled_some (Word LeftBrace) t e = rw e (omega arith)
spelled_some (Word RightBrace) t e = rw e (omega arith)
spelled_some (Word Comma) t e = rw e (omega arith)
spelled_some (Word Semicolon) t e = rw e (omega arith)
spelled_some (Word Colon) t e = rw e (omega arith)
spelled_some (Word DoubleColon) t e = rw e (omega arith)
spelled_some (Word Equal) t e = rw e (omega arith)
spelled_some (Word DotDot) t e = rw e (omega arith)

taken : (bs : List ℕ) (p : Piece) → first_of bs ≡ Some p → IsFine p.sort → IsTaken bs p
taken bs p e fine =
    let h = head_at bs p e in
    record {
      longest = read_longest bs p e h;
      fine = fine;
      some = let s = spelled_some p.sort (take p.len bs) h.spelled in rw (length-take-le p.len bs h.fits) at s;
      fits = h.fits;
    }

-- only an integer can be wrong
huge_by : (bs : List ℕ) (s : Sort) (t r : List ℕ) → bs ≡ t ++ r → IsLongest s t r → (IsFine s → ⊥) → IsHuge bs
huge_by bs (Word (Int z)) t r e l wrong = record { value = z; text = t; rest = r; parts = e; longest = l; wrong = wrong }
huge_by bs Blank t r e l wrong = absurd (wrong tt)
huge_by bs Comment t r e l wrong = absurd (wrong tt)
huge_by bs (Word Name) t r e l wrong = absurd (wrong tt)
huge_by bs (Word Float) t r e l wrong = absurd (wrong tt)
huge_by bs (Word Text) t r e l wrong = absurd (wrong tt)
huge_by bs (Word LeftParen) t r e l wrong = absurd (wrong tt)
huge_by bs (Word RightParen) t r e l wrong = absurd (wrong tt)
huge_by bs (Word LeftBracket) t r e l wrong = absurd (wrong tt)
huge_by bs (Word RightBracket) t r e l wrong = absurd (wrong tt)
huge_by bs (Word LeftBrace) t r e l wrong = absurd (wrong tt)
huge_by bs (Word RightBrace) t r e l wrong = absurd (wrong tt)
huge_by bs (Word Comma) t r e l wrong = absurd (wrong tt)
huge_by bs (Word Semicolon) t r e l wrong = absurd (wrong tt)
huge_by bs (Word Colon) t r e l wrong = absurd (wrong tt)
huge_by bs (Word DoubleColon) t r e l wrong = absurd (wrong tt)
huge_by bs (Word Equal) t r e l wrong = absurd (wrong tt)
huge_by bs (Word DotDot) t r e l wrong = absurd (wrong tt)

begins_none : (bs : List ℕ) → first_of bs ≡ None → BeginsNone bs
begins_none bs e s t r sp join =
    let c = covers s t r sp in
    let x : ◌≡◌ {A = Option Piece} (Some c.found) None = sym c.is ∙ ap first_of join ∙ e in
    absurd (none_some c.found x)

judged_first : (bs : List ℕ) (p : Piece) → first_of bs ≡ Some p → (result : Result Piece Fault) → Judges p result → IsFirst bs result
judged_first bs p e (Ok q) (same, fine) = rw same (taken bs p e fine)
judged_first bs p e (Err f) (is, wrong) = rw is (huge_by bs p.sort (take p.len bs) (drop p.len bs) (sym (take-append-drop p.len bs)) (read_longest bs p e (head_at bs p e)) wrong)

failed_first : (b : ℕ) (bs : List ℕ) → first_of (b ∷ bs) ≡ None → (result : Result Piece Fault)
    → result ≡ Err (if b == 34 then OpenString else BadByte) → IsFirst (b ∷ bs) result
failed_first b bs e result is = elim (cases_Bool (b == 34)) [
  | inl quote ↦ rw is (rw quote (bs, ap (λ (x : ℕ). x ∷ bs) (eqb-true b 34 quote), begins_none (b ∷ bs) e))
  | inr other ↦ rw is (rw other (b, bs, refl, eqb-false b 34 other, begins_none (b ∷ bs) e))
]

answered : (b : ℕ) (bs : List ℕ) (o : Option Piece) → first_of (b ∷ bs) ≡ o → (result : Result Piece Fault) → Answers b o result → IsFirst (b ∷ bs) result
answered b bs None e result h = failed_first b bs e result h
answered b bs (Some p) e result h = judged_first (b ∷ bs) p e result h

pub first_is : (bs : List ℕ) (result : Result Piece Fault) → 0 < length bs → Answers (get_or bs 0 0) (first_of bs) result → IsFirst bs result
first_is [] result some h = absurd (omega arith)
first_is (b ∷ bs) result some h = answered b bs (first_of (b ∷ bs)) refl result h

-- ---- one longest piece

piece_is : (p : Piece) (s : Sort) (n : ℕ) → s ≡ p.sort → n ≡ p.len → ◌≡◌ {A = Option Piece} (Some p) (Some (piece s n))
piece_is p s n e l = rw (e, l) refl

-- the longest piece is the one that is read
pub longest_read : (s : Sort) (t r : List ℕ) → IsLongest s t r → first_of (t ++ r) ≡ Some (piece s (length t))
longest_read s t r h =
    let c = covers s t r h.spelled in
    let head = head_at (t ++ r) c.found c.is in
    let reach : length t ≤ c.found.len = c.reach in
    let fits : c.found.len ≤ length (t ++ r) = head.fits in
    let back = h.longest c.found.sort (take c.found.len (t ++ r)) (drop c.found.len (t ++ r)) head.spelled (take-append-drop c.found.len (t ++ r)) in
    let down : c.found.len ≤ length t = rw (length-take-le c.found.len (t ++ r) fits) at back in
    let even : length t ≡ c.found.len = omega arith in
    let kind : s ≡ c.found.sort = c.same even in
    c.is ∙ piece_is c.found s (length t) kind even

pub record SamePiece (s : Sort) (t r : List ℕ) (s' : Sort) (t' r' : List ℕ) : Type 0 where
  pub sort : s ≡ s'
  pub text : t ≡ t'
  pub rest : r ≡ r'

pub same_piece : (s : Sort) (t r : List ℕ) (s' : Sort) (t' r' : List ℕ) → IsLongest s t r → IsLongest s' t' r' → t ++ r ≡ t' ++ r' → SamePiece s t r s' t' r'
same_piece s t r s' t' r' h h' join =
    let e : piece s (length t) ≡ piece s' (length t') = same_some _ _ (sym (longest_read s t r h) ∙ ap first_of join ∙ longest_read s' t' r' h') in
    let kinds : s ≡ s' = ap (λ (p : Piece). p.sort) e in
    let lengths : length t ≡ length t' = ap (λ (p : Piece). p.len) e in
    let texts : t ≡ t' = sym (take_at t r (length t) refl) ∙ (rw (join, lengths) (take_at t' r' (length t') refl)) in
    let rests : r ≡ r' = sym (drop_at t r (length t) refl) ∙ (rw (join, lengths) (drop_at t' r' (length t') refl)) in
    record { sort = kinds; text = texts; rest = rests }
