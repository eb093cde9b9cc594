-- Readers of whole lists of symbols: their places are exact, and items and places exclude each other.
use Rattle.std.proofs.Common.{◌≡◌, ℕ, ◌<◌, Bool, List, [], ◌∷◌, ◌++◌, length, Ok, Err, inl, inr, refl, sym, ap, subst, ◌∙◌, append_assoc, arith, length-append}
use Rattle.std.proofs.lemmas.Bool.{cases_lt}
use Rattle.std.proofs.lemmas.List.{append-nil}
use Rattle.reading.specs.Language.{Nothing}
use Rattle.reading.specs.Readers.{Answer, ◌>>=◌, all, pair, ends, whole}
use Rattle.reading.specs.Places.{Begins, Refuses, FailsAt}
use Rattle.reading.proofs.Laws.{okay_is, bind_okay, never_both, first, Stops, stops_all, regroup, Reads, ends_reads}
use Rattle.reading.proofs.Joins.{Both, pair_reads, made_reads}

ended : {S : Type 0} (symbols : List S) (x : Unit {0}) (rest : List S) → ends symbols ≡ Ok (x, rest) → rest ≡ []
ended {S} [] x rest e = sym (ap (λ (q : Unit {0} × List S). q.1) (okay_is (tt, []) (x, rest) e))
ended (s ∷ symbols) x rest e = absurd cc

module _ {S X : Type 0} (D : X → List S → Type 0) (goes : S → Bool) (read : List S → Answer S X) (h : Reads D goes read) where
  -- nothing is left
  pub whole_ends : (symbols : List S) (x : X) (rest : List S) → whole read symbols ≡ Ok (x, rest) → rest ≡ []
  whole_ends symbols x rest e =
      let a = bind_okay (pair read ends symbols) (λ p. Ok (p.0.0, p.1)) (x, rest) e in
      let b = bind_okay (read symbols) (λ p. ends p.1 >>= λ y. Ok ((p.0, y.0), y.1)) a.0 a.1 in
      let c = bind_okay (ends b.0.1) (λ y. Ok ((b.0.0, y.0), y.1)) a.0 b.2 in
      let last : c.0.1 ≡ [] = ended b.0.1 c.0.0 c.0.1 c.1 in
      let one : c.0.1 ≡ a.0.1 = ap (λ (q : (X × Unit {0}) × List S). q.1) (okay_is ((b.0.0, c.0.0), c.0.1) a.0 c.2) in
      let two : a.0.1 ≡ rest = ap (λ (q : X × List S). q.1) (okay_is (a.0.0.0, a.0.1) (x, rest) a.2) in
      sym two ∙ sym one ∙ last

  all_stop : (symbols : List S) → symbols ≡ [] → Stops goes symbols
  all_stop symbols e = rw e refl

  -- nothing stands behind the thing
  pub whole_reads : Reads D all (whole read)
  whole_reads =
      made_reads (Both D (λ (_ : Unit {0}). Nothing)) D all (λ p. p.0) (pair read ends)
      (pair_reads D (λ (_ : Unit {0}). Nothing) goes all read ends h ends_reads (λ y used rest d stops. all_stop (used ++ rest) (rw d (stops_all rest stops))))
      (λ p symbols d. subst (D p.0) (sym (d.2 ∙ ap (λ (l : List S). d.0 ++ l) d.4 ∙ append-nil d.0)) d.3)
      (λ x symbols d. ((x, tt), refl, (symbols, [], sym (append-nil symbols), d, refl)))

-- ---- facts of the language alone

-- a list that two fronts share: the longer front has the next symbol behind the shorter one
record Longer {S : Type 0} (front rest other : List S) : Type 0 where
  symbol : S
  middle : List S
  others : List S
  rest-is : rest ≡ symbol ∷ others
  other-is : other ≡ front ++ symbol ∷ middle

is_longer : {S : Type 0} (front rest other tail : List S) → front ++ rest ≡ other ++ tail → length front < length other → Longer front rest other
is_longer [] rest [] tail e lt = absurd (omega arith)
is_longer [] [] (s ∷ other) tail e lt = absurd cc
is_longer [] (t ∷ rest) (s ∷ other) tail e lt =
    let same : t ≡ s = cc in
    record { symbol = t; middle = other; others = rest; rest-is = refl; other-is = ap (λ u. u ∷ other) (sym same) }
is_longer (t ∷ front) rest [] tail e lt = absurd (omega arith)
is_longer (t ∷ front) rest (s ∷ other) tail e lt =
    let same : t ≡ s = cc in
    let tails : front ++ rest ≡ other ++ tail = cc in
    let l = is_longer front rest other tail tails (omega arith) in
    record {
      symbol = l.symbol;
      middle = l.middle;
      others = l.others;
      rest-is = l.rest-is;
      other-is = ap (λ o. s ∷ o) l.other-is ∙ ap (λ u. u ∷ (front ++ l.symbol ∷ l.middle)) (sym same);
    }

module _ {S X : Type 0} (D : X → List S → Type 0) where
  refused_here : (front rest : List S) (x : X) → Refuses D front rest → D x (front ++ rest) → ⊥
  refused_here front [] x wrong d = wrong x (subst (D x) (append-nil front) d)
  refused_here front (s ∷ rest) x wrong d = wrong (x, rest, subst (D x) (regroup front (s ∷ []) rest) d)

  -- what the list spells and where it fails exclude each other
  pub not_both : (symbols : List S) (x : X) (left : ℕ) → D x symbols → FailsAt D symbols left → ⊥
  not_both symbols x left d f = refused_here f.front f.rest x f.wrong (subst (D x) f.parts d)

  begins_less : (front middle more : List S) (s : S) (x : X) → D x ((front ++ s ∷ middle) ++ more) → Begins D (front ++ s ∷ [])
  begins_less front middle more s x d =
      let same : (front ++ s ∷ middle) ++ more ≡ (front ++ s ∷ []) ++ (middle ++ more) = simp append_assoc in
      (x, middle ++ more, subst (D x) same d)

  longer_front : (front rest other tail : List S) → front ++ rest ≡ other ++ tail → length front < length other → Refuses D front rest → Begins D other → ⊥
  longer_front front rest other tail e lt wrong fine =
      let l = is_longer front rest other tail e lt in
      let refused : Refuses D front (l.symbol ∷ l.others) = subst (Refuses D front) l.rest-is wrong in
      refused (begins_less front l.middle fine.1 l.symbol fine.0 (subst (λ (o : List S). D fine.0 (o ++ fine.1)) l.other-is fine.2))

  same_front : (f r g s : List S) → f ++ r ≡ g ++ s → length f ≡ length g → length r ≡ length s
  same_front f r g s e same = omega (arith, ap length e, length-append f r, length-append g s)

  -- a list fails at one place at most
  pub one_place : (symbols : List S) (n m : ℕ) → FailsAt D symbols n → FailsAt D symbols m → n ≡ m
  one_place symbols n m f g =
      let parts : f.front ++ f.rest ≡ g.front ++ g.rest = sym f.parts ∙ g.parts in
      elim (cases_lt (length f.front) (length g.front)) [
        | inl lt ↦ absurd (longer_front f.front f.rest g.front g.rest parts lt f.wrong g.fine)
        | inr le ↦ elim (cases_lt (length g.front) (length f.front)) [
          | inl lt ↦ absurd (longer_front g.front g.rest f.front f.rest (sym parts) lt g.wrong f.fine)
          | inr ge ↦ let same : length f.rest ≡ length g.rest = same_front f.front f.rest g.front g.rest parts (omega arith) in f.count ∙ same ∙ sym g.count
        ]
      ]

-- ---- a reader of whole lists

module _ {S X : Type 0} (D : X → List S → Type 0) (read : List S → Answer S X) (h : Reads D all read) where
  -- all of the list is read
  reads_all : (x : X) (symbols : List S) → D x symbols → read symbols ≡ Ok (x, [])
  reads_all x symbols d = subst (λ (l : List S). read l ≡ Ok (x, [])) (append-nil symbols) (h.takes x symbols [] d refl)

  refuses : (front rest : List S) → ((more : List S) → first more ≡ first rest → read (front ++ more) ≡ Err (length more)) → Refuses D front rest
  refuses front [] again =
      λ x d. never_both (x, []) 0 (read (front ++ [])) (subst (λ (l : List S). read l ≡ Ok (x, [])) (sym (append-nil front)) (reads_all x front d)) (again [] refl)
  refuses front (s ∷ rest) again =
      λ b.
      let same : (front ++ s ∷ []) ++ b.1 ≡ front ++ (s ∷ b.1) = append_assoc front (s ∷ []) b.1 in
      never_both (b.0, []) (length (s ∷ b.1)) (read (front ++ (s ∷ b.1))) (reads_all b.0 (front ++ (s ∷ b.1)) (subst (D b.0) same b.2)) (again (s ∷ b.1) refl)

  -- the place is exact
  pub fails_there : (symbols : List S) (left : ℕ) → read symbols ≡ Err left → FailsAt D symbols left
  fails_there symbols left e =
      let t = h.stuck symbols left e in
      record { front = t.front; rest = t.rest; parts = t.parts; count = t.count; fine = (t.item, t.others, t.fits); wrong = refuses t.front t.rest t.again }

  -- what is read is all of the list
  pub read_whole : (symbols : List S) (x : X) (rest : List S) → read symbols ≡ Ok (x, rest) → rest ≡ [] → D x symbols
  read_whole symbols x rest e last =
      let t = h.took symbols x rest e in
      subst (D x) (sym (t.parts ∙ ap (λ (l : List S). t.used ++ l) last ∙ append-nil t.used)) t.fits

  -- two things that are spelled alike are one
  pub one_thing : (x y : X) (symbols : List S) → D x symbols → D y symbols → x ≡ y
  one_thing x y symbols d e = ap (λ (q : X × List S). q.0) (okay_is (x, []) (y, []) (sym (reads_all x symbols d) ∙ reads_all y symbols e))
