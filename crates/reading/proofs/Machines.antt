-- The law of machines: where each state has a language that its steps follow, a run reads that language.
use Rattle.std.proofs.Common.{◌≡◌, ℕ, List, [], ◌∷◌, ◌++◌, length, Option, Some, None, Ok, Err, ◌⊎◌, inl, inr, refl, sym, ap, subst, ◌∙◌}
use Rattle.reading.specs.Readers.{Answer, ◌>>=◌, none}
use Rattle.reading.specs.Machine.{turned, run}
use Rattle.reading.proofs.Loops.{with_front, front_moves}
use Rattle.reading.proofs.Laws.{okay_is, stop_is, bind_okay, made_stop, nothing_first, symbol_first, Took, Stuck, Reads}

-- what the step with a symbol says backwards of the languages
abbrev pub Back : {S Q : Type 0} → (Q → List S → Type 0) → Q → S → Option (Option Q) → Type 0
Back L q s None = Unit {0}
Back L q s (Some None) = L q (s ∷ [])
Back {S} L q s (Some (Some r)) = (symbols : List S) → L r symbols → L q (s ∷ symbols)

-- what stands in the language of a state begins with a symbol with which the machine goes on in it
abbrev pub Came : {S Q : Type 0} → (Q → S → Option (Option Q)) → (Q → List S → Type 0) → Q → List S → Type 0
Came {S} {Q} step L q symbols =
    (s : S) × (rest : List S) × (symbols ≡ s ∷ rest)
    × (((step q s ≡ Some None) × (rest ≡ [])) ⊎ ((r : Q) × (step q s ≡ Some (Some r)) × L r rest))

pub record Machine {S Q : Type 0} (step : Q → S → Option (Option Q)) (L : Q → List S → Type 0) : Type 0 where
  pub back : (q : Q) (s : S) → Back L q s (step q s)
  pub comes : (q : Q) (symbols : List S) → L q symbols → Came step L q symbols
  pub ending : (q : Q) → (symbols : List S) × L q symbols

-- the symbols themselves, which stand in the language
abbrev pub Flat : {S : Type 0} → (List S → Type 0) → List S → List S → Type 0
Flat L flat symbols = (flat ≡ symbols) × L symbols

module _ {S Q : Type 0} (step : Q → S → Option (Option Q)) (L : Q → List S → Type 0) (m : Machine step L) where
  done_back : (q : Q) (s : S) → step q s ≡ Some None → L q (s ∷ [])
  done_back q s e = subst (Back L q s) e (m.back q s)

  go_back : (q : Q) (s : S) (r : Q) → step q s ≡ Some (Some r) → (symbols : List S) → L r symbols → L q (s ∷ symbols)
  go_back q s r e = subst (Back L q s) e (m.back q s)

  took_done : (q : Q) (s : S) (symbols x rest : List S) → step q s ≡ Some None → turned (Some None) s symbols (λ r. run step r symbols) ≡ Ok (x, rest)
      → Took (Flat (L q)) (run step q) (s ∷ symbols) x rest
  took_done q s symbols x rest is e =
      let it : Took (Flat (L q)) (run step q) (s ∷ symbols) (s ∷ []) symbols = record { used = s ∷ []; parts = refl; fits = (refl, done_back q s is); again = λ more same. rw is refl } in
      subst (λ (p : List S × List S). Took (Flat (L q)) (run step q) (s ∷ symbols) p.0 p.1) (okay_is (s ∷ [], symbols) (x, rest) e) it

  took_go : (q : Q) (s : S) (symbols x rest : List S) (r : Q) → step q s ≡ Some (Some r) → ((y l : List S) → run step r symbols ≡ Ok (y, l) → Took (Flat (L r)) (run step r) symbols y l)
      → turned (Some (Some r)) s symbols (λ r. run step r symbols) ≡ Ok (x, rest) → Took (Flat (L q)) (run step q) (s ∷ symbols) x rest
  took_go q s symbols x rest r is further e =
      let a = bind_okay (run step r symbols) (λ y. Ok (s ∷ y.0, y.1)) (x, rest) e in
      let t = further a.0.0 a.0.1 a.1 in
      let it : Took (Flat (L q)) (run step q) (s ∷ symbols) (s ∷ a.0.0) a.0.1 = record {
        used = s ∷ t.used;
        parts = ap (λ (l : List S). s ∷ l) t.parts;
        fits = (ap (λ (l : List S). s ∷ l) t.fits.0, go_back q s r is t.used t.fits.1);
        again = λ more same. rw (is, t.again more same) refl;
      } in
      subst (λ (p : List S × List S). Took (Flat (L q)) (run step q) (s ∷ symbols) p.0 p.1) (okay_is (s ∷ a.0.0, a.0.1) (x, rest) a.2) it

  took_by : (q : Q) (s : S) (symbols x rest : List S) (o : Option (Option Q)) → step q s ≡ o → ((r : Q) (y l : List S) → run step r symbols ≡ Ok (y, l) → Took (Flat (L r)) (run step r) symbols y l)
      → turned o s symbols (λ r. run step r symbols) ≡ Ok (x, rest) → Took (Flat (L q)) (run step q) (s ∷ symbols) x rest
  took_by q s symbols x rest None is further e = absurd cc
  took_by q s symbols x rest (Some None) is further e = took_done q s symbols x rest is e
  took_by q s symbols x rest (Some (Some r)) is further e = took_go q s symbols x rest r is (further r) e

  run_took : (symbols : List S) (q : Q) (x rest : List S) → run step q symbols ≡ Ok (x, rest) → Took (Flat (L q)) (run step q) symbols x rest
  run_took [] q x rest e = absurd cc
  run_took (s ∷ symbols) q x rest e = took_by q s symbols x rest (step q s) refl (run_took symbols) e

  takes_by : (used : List S) (q : Q) (rest : List S) (s : S) (others : List S) → ((r : Q) → L r others → run step r (others ++ rest) ≡ Ok (others, rest))
      → (((step q s ≡ Some None) × (others ≡ [])) ⊎ ((r : Q) × (step q s ≡ Some (Some r)) × L r others)) → run step q ((s ∷ others) ++ rest) ≡ Ok (s ∷ others, rest)
  takes_by used q rest s others further (inl e) = rw (e.0, e.1) refl
  takes_by used q rest s others further (inr e) = rw (e.1, further e.0 e.2) refl

  run_takes : (used : List S) (q : Q) (rest : List S) → L q used → run step q (used ++ rest) ≡ Ok (used, rest)
  run_takes [] q rest d = absurd (let c = m.comes q [] d in let e : [] ≡ c.0 ∷ c.1 = c.2 in cc)
  run_takes (s ∷ used) q rest d =
      let c = m.comes q (s ∷ used) d in
      let head : c.0 ≡ s = cc in
      let tail : c.1 ≡ used = cc in
      let now : ((step q s ≡ Some None) × (used ≡ [])) ⊎ ((r : Q) × (step q s ≡ Some (Some r)) × L r used) =
      subst (λ (t : S). ((step q t ≡ Some None) × (used ≡ [])) ⊎ ((r : Q) × (step q t ≡ Some (Some r)) × L r used)) head
      (subst (λ (l : List S). ((step q c.0 ≡ Some None) × (l ≡ [])) ⊎ ((r : Q) × (step q c.0 ≡ Some (Some r)) × L r l)) tail c.3) in
      takes_by used q rest s used (λ r l. run_takes used r rest l) now

  -- ---- where it is stuck

  stuck_here : (q : Q) (s : S) (symbols : List S) (left : ℕ) → step q s ≡ None → left ≡ length (s ∷ symbols) → Stuck (Flat (L q)) (run step q) (s ∷ symbols) left
  stuck_here q s symbols left is count =
      let e = m.ending q in
      record {
        front = [];
        rest = s ∷ symbols;
        parts = refl;
        count = count;
        again = λ more same. let t = symbol_first more s same in rw (t.1, is) refl;
        item = e.0;
        others = e.0;
        fits = (refl, e.1);
      }

  stuck_further : (q : Q) (s : S) (symbols : List S) (left : ℕ) (r : Q) → step q s ≡ Some (Some r) → Stuck (Flat (L r)) (run step r) symbols left → Stuck (Flat (L q)) (run step q) (s ∷ symbols) left
  stuck_further q s symbols left r is t = record {
    front = s ∷ t.front;
    rest = t.rest;
    parts = ap (λ (l : List S). s ∷ l) t.parts;
    count = t.count;
    again = λ more same. rw (is, t.again more same) refl;
    item = s ∷ t.item;
    others = t.others;
    fits = (ap (λ (l : List S). s ∷ l) t.fits.0, go_back q s r is (t.front ++ t.others) t.fits.1);
  }

  stuck_by : (q : Q) (s : S) (symbols : List S) (left : ℕ) (o : Option (Option Q)) → step q s ≡ o → ((r : Q) → run step r symbols ≡ Err left → Stuck (Flat (L r)) (run step r) symbols left)
      → turned o s symbols (λ r. run step r symbols) ≡ Err left → Stuck (Flat (L q)) (run step q) (s ∷ symbols) left
  stuck_by q s symbols left None is further e = stuck_here q s symbols left is (sym (stop_is {A = List S × List S} (length (s ∷ symbols)) left e))
  stuck_by q s symbols left (Some None) is further e = absurd cc
  stuck_by q s symbols left (Some (Some r)) is further e = stuck_further q s symbols left r is (further r (made_stop (run step r symbols) (λ (y : List S). s ∷ y) left e))

  run_stuck : (symbols : List S) (q : Q) (left : ℕ) → run step q symbols ≡ Err left → Stuck (Flat (L q)) (run step q) symbols left
  run_stuck [] q left e =
      let t = m.ending q in
      record {
        front = [];
        rest = [];
        parts = refl;
        count = sym (stop_is {A = List S × List S} 0 left e);
        again = λ more same. rw (nothing_first more same) refl;
        item = t.0;
        others = t.0;
        fits = (refl, t.1);
      }
  run_stuck (s ∷ symbols) q left e = stuck_by q s symbols left (step q s) refl (λ r f. run_stuck symbols r left f) e

  pub run_reads : (q : Q) → Reads (Flat (L q)) none (run step q)
  run_reads q =
      let t = m.ending q in
      record {
        took = λ symbols x rest e. run_took symbols q x rest e;
        takes = λ x used rest d stops. run_takes used q rest d.1 ∙ ap (λ (l : List S). Ok (l, rest)) (sym d.0);
        stuck = λ symbols left e. run_stuck symbols q left e;
        some = t.0;
        some_symbols = t.0;
        some_fits = (refl, t.1);
      }

-- ---- a loop in code: what is taken so far, and what is still taken

module _ {S Q : Type 0} (step : Q → S → Option (Option Q)) where
  pub run_goes_on : (front : List S) (q : Q) (s : S) (symbols : List S) (r : Q) (total : Answer S (List S)) → step q s ≡ Some (Some r)
      → with_front front (run step q (s ∷ symbols)) ≡ total → with_front (front ++ s ∷ []) (run step r symbols) ≡ total
  run_goes_on front q s symbols r total is so_far =
      let one : with_front front (run step q (s ∷ symbols)) ≡ with_front (front ++ s ∷ []) (run step r symbols) = rw is (front_moves front s (run step r symbols)) in
      sym one ∙ so_far

  pub run_is_done : (front : List S) (q : Q) (s : S) (symbols : List S) (total : Answer S (List S)) → step q s ≡ Some None
      → with_front front (run step q (s ∷ symbols)) ≡ total → total ≡ Ok (front ++ s ∷ [], symbols)
  run_is_done front q s symbols total is so_far =
      let one : with_front front (run step q (s ∷ symbols)) ≡ Ok (front ++ s ∷ [], symbols) = rw is refl in
      sym so_far ∙ one

  pub run_is_stuck : (front : List S) (q : Q) (s : S) (symbols : List S) (total : Answer S (List S)) → step q s ≡ None
      → with_front front (run step q (s ∷ symbols)) ≡ total → total ≡ Err (length (s ∷ symbols))
  run_is_stuck front q s symbols total is so_far =
      let one : with_front front (run step q (s ∷ symbols)) ≡ Err (length (s ∷ symbols)) = rw is refl in
      sym so_far ∙ one

-- what is read behind a first symbol
abbrev pub behind_first : {S : Type 0} → S → Answer S (List S) → Answer S (S × List S)
behind_first s answer = answer >>= λ x. Ok ((s, x.0), x.1)

pub first_front : {S : Type 0} (s : S) (answer : Answer S (List S)) → with_front (s ∷ []) answer ≡ (behind_first s answer >>= λ p. Ok (p.0.0 ∷ p.0.1, p.1))
first_front s (Ok x) = refl
first_front s (Err n) = refl
