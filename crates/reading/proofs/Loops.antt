-- The law of the reader of many things, and of the loops that read them.
use Rattle.std.proofs.Common.{◌≡◌, ℕ, zero, suc, ◌<◌, ◌≤◌, Bool, true, false, cond, ◌||◌, List, [], ◌∷◌, ◌++◌, length, Result, Ok, Err, refl, sym, ap, subst, ◌∙◌, append_assoc, arith, length-append}
use Rattle.std.proofs.lemmas.List.{append-nil}
use Rattle.reading.specs.Language.{Each}
use Rattle.reading.specs.Readers.{Answer, ◌>>=◌, begins, many_of, many}
use Rattle.reading.proofs.Laws.{okay_is, bind_okay, StopsIn, here, later, bind_stop, made_stop, first, Stops, begins_by_first, first_behind, regroup, Took, Stuck, Reads}

-- what two steps make of one answer
bind_same : {A B : Type 0} (r : Result A ℕ) (f g : A → Result B ℕ) → ((x : A) → r ≡ Ok x → f x ≡ g x) → (r >>= f) ≡ (r >>= g)
bind_same (Err n) f g same = refl
bind_same (Ok x) f g same = same x refl

either_false : (a b : Bool) → (a || b) ≡ false → (a ≡ false) × (b ≡ false)
either_false true b e = absurd cc
either_false false b e = (refl, e)

module _ {S X : Type 0} where
  abbrev no_more : List S → Answer S (List X)
  no_more symbols = Ok ([], symbols)

  -- one thing, and what is read behind it
  abbrev one_more : (List S → Answer S X) → (List S → Answer S (List X)) → List S → Answer S (List X)
  one_more read others symbols = read symbols >>= λ x. others x.1 >>= λ xs. Ok (x.0 ∷ xs.0, xs.1)

  -- what was read before, and what is still read
  abbrev pub with_front : List X → Answer S (List X) → Answer S (List X)
  with_front front answer = answer >>= λ x. Ok (front ++ x.0, x.1)

  pub front_moves : (front : List X) (x : X) (answer : Answer S (List X)) → with_front front (answer >>= λ xs. Ok (x ∷ xs.0, xs.1)) ≡ with_front (front ++ x ∷ []) answer
  front_moves front x (Ok xs) = ap (λ (l : List X). Ok (l, xs.1)) (sym (append_assoc front (x ∷ []) xs.0))
  front_moves front x (Err n) = refl

  -- each thing begins with a symbol that passes, with which none goes on
  pub record Loops (D : X → List S → Type 0) (goes test : S → Bool) (read : List S → Answer S X) : Type 0 where
    pub reads : Reads D goes read
    pub starts : (x : X) (used rest : List S) → D x used → begins test (used ++ rest) ≡ true
    pub apart : (s : S) → test s ≡ true → goes s ≡ false

module _ {S X : Type 0} (D : X → List S → Type 0) (goes test : S → Bool) (read : List S → Answer S X) (h : Loops D goes test read) where
  -- what stops the things: no further one, and none that goes on
  abbrev pub on : S → Bool
  on s = test s || goes s

  -- a thing has a symbol
  longer : (x : X) (used rest : List S) → D x used → length rest < length (used ++ rest)
  longer x [] rest d = absurd (let e : false ≡ true = h.starts x [] [] d in cc)
  longer x (s ∷ used) rest d = omega (arith, length-append (s ∷ used) rest)

  pub shorter : (symbols : List S) (x : X) (rest : List S) → read symbols ≡ Ok (x, rest) → length rest < length symbols
  shorter symbols x rest e = let t = h.reads.took symbols x rest e in rw t.parts (longer x t.used rest t.fits)

  -- ---- one turn of the loop

  many_none : (n : ℕ) (rest : List S) → Stops test rest → many_of n test read rest ≡ Ok ([], rest)
  many_none zero rest e = refl
  many_none (suc n) rest e = rw e refl

  many_fuel : (n m : ℕ) (symbols : List S) → length symbols ≤ n → length symbols ≤ m → many_of n test read symbols ≡ many_of m test read symbols
  many_fuel zero m [] few fewer = sym (many_none m [] refl)
  many_fuel zero m (s ∷ symbols) few fewer = absurd (omega arith)
  many_fuel (suc n) zero [] few fewer = refl
  many_fuel (suc n) zero (s ∷ symbols) few fewer = absurd (omega arith)
  many_fuel (suc n) (suc m) symbols few fewer =
      let same : one_more read (many_of n test read) symbols ≡ one_more read (many_of m test read) symbols =
      bind_same (read symbols) _ _ (λ x e. ap (λ (r : Answer S (List X)). r >>= λ xs. Ok (x.0 ∷ xs.0, xs.1))
      (many_fuel n m x.1 (omega (arith, shorter symbols x.0 x.1 e)) (omega (arith, shorter symbols x.0 x.1 e)))) in
      ap (λ (r : Answer S (List X)). cond (begins test symbols) r (no_more symbols)) same

  many_step : (symbols : List S) → begins test symbols ≡ true → many test read symbols ≡ one_more read (many test read) symbols
  many_step [] e = absurd cc
  many_step (s ∷ symbols) e =
      rw e (bind_same (read (s ∷ symbols)) _ _ (λ x is. ap (λ (r : Answer S (List X)). r >>= λ xs. Ok (x.0 ∷ xs.0, xs.1))
      (many_fuel (length symbols) (length x.1) x.1 (omega (arith, shorter (s ∷ symbols) x.0 x.1 is)) (omega arith))))

  many_ends : (symbols : List S) → begins test symbols ≡ false → many test read symbols ≡ no_more symbols
  many_ends symbols e = many_none (length symbols) symbols e

  -- ---- what is taken

  took_none : (symbols : List S) (xs : List X) (rest : List S) → begins test symbols ≡ false → no_more symbols ≡ Ok (xs, rest) → Took (Each D) (many test read) symbols xs rest
  took_none symbols xs rest last e =
      let it : Took (Each D) (many test read) symbols [] symbols = record { used = []; parts = refl; fits = refl; again = λ more same. many_ends more (begins_by_first test more symbols same ∙ last) } in
      subst (λ (q : List X × List S). Took (Each D) (many test read) symbols q.0 q.1) (okay_is ([], symbols) (xs, rest) e) it

  took_more : (symbols : List S) (x : X) (middle : List S) (xs : List X) (rest : List S) → Took D read symbols x middle → Took (Each D) (many test read) middle xs rest
      → Took (Each D) (many test read) symbols (x ∷ xs) rest
  took_more symbols x middle xs rest t u = record {
    used = t.used ++ u.used;
    parts = t.parts ∙ ap (λ (r : List S). t.used ++ r) u.parts ∙ regroup t.used u.used rest;
    fits = (t.used, u.used, refl, t.fits, u.fits);
    again = λ more same.
        let begun : begins test (t.used ++ (u.used ++ more)) ≡ true = h.starts x t.used (u.used ++ more) t.fits in
        let one : read (t.used ++ (u.used ++ more)) ≡ Ok (x, u.used ++ more) = t.again (u.used ++ more) (first_behind u.used more rest same ∙ ap (λ (r : List S). first r) (sym u.parts)) in
        rw (append_assoc t.used u.used more, many_step (t.used ++ (u.used ++ more)) begun, one, u.again more same) refl;
  }

  took_by : (n : ℕ) (b : Bool) (symbols : List S) (xs : List X) (rest : List S) → length symbols ≤ n → begins test symbols ≡ b → many test read symbols ≡ Ok (xs, rest)
      → Took (Each D) (many test read) symbols xs rest
  took_by n false symbols xs rest few b e = took_none symbols xs rest b (sym (many_ends symbols b) ∙ e)
  took_by zero true [] xs rest few b e = absurd cc
  took_by zero true (s ∷ symbols) xs rest few b e = absurd (omega arith)
  took_by (suc n) true symbols xs rest few b e =
      let step : one_more read (many test read) symbols ≡ Ok (xs, rest) = sym (many_step symbols b) ∙ e in
      let a = bind_okay (read symbols) (λ x. many test read x.1 >>= λ ys. Ok (x.0 ∷ ys.0, ys.1)) (xs, rest) step in
      let c = bind_okay (many test read a.0.1) (λ ys. Ok (a.0.0 ∷ ys.0, ys.1)) (xs, rest) a.2 in
      let t = h.reads.took symbols a.0.0 a.0.1 a.1 in
      let fewer : length a.0.1 ≤ n = omega (arith, shorter symbols a.0.0 a.0.1 a.1) in
      let u = took_by n (begins test a.0.1) a.0.1 c.0.0 c.0.1 fewer refl c.1 in
      subst (λ (q : List X × List S). Took (Each D) (many test read) symbols q.0 q.1) (okay_is (a.0.0 ∷ c.0.0, c.0.1) (xs, rest) c.2) (took_more symbols a.0.0 a.0.1 c.0.0 c.0.1 t u)

  -- ---- what is read

  first_apart : (symbols : List S) → begins test symbols ≡ true → Stops goes symbols
  first_apart [] e = refl
  first_apart (s ∷ symbols) e = h.apart s e

  stops_both : (symbols : List S) → Stops on symbols → Stops test symbols × Stops goes symbols
  stops_both [] e = (refl, refl)
  stops_both (s ∷ symbols) e = either_false (test s) (goes s) e

  begins_each : (x : X) (xs : List X) (used rest : List S) → Each D (x ∷ xs) used → begins test (used ++ rest) ≡ true
  begins_each x xs used rest d = rw (d.2, append_assoc d.0 d.1 rest) (h.starts x d.0 (d.1 ++ rest) d.3)

  next_stops : (xs : List X) (used rest : List S) → Each D xs used → Stops on rest → Stops goes (used ++ rest)
  next_stops [] used rest d stops = rw d (stops_both rest stops).1
  next_stops (x ∷ xs) used rest d stops = first_apart (used ++ rest) (begins_each x xs used rest d)

  many_takes : (xs : List X) (used rest : List S) → Each D xs used → Stops on rest → many test read (used ++ rest) ≡ Ok (xs, rest)
  many_takes [] used rest d stops = rw d (many_ends rest (stops_both rest stops).0)
  many_takes (x ∷ xs) used rest d stops =
      let begun : begins test (d.0 ++ (d.1 ++ rest)) ≡ true = h.starts x d.0 (d.1 ++ rest) d.3 in
      let one : read (d.0 ++ (d.1 ++ rest)) ≡ Ok (x, d.1 ++ rest) = h.reads.takes x d.0 (d.1 ++ rest) d.3 (next_stops xs d.1 rest d.4 stops) in
      rw (d.2, append_assoc d.0 d.1 rest, many_step (d.0 ++ (d.1 ++ rest)) begun, one, many_takes xs d.1 rest d.4 stops) refl

  -- ---- where it is stuck

  stuck_first : (symbols : List S) (left : ℕ) → begins test symbols ≡ true → Stuck D read symbols left → Stuck (Each D) (many test read) symbols left
  stuck_first symbols left b t = record {
    front = t.front;
    rest = t.rest;
    parts = t.parts;
    count = t.count;
    again = λ more same.
        let begun : begins test (t.front ++ more) ≡ true = begins_by_first test (t.front ++ more) (t.front ++ t.rest) (first_behind t.front more t.rest same) ∙ ap (begins test) (sym t.parts) ∙ b in
        rw (many_step (t.front ++ more) begun, t.again more same) refl;
    item = t.item ∷ [];
    others = t.others;
    fits = (t.front ++ t.others, [], sym (append-nil (t.front ++ t.others)), t.fits, refl);
  }

  stuck_later : (symbols : List S) (x : X) (middle : List S) (left : ℕ) → Took D read symbols x middle → Stuck (Each D) (many test read) middle left → Stuck (Each D) (many test read) symbols left
  stuck_later symbols x middle left t u = record {
    front = t.used ++ u.front;
    rest = u.rest;
    parts = t.parts ∙ ap (λ (r : List S). t.used ++ r) u.parts ∙ regroup t.used u.front u.rest;
    count = u.count;
    again = λ more same.
        let begun : begins test (t.used ++ (u.front ++ more)) ≡ true = h.starts x t.used (u.front ++ more) t.fits in
        let one : read (t.used ++ (u.front ++ more)) ≡ Ok (x, u.front ++ more) = t.again (u.front ++ more) (first_behind u.front more u.rest same ∙ ap (λ (r : List S). first r) (sym u.parts)) in
        rw (append_assoc t.used u.front more, many_step (t.used ++ (u.front ++ more)) begun, one, u.again more same) refl;
    item = x ∷ u.item;
    others = u.others;
    fits = (t.used, u.front ++ u.others, append_assoc t.used u.front u.others, t.fits, u.fits);
  }

  stuck_in : (n : ℕ) (symbols : List S) (left : ℕ) → length symbols ≤ suc n → begins test symbols ≡ true
      → ((l : List S) (k : ℕ) → length l ≤ n → many test read l ≡ Err k → Stuck (Each D) (many test read) l k)
      → StopsIn {B = List X × List S} (read symbols) (λ x. many test read x.1 >>= λ ys. Ok (x.0 ∷ ys.0, ys.1)) left → Stuck (Each D) (many test read) symbols left
  stuck_in n symbols left few b each (here e) = stuck_first symbols left b (h.reads.stuck symbols left e)
  stuck_in n symbols left few b each (later x e f) =
      stuck_later symbols x.0 x.1 left (h.reads.took symbols x.0 x.1 e)
      (each x.1 left (omega (arith, shorter symbols x.0 x.1 e)) (made_stop (many test read x.1) (λ ys. x.0 ∷ ys) left f))

  stuck_by : (n : ℕ) (b : Bool) (symbols : List S) (left : ℕ) → length symbols ≤ n → begins test symbols ≡ b → many test read symbols ≡ Err left → Stuck (Each D) (many test read) symbols left
  stuck_by n false symbols left few b e = absurd (let f : no_more symbols ≡ Err left = sym (many_ends symbols b) ∙ e in cc)
  stuck_by zero true [] left few b e = absurd cc
  stuck_by zero true (s ∷ symbols) left few b e = absurd (omega arith)
  stuck_by (suc n) true symbols left few b e =
      let step : one_more read (many test read) symbols ≡ Err left = sym (many_step symbols b) ∙ e in
      stuck_in n symbols left few b (λ l k fewer f. stuck_by n (begins test l) l k fewer refl f)
      (bind_stop (read symbols) (λ x. many test read x.1 >>= λ ys. Ok (x.0 ∷ ys.0, ys.1)) left step)

  pub many_reads : Reads (Each D) on (many test read)
  many_reads = record {
    took = λ symbols xs rest e. took_by (length symbols) (begins test symbols) symbols xs rest (omega arith) refl e;
    takes = many_takes;
    stuck = λ symbols left e. stuck_by (length symbols) (begins test symbols) symbols left (omega arith) refl e;
    some = [];
    some_symbols = [];
    some_fits = refl;
  }

  -- ---- a loop in code: what is read so far, and what is still read

  pub goes_on : (front : List X) (symbols : List S) (x : X) (after : List S) (total : Answer S (List X)) → begins test symbols ≡ true → read symbols ≡ Ok (x, after)
      → with_front front (many test read symbols) ≡ total → with_front (front ++ x ∷ []) (many test read after) ≡ total
  goes_on front symbols x after total b is so_far =
      let one : with_front front (many test read symbols) ≡ with_front (front ++ x ∷ []) (many test read after) = rw (many_step symbols b, is) (front_moves front x (many test read after)) in
      sym one ∙ so_far

  pub gets_stuck : (front : List X) (symbols : List S) (left : ℕ) (total : Answer S (List X)) → begins test symbols ≡ true → read symbols ≡ Err left
      → with_front front (many test read symbols) ≡ total → total ≡ Err left
  gets_stuck front symbols left total b is so_far =
      let one : with_front front (many test read symbols) ≡ Err left = rw (many_step symbols b, is) refl in
      sym so_far ∙ one

  pub is_done : (front : List X) (symbols : List S) (total : Answer S (List X)) → begins test symbols ≡ false
      → with_front front (many test read symbols) ≡ total → total ≡ Ok (front, symbols)
  is_done front symbols total last so_far =
      let one : with_front front (many test read symbols) ≡ Ok (front, symbols) = rw (many_ends symbols last) (ap (λ (l : List X). Ok (l, symbols)) (append-nil front)) in
      sym so_far ∙ one
