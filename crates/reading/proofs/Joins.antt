-- The laws of two readers that are joined: one behind the other, one made of another, one or the other.
use Rattle.std.proofs.Common.{◌≡◌, ℕ, Bool, true, false, cond, List, ◌++◌, Ok, Err, ◌⊎◌, inl, inr, refl, sym, ap, subst, ◌∙◌, append_assoc}
use Rattle.reading.specs.Language.{◌⨾◌}
use Rattle.reading.specs.Readers.{Answer, ◌>>=◌, begins, none, pair, made, either}
use Rattle.reading.proofs.Laws.{okay_is, bind_okay, StopsIn, here, later, bind_stop, made_stop, first, Stops, begins_by_first, first_behind, stops_none, regroup, Took, Stuck, Reads}

-- ---- one behind the other

module _ {S X Y : Type 0} where
  -- the language of two things
  abbrev pub Both : (X → List S → Type 0) → (Y → List S → Type 0) → X × Y → List S → Type 0
  Both D E p = D p.0 ⨾ E p.1

module _ {S X Y : Type 0} (D : X → List S → Type 0) (E : Y → List S → Type 0) (goes more : S → Bool) (read : List S → Answer S X) (second : List S → Answer S Y)
    (h : Reads D goes read) (k : Reads E more second) where
  pair_again : (a b tail rest : List S) (x : X) (y : Y) → ((l : List S) → first l ≡ first (b ++ rest) → read (a ++ l) ≡ Ok (x, l))
      → ((l : List S) → first l ≡ first rest → second (b ++ l) ≡ Ok (y, l)) → first tail ≡ first rest → pair read second ((a ++ b) ++ tail) ≡ Ok ((x, y), tail)
  pair_again a b tail rest x y one two same =
      rw (append_assoc a b tail, one (b ++ tail) (first_behind b tail rest same), two tail same) refl

  pair_took : (symbols : List S) (p : X × Y) (rest : List S) → pair read second symbols ≡ Ok (p, rest) → Took (Both D E) (pair read second) symbols p rest
  pair_took symbols p rest e =
      let a = bind_okay (read symbols) (λ x. second x.1 >>= λ y. Ok ((x.0, y.0), y.1)) (p, rest) e in
      let b = bind_okay (second a.0.1) (λ y. Ok ((a.0.0, y.0), y.1)) (p, rest) a.2 in
      let t = h.took symbols a.0.0 a.0.1 a.1 in
      let u = k.took a.0.1 b.0.0 b.0.1 b.1 in
      let both : Took (Both D E) (pair read second) symbols (a.0.0, b.0.0) b.0.1 = record {
        used = t.used ++ u.used;
        parts = t.parts ∙ ap (λ (r : List S). t.used ++ r) u.parts ∙ regroup t.used u.used b.0.1;
        fits = (t.used, u.used, refl, t.fits, u.fits);
        again = λ tail same. pair_again t.used u.used tail b.0.1 a.0.0 b.0.0 (λ l is. t.again l (is ∙ ap (λ (r : List S). first r) (sym u.parts))) u.again same;
      } in
      subst (λ (q : (X × Y) × List S). Took (Both D E) (pair read second) symbols q.0 q.1) (okay_is ((a.0.0, b.0.0), b.0.1) (p, rest) b.2) both

  pair_takes : ((y : Y) (used rest : List S) → E y used → Stops more rest → Stops goes (used ++ rest))
      → (p : X × Y) (used rest : List S) → Both D E p used → Stops more rest → pair read second (used ++ rest) ≡ Ok (p, rest)
  pair_takes apart p used rest d stops =
      let one : read (d.0 ++ (d.1 ++ rest)) ≡ Ok (p.0, d.1 ++ rest) = h.takes p.0 d.0 (d.1 ++ rest) d.3 (apart p.1 d.1 rest d.4 stops) in
      let two : second (d.1 ++ rest) ≡ Ok (p.1, rest) = k.takes p.1 d.1 rest d.4 stops in
      rw (d.2, append_assoc d.0 d.1 rest, one, two) refl

  pair_stuck_first : (symbols : List S) (left : ℕ) → Stuck D read symbols left → Stuck (Both D E) (pair read second) symbols left
  pair_stuck_first symbols left t = record {
    front = t.front;
    rest = t.rest;
    parts = t.parts;
    count = t.count;
    again = λ tail same. rw (t.again tail same) refl;
    item = (t.item, k.some);
    others = t.others ++ k.some_symbols;
    fits = (t.front ++ t.others, k.some_symbols, regroup t.front t.others k.some_symbols, t.fits, k.some_fits);
  }

  pair_stuck_second : (symbols : List S) (x : X) (middle : List S) (left : ℕ) → Took D read symbols x middle → Stuck E second middle left → Stuck (Both D E) (pair read second) symbols left
  pair_stuck_second symbols x middle left t u = record {
    front = t.used ++ u.front;
    rest = u.rest;
    parts = t.parts ∙ ap (λ (r : List S). t.used ++ r) u.parts ∙ regroup t.used u.front u.rest;
    count = u.count;
    again = λ tail same.
        let one : read (t.used ++ (u.front ++ tail)) ≡ Ok (x, u.front ++ tail) = t.again (u.front ++ tail) (first_behind u.front tail u.rest same ∙ ap (λ (r : List S). first r) (sym u.parts)) in
        rw (append_assoc t.used u.front tail, one, u.again tail same) refl;
    item = (x, u.item);
    others = u.others;
    fits = (t.used, u.front ++ u.others, append_assoc t.used u.front u.others, t.fits, u.fits);
  }

  pair_stuck_by : (symbols : List S) (left : ℕ) → StopsIn {B = (X × Y) × List S} (read symbols) (λ x. second x.1 >>= λ y. Ok ((x.0, y.0), y.1)) left → Stuck (Both D E) (pair read second) symbols left
  pair_stuck_by symbols left (here e) = pair_stuck_first symbols left (h.stuck symbols left e)
  pair_stuck_by symbols left (later x e f) =
      pair_stuck_second symbols x.0 x.1 left (h.took symbols x.0 x.1 e) (k.stuck x.1 left (made_stop (second x.1) (λ y. (x.0, y)) left f))

  -- what the first goes on with does not begin what may stand behind it
  pub pair_reads : ((y : Y) (used rest : List S) → E y used → Stops more rest → Stops goes (used ++ rest)) → Reads (Both D E) more (pair read second)
  pair_reads apart = record {
    took = pair_took;
    takes = pair_takes apart;
    stuck = λ symbols left e. pair_stuck_by symbols left (bind_stop (read symbols) (λ x. second x.1 >>= λ y. Ok ((x.0, y.0), y.1)) left e);
    some = (h.some, k.some);
    some_symbols = h.some_symbols ++ k.some_symbols;
    some_fits = (h.some_symbols, k.some_symbols, refl, h.some_fits, k.some_fits);
  }

-- where the first reader goes on with nothing
pub then_reads : {S X Y : Type 0} (D : X → List S → Type 0) (E : Y → List S → Type 0) (more : S → Bool) (read : List S → Answer S X) (second : List S → Answer S Y)
    → Reads D none read → Reads E more second → Reads (Both D E) more (pair read second)
then_reads D E more read second h k = pair_reads D E none more read second h k (λ y used rest d stops. stops_none (used ++ rest))

-- ---- one made of another

pub made_reads : {S X Y : Type 0} (D : X → List S → Type 0) (E : Y → List S → Type 0) (goes : S → Bool) (f : X → Y) (read : List S → Answer S X)
    → Reads D goes read
    → ((x : X) (symbols : List S) → D x symbols → E (f x) symbols)
    → ((y : Y) (symbols : List S) → E y symbols → (x : X) × (f x ≡ y) × D x symbols)
    → Reads E goes (made f read)
made_reads {S} {X} {Y} D E goes f read h forth back = record {
  took = λ symbols y rest e.
      let a = bind_okay (read symbols) (λ x. Ok (f x.0, x.1)) (y, rest) e in
      let t = h.took symbols a.0.0 a.0.1 a.1 in
      let it : Took E (made f read) symbols (f a.0.0) a.0.1 = record { used = t.used; parts = t.parts; fits = forth a.0.0 t.used t.fits; again = λ more same. rw (t.again more same) refl } in
      subst (λ (q : Y × List S). Took E (made f read) symbols q.0 q.1) (okay_is (f a.0.0, a.0.1) (y, rest) a.2) it;
  takes = λ y used rest d stops.
      let b = back y used d in
      rw (h.takes b.0 used rest b.2 stops) (ap (λ (v : Y). Ok (v, rest)) b.1);
  stuck = λ symbols left e.
      let t = h.stuck symbols left (made_stop (read symbols) f left e) in
      record {
        front = t.front;
        rest = t.rest;
        parts = t.parts;
        count = t.count;
        again = λ more same. rw (t.again more same) refl;
        item = f t.item;
        others = t.others;
        fits = forth t.item (t.front ++ t.others) t.fits;
      };
  some = f h.some;
  some_symbols = h.some_symbols;
  some_fits = forth h.some h.some_symbols h.some_fits;
}

-- ---- more symbols to go on with

pub weaker_reads : {S X : Type 0} (D : X → List S → Type 0) (goes more : S → Bool) (read : List S → Answer S X)
    → ((symbols : List S) → Stops more symbols → Stops goes symbols) → Reads D goes read → Reads D more read
weaker_reads D goes more read weaker h = record {
  took = h.took;
  takes = λ x used rest d stops. h.takes x used rest d (weaker rest stops);
  stuck = h.stuck;
  some = h.some;
  some_symbols = h.some_symbols;
  some_fits = h.some_fits;
}

-- what goes on with nothing may be said to go on with anything
pub sure_reads : {S X : Type 0} (D : X → List S → Type 0) (goes : S → Bool) (read : List S → Answer S X) → Reads D none read → Reads D goes read
sure_reads D goes read h = weaker_reads D none goes read (λ symbols stops. stops_none symbols) h

-- ---- one or the other

module _ {S X : Type 0} (D E F : X → List S → Type 0) (goes : S → Bool) (test : S → Bool) (read other : List S → Answer S X) (h : Reads D goes read) (k : Reads E goes other)
    (left : (x : X) (symbols : List S) → D x symbols → F x symbols) (right : (x : X) (symbols : List S) → E x symbols → F x symbols) where
  first_again : (front more rest : List S) (b : Bool) → first more ≡ first rest → begins test (front ++ rest) ≡ b → begins test (front ++ more) ≡ b
  first_again front more rest b same is = begins_by_first test (front ++ more) (front ++ rest) (first_behind front more rest same) ∙ is

  either_took : (b : Bool) (symbols : List S) (x : X) (rest : List S) → begins test symbols ≡ b → cond b (read symbols) (other symbols) ≡ Ok (x, rest) → Took F (either test read other) symbols x rest
  either_took true symbols x rest is e =
      let t = h.took symbols x rest e in
      record {
        used = t.used;
        parts = t.parts;
        fits = left x t.used t.fits;
        again = λ more same. rw (first_again t.used more rest true same (ap (begins test) (sym t.parts) ∙ is)) (t.again more same);
      }
  either_took false symbols x rest is e =
      let t = k.took symbols x rest e in
      record {
        used = t.used;
        parts = t.parts;
        fits = right x t.used t.fits;
        again = λ more same. rw (first_again t.used more rest false same (ap (begins test) (sym t.parts) ∙ is)) (t.again more same);
      }

  either_stuck : (b : Bool) (symbols : List S) (n : ℕ) → begins test symbols ≡ b → cond b (read symbols) (other symbols) ≡ Err n → Stuck F (either test read other) symbols n
  either_stuck true symbols n is e =
      let t = h.stuck symbols n e in
      record {
        front = t.front;
        rest = t.rest;
        parts = t.parts;
        count = t.count;
        again = λ more same. rw (first_again t.front more t.rest true same (ap (begins test) (sym t.parts) ∙ is)) (t.again more same);
        item = t.item;
        others = t.others;
        fits = left t.item (t.front ++ t.others) t.fits;
      }
  either_stuck false symbols n is e =
      let t = k.stuck symbols n e in
      record {
        front = t.front;
        rest = t.rest;
        parts = t.parts;
        count = t.count;
        again = λ more same. rw (first_again t.front more t.rest false same (ap (begins test) (sym t.parts) ∙ is)) (t.again more same);
        item = t.item;
        others = t.others;
        fits = right t.item (t.front ++ t.others) t.fits;
      }

  either_takes : ((x : X) (used rest : List S) → D x used → begins test (used ++ rest) ≡ true)
      → ((x : X) (used rest : List S) → E x used → Stops goes rest → begins test (used ++ rest) ≡ false)
      → (x : X) (used rest : List S) → Stops goes rest → D x used ⊎ E x used → either test read other (used ++ rest) ≡ Ok (x, rest)
  either_takes starts differs x used rest stops (inl d) = rw (starts x used rest d) (h.takes x used rest d stops)
  either_takes starts differs x used rest stops (inr e) = rw (differs x used rest e stops) (k.takes x used rest e stops)

  -- the first symbol tells which of the two it is
  pub either_reads : ((x : X) (used rest : List S) → D x used → begins test (used ++ rest) ≡ true)
      → ((x : X) (used rest : List S) → E x used → Stops goes rest → begins test (used ++ rest) ≡ false)
      → ((x : X) (symbols : List S) → F x symbols → D x symbols ⊎ E x symbols)
      → Reads F goes (either test read other)
  either_reads starts differs back = record {
    took = λ symbols x rest e. either_took (begins test symbols) symbols x rest refl e;
    takes = λ x used rest f stops. either_takes starts differs x used rest stops (back x used f);
    stuck = λ symbols n e. either_stuck (begins test symbols) symbols n refl e;
    some = k.some;
    some_symbols = k.some_symbols;
    some_fits = right k.some k.some_symbols k.some_fits;
  }
