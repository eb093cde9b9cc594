-- What is known of a reader of a language, and of the readers of one symbol, of none and of the end.
use Rattle.std.proofs.Common.{◌≡◌, ℕ, Bool, false, List, [], ◌∷◌, ◌++◌, length, Option, Some, None, Result, Ok, Err, refl, sym, ap, ◌∙◌, append_assoc}
use Rattle.reading.specs.Language.{Nothing, One}
use Rattle.reading.specs.Readers.{Answer, ◌>>=◌, begins, none, all, of_worth, one, nothing, ends}

-- ---- steps that may fail

abbrev pub okay : {A : Type 0} → A → Result A ℕ
okay x = Ok x

abbrev pub stop : {A : Type 0} → ℕ → Result A ℕ
stop {A} n = Err n

pub okay_is : {A : Type 0} (x y : A) → okay x ≡ okay y → x ≡ y
okay_is x y e = cc

pub stop_is : {A : Type 0} (n m : ℕ) → stop {A = A} n ≡ stop {A = A} m → n ≡ m
stop_is n m e = cc

pub never_both : {A : Type 0} (x : A) (n : ℕ) (r : Result A ℕ) → r ≡ Ok x → r ≡ Err n → ⊥
never_both x n r e f = cc

pub bind_okay : {A B : Type 0} (r : Result A ℕ) (f : A → Result B ℕ) (y : B) → (r >>= f) ≡ Ok y → (x : A) × (r ≡ Ok x) × (f x ≡ Ok y)
bind_okay (Ok x) f y e = (x, refl, e)
bind_okay (Err n) f y e = absurd cc

-- a step that stops, or one behind a step that does not
pub data StopsIn {A B : Type 0} (r : Result A ℕ) (f : A → Result B ℕ) (n : ℕ) : Type 0 where
  here : r ≡ Err n → StopsIn r f n
  later : (x : A) → r ≡ Ok x → f x ≡ Err n → StopsIn r f n

pub bind_stop : {A B : Type 0} (r : Result A ℕ) (f : A → Result B ℕ) (n : ℕ) → (r >>= f) ≡ Err n → StopsIn r f n
bind_stop (Ok x) f n e = later x refl e
bind_stop (Err m) f n e = here (ap (λ k. Err k) (stop_is m n e))

-- making something of an answer does not stop
pub made_stop : {S X Y : Type 0} (r : Answer S X) (f : X → Y) (n : ℕ) → (r >>= λ x. Ok (f x.0, x.1)) ≡ stop {A = Y × List S} n → r ≡ Err n
made_stop {S} {X} {Y} (Ok x) f n e = absurd cc
made_stop {S} {X} {Y} (Err m) f n e = ap (λ k. Err k) (stop_is {A = Y × List S} m n e)

-- ---- the first symbol

abbrev pub first : {S : Type 0} → List S → Option S
first [] = None
first (s ∷ symbols) = Some s

-- no symbol that passes stands first
abbrev pub Stops : {S : Type 0} → (S → Bool) → List S → Type 0
Stops goes symbols = begins goes symbols ≡ false

module _ {S : Type 0} where
  pub begins_by_first : (test : S → Bool) (a b : List S) → first a ≡ first b → begins test a ≡ begins test b
  begins_by_first test [] [] e = refl
  begins_by_first test [] (s ∷ b) e = absurd cc
  begins_by_first test (s ∷ a) [] e = absurd cc
  begins_by_first test (s ∷ a) (t ∷ b) e = let same : s ≡ t = cc in ap test same

  pub first_behind : (front a b : List S) → first a ≡ first b → first (front ++ a) ≡ first (front ++ b)
  first_behind [] a b e = e
  first_behind (s ∷ front) a b e = refl

  pub nothing_first : (a : List S) → first a ≡ None → a ≡ []
  nothing_first [] e = refl
  nothing_first (s ∷ a) e = absurd cc

  pub symbol_first : (a : List S) (s : S) → first a ≡ Some s → (more : List S) × (a ≡ s ∷ more)
  symbol_first [] s e = absurd cc
  symbol_first (t ∷ a) s e = let same : t ≡ s = cc in (a, ap (λ (u : S). u ∷ a) same)

  pub stops_none : (symbols : List S) → Stops none symbols
  stops_none [] = refl
  stops_none (s ∷ symbols) = refl

  pub stops_all : (symbols : List S) → Stops all symbols → symbols ≡ []
  stops_all [] e = refl
  stops_all (s ∷ symbols) e = absurd cc

  pub regroup : (a b c : List S) → a ++ (b ++ c) ≡ (a ++ b) ++ c
  regroup a b c = sym (append_assoc a b c)

-- ---- readers

-- the symbols that were taken, what they spell, and that the next symbol alone decides it
pub record Took {S X : Type 0} (D : X → List S → Type 0) (read : List S → Answer S X) (symbols : List S) (x : X) (rest : List S) : Type 0 where
  pub used : List S
  pub parts : symbols ≡ used ++ rest
  pub fits : D x used
  pub again : (more : List S) → first more ≡ first rest → read (used ++ more) ≡ Ok (x, more)

-- the symbols that were fine, that they begin something, and that the next symbol alone is wrong
pub record Stuck {S X : Type 0} (D : X → List S → Type 0) (read : List S → Answer S X) (symbols : List S) (left : ℕ) : Type 0 where
  pub front : List S
  pub rest : List S
  pub parts : symbols ≡ front ++ rest
  pub count : left ≡ length rest
  pub again : (more : List S) → first more ≡ first rest → read (front ++ more) ≡ Err (length more)
  pub item : X
  pub others : List S
  pub fits : D item (front ++ others)

-- a reader of a language, which goes on with some symbols after a thing
pub record Reads {S X : Type 0} (D : X → List S → Type 0) (goes : S → Bool) (read : List S → Answer S X) : Type 0 where
  pub took : (symbols : List S) (x : X) (rest : List S) → read symbols ≡ Ok (x, rest) → Took D read symbols x rest
  pub takes : (x : X) (used rest : List S) → D x used → Stops goes rest → read (used ++ rest) ≡ Ok (x, rest)
  pub stuck : (symbols : List S) (left : ℕ) → read symbols ≡ Err left → Stuck D read symbols left
  pub some : X
  pub some_symbols : List S
  pub some_fits : D some some_symbols

-- ---- one symbol, none, the end

module _ {S X : Type 0} (worth : S → Option X) where
  worth_okay : (o : Option X) (s : S) (symbols : List S) (x : X) (rest : List S) → of_worth o s symbols ≡ Ok (x, rest) → (o ≡ Some x) × (symbols ≡ rest)
  worth_okay (Some y) s symbols x rest e =
      let same = okay_is (y, symbols) (x, rest) e in
      (ap (λ (q : X × List S). Some q.0) same, ap (λ (q : X × List S). q.1) same)
  worth_okay None s symbols x rest e = absurd cc

  worth_stop : (o : Option X) (s : S) (symbols : List S) (left : ℕ) → of_worth o s symbols ≡ Err left → (o ≡ None) × (left ≡ length (s ∷ symbols))
  worth_stop (Some y) s symbols left e = absurd cc
  worth_stop None s symbols left e = (refl, sym (stop_is {A = X × List S} (length (s ∷ symbols)) left e))

  one_took : (symbols : List S) (x : X) (rest : List S) → one worth symbols ≡ Ok (x, rest) → Took (One worth) (one worth) symbols x rest
  one_took [] x rest e = absurd cc
  one_took (s ∷ symbols) x rest e =
      let w = worth_okay (worth s) s symbols x rest e in
      record { used = s ∷ []; parts = ap (λ (l : List S). s ∷ l) w.1; fits = (s, w.0, refl); again = λ more same. rw w.0 refl }

  one_again : (s : S) (symbols more : List S) → worth s ≡ None → first more ≡ first (s ∷ symbols) → one worth more ≡ Err (length more)
  one_again s symbols more no_worth same = let m = symbol_first more s same in rw (m.1, no_worth) refl

  one_stuck : (x : X) (s' : S) → worth s' ≡ Some x → (symbols : List S) (left : ℕ) → one worth symbols ≡ Err left → Stuck (One worth) (one worth) symbols left
  one_stuck x s' is [] left e = record {
    front = [];
    rest = [];
    parts = refl;
    count = sym (stop_is {A = X × List S} 0 left e);
    again = λ more same. rw (nothing_first more same) refl;
    item = x;
    others = s' ∷ [];
    fits = (s', is, refl);
  }
  one_stuck x s' is (s ∷ symbols) left e =
      let w = worth_stop (worth s) s symbols left e in
      record {
        front = [];
        rest = s ∷ symbols;
        parts = refl;
        count = w.1;
        again = λ more same. one_again s symbols more w.0 same;
        item = x;
        others = s' ∷ [];
        fits = (s', is, refl);
      }

  -- a symbol that is worth something is needed: a wrong one could not be told else
  pub one_reads : (x : X) (s : S) → worth s ≡ Some x → Reads (One worth) none (one worth)
  one_reads x s is = record {
    took = one_took;
    takes = λ y used rest d stops. rw (d.2, d.1) refl;
    stuck = one_stuck x s is;
    some = x;
    some_symbols = s ∷ [];
    some_fits = (s, is, refl);
  }

module _ {S : Type 0} where
  pub nothing_reads : Reads {S = S} (λ (_ : Unit {0}). Nothing) none nothing
  nothing_reads = record {
    took = λ symbols x rest e. record { used = []; parts = ap (λ (q : Unit {0} × List S). q.1) (okay_is (tt, symbols) (x, rest) e); fits = refl; again = λ more same. refl };
    takes = λ x used rest d stops. rw d refl;
    stuck = λ symbols left e. absurd cc;
    some = tt;
    some_symbols = [];
    some_fits = refl;
  }

  ends_took : (symbols : List S) (x : Unit {0}) (rest : List S) → ends symbols ≡ Ok (x, rest) → Took (λ (_ : Unit {0}). Nothing) ends symbols x rest
  ends_took [] x rest e =
      let same : [] ≡ rest = ap (λ (q : Unit {0} × List S). q.1) (okay_is (tt, []) (x, rest) e) in
      record { used = []; parts = same; fits = refl; again = λ more is. rw (nothing_first more (is ∙ ap (λ (l : List S). first l) (sym same))) refl }
  ends_took (s ∷ symbols) x rest e = absurd cc

  ends_again : (s : S) (symbols more : List S) → first more ≡ first (s ∷ symbols) → ends more ≡ Err (length more)
  ends_again s symbols more same = let m = symbol_first more s same in rw m.1 refl

  ends_stuck : (symbols : List S) (left : ℕ) → ends symbols ≡ Err left → Stuck (λ (_ : Unit {0}). Nothing) ends symbols left
  ends_stuck [] left e = absurd cc
  ends_stuck (s ∷ symbols) left e = record {
    front = [];
    rest = s ∷ symbols;
    parts = refl;
    count = sym (stop_is {A = Unit {0} × List S} (length (s ∷ symbols)) left e);
    again = λ more same. ends_again s symbols more same;
    item = tt;
    others = [];
    fits = refl;
  }

  ends_takes : (rest : List S) → Stops all rest → ends rest ≡ Ok (tt, rest)
  ends_takes [] stops = refl
  ends_takes (s ∷ rest) stops = absurd cc

  pub ends_reads : Reads {S = S} (λ (_ : Unit {0}). Nothing) all ends
  ends_reads = record {
    took = ends_took;
    takes = λ x used rest d stops. rw d (ends_takes rest stops);
    stuck = ends_stuck;
    some = tt;
    some_symbols = [];
    some_fits = refl;
  }
