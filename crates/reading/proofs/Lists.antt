-- The laws of a thing that may be left out, and of lists with separators.
use Rattle.std.proofs.Common.{◌≡◌, Bool, true, false, ◌||◌, List, [], ◌∷◌, ◌++◌, Option, Some, None, ◌⊎◌, inl, inr, refl, sym, append_assoc}
use Rattle.reading.specs.Language.{◌⨾◌, Nothing, Maybe, Each, Listed, MaybeListed}
use Rattle.reading.specs.Readers.{Answer, begins, none, nothing, pair, made, maybe, many, behind, listed, maybe_listed}
use Rattle.reading.proofs.Laws.{Stops, Reads, nothing_reads}
use Rattle.reading.proofs.Joins.{Both, pair_reads, then_reads, made_reads, weaker_reads, sure_reads, either_reads}
use Rattle.reading.proofs.Loops.{Loops, many_reads}

right_false : (a b : Bool) → (a || b) ≡ false → (a ≡ false) × (b ≡ false)
right_false true b e = absurd cc
right_false false b e = (refl, e)

pub stops_either : {S : Type 0} (test goes : S → Bool) (symbols : List S) → Stops (λ s. test s || goes s) symbols → Stops test symbols × Stops goes symbols
stops_either test goes [] stops = (refl, refl)
stops_either test goes (s ∷ symbols) stops = right_false (test s) (goes s) stops

-- ---- a thing or none

module _ {S X : Type 0} (D : X → List S → Type 0) (goes test : S → Bool) (read : List S → Answer S X) (h : Reads D goes read)
    (starts : (x : X) (used rest : List S) → D x used → begins test (used ++ rest) ≡ true) where
  abbrev pub on_maybe : S → Bool
  on_maybe s = test s || goes s

  abbrev IsThere : Option X → List S → Type 0
  IsThere o symbols = (x : X) × (o ≡ Some x) × D x symbols

  abbrev IsGone : Option X → List S → Type 0
  IsGone o symbols = (o ≡ None) × Nothing symbols

  there : (o : Option X) (symbols : List S) → IsThere o symbols → Maybe D o symbols
  there o symbols d = rw d.1 d.2

  gone : (o : Option X) (symbols : List S) → IsGone o symbols → Maybe D o symbols
  gone o symbols d = rw d.0 d.1

  maybe_cases : (o : Option X) (symbols : List S) → Maybe D o symbols → IsThere o symbols ⊎ IsGone o symbols
  maybe_cases (Some x) symbols d = inl (x, refl, d)
  maybe_cases None symbols d = inr (refl, d)

  there_reads : Reads IsThere on_maybe (made (λ x. Some x) read)
  there_reads =
      made_reads D IsThere on_maybe (λ x. Some x) read (weaker_reads D goes on_maybe read (λ symbols stops. (stops_either test goes symbols stops).1) h)
      (λ x symbols d. (x, refl, d)) (λ o symbols d. (d.0, sym d.1, d.2))

  gone_reads : Reads IsGone on_maybe (made (λ _. None) nothing)
  gone_reads =
      made_reads (λ (_ : Unit {0}). Nothing) IsGone on_maybe (λ _. None) nothing (sure_reads (λ (_ : Unit {0}). Nothing) on_maybe nothing nothing_reads)
      (λ x symbols d. (refl, d)) (λ o symbols d. (tt, sym d.0, d.1))

  pub maybe_reads : Reads (Maybe D) on_maybe (maybe test read)
  maybe_reads =
      either_reads IsThere IsGone (Maybe D) on_maybe test (made (λ x. Some x) read) (made (λ _. None) nothing) there_reads gone_reads there gone
      (λ o used rest d. starts d.0 used rest d.2)
      (λ o used rest d stops. rw d.1 (stops_either test goes rest stops).0)
      maybe_cases

-- ---- lists with separators

module _ {S X : Type 0} (P : List S → Type 0) (test : S → Bool) (separator : List S → Answer S (Unit {0})) (c : Reads (λ (_ : Unit {0}). P) none separator)
    (starts : (used rest : List S) → P used → begins test (used ++ rest) ≡ true)
    (D : X → List S → Type 0) (goes : S → Bool) (read : List S → Answer S X) (h : Reads D goes read) (apart : (s : S) → test s ≡ true → goes s ≡ false) where
  -- a separator and a thing
  abbrev pub Behind : X → List S → Type 0
  Behind x = P ⨾ D x

  begun : (x : X) (used rest : List S) → Behind x used → begins test (used ++ rest) ≡ true
  begun x used rest d = rw (d.2, append_assoc d.0 d.1 rest) (starts d.0 (d.1 ++ rest) d.3)

  pub behind_loops : Loops Behind goes test (behind separator read)
  behind_loops = record {
    reads = made_reads (Both (λ (_ : Unit {0}). P) D) Behind goes (λ p. p.1) (pair separator read) (then_reads (λ (_ : Unit {0}). P) D goes separator read c h)
        (λ p symbols d. d) (λ x symbols d. ((tt, x), refl, d));
    starts = begun;
    apart = apart;
  }

  abbrev pub on_list : S → Bool
  on_list s = test s || goes s

  begins_apart : (symbols : List S) → begins test symbols ≡ true → Stops goes symbols
  begins_apart [] e = refl
  begins_apart (s ∷ symbols) e = apart s e

  each_stops : (xs : List X) (used rest : List S) → Each Behind xs used → Stops on_list rest → Stops goes (used ++ rest)
  each_stops [] used rest d stops = rw d (stops_either test goes rest stops).1
  each_stops (x ∷ xs) used rest d stops = begins_apart (used ++ rest) (rw (d.2, append_assoc d.0 d.1 rest) (begun x d.0 (d.1 ++ rest) d.3))

  list_of : (xs : List X) (symbols : List S) → Listed P D xs symbols → (p : X × List X) × (p.0 ∷ p.1 ≡ xs) × Both D (Each Behind) p symbols
  list_of [] symbols d = absurd d
  list_of (x ∷ xs) symbols d = ((x, xs), refl, d)

  pub listed_reads : Reads (Listed P D) on_list (listed test separator read)
  listed_reads =
      made_reads (Both D (Each Behind)) (Listed P D) on_list (λ p. p.0 ∷ p.1) (pair read (many test (behind separator read)))
      (pair_reads D (Each Behind) goes on_list read (many test (behind separator read)) h (many_reads Behind goes test (behind separator read) behind_loops) each_stops)
      (λ p symbols d. d) list_of

  -- ---- the same, or no thing

  module _ (leads : S → Bool) (leading : (x : X) (used rest : List S) → D x used → begins leads (used ++ rest) ≡ true) where
    abbrev pub on_maybe_list : S → Bool
    on_maybe_list s = leads s || on_list s

    abbrev IsEmpty : List X → List S → Type 0
    IsEmpty xs symbols = (xs ≡ []) × Nothing symbols

    filled : (xs : List X) (symbols : List S) → Listed P D xs symbols → MaybeListed P D xs symbols
    filled [] symbols d = absurd d
    filled (x ∷ xs) symbols d = d

    empty : (xs : List X) (symbols : List S) → IsEmpty xs symbols → MaybeListed P D xs symbols
    empty xs symbols d = rw d.0 d.1

    list_cases : (xs : List X) (symbols : List S) → MaybeListed P D xs symbols → Listed P D xs symbols ⊎ IsEmpty xs symbols
    list_cases [] symbols d = inr (refl, d)
    list_cases (x ∷ xs) symbols d = inl d

    list_leads : (xs : List X) (used rest : List S) → Listed P D xs used → begins leads (used ++ rest) ≡ true
    list_leads [] used rest d = absurd d
    list_leads (x ∷ xs) used rest d = rw (d.2, append_assoc d.0 d.1 rest) (leading x d.0 (d.1 ++ rest) d.3)

    empty_reads : Reads IsEmpty on_maybe_list (made (λ _. []) nothing)
    empty_reads =
        made_reads (λ (_ : Unit {0}). Nothing) IsEmpty on_maybe_list (λ _. []) nothing (sure_reads (λ (_ : Unit {0}). Nothing) on_maybe_list nothing nothing_reads)
        (λ x symbols d. (refl, d)) (λ xs symbols d. (tt, sym d.0, d.1))

    pub maybe_listed_reads : Reads (MaybeListed P D) on_maybe_list (maybe_listed leads test separator read)
    maybe_listed_reads =
        either_reads (Listed P D) IsEmpty (MaybeListed P D) on_maybe_list leads (listed test separator read) (made (λ _. []) nothing)
        (weaker_reads (Listed P D) on_list on_maybe_list (listed test separator read) (λ symbols stops. (stops_either leads on_list symbols stops).1) listed_reads) empty_reads filled empty
        list_leads
        (λ xs used rest d stops. rw d.1 (stops_either leads on_list rest stops).0)
        list_cases
