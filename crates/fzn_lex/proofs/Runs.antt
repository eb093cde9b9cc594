-- The longest run of bytes that pass a test.
use Rattle.std.proofs.Common.{◌≡◌, ℕ, suc, ◌+◌, ◌≤◌, ◌<◌, Bool, true, false, List, [], ◌∷◌, ◌++◌, length, take, get_or, refl, arith, inl, inr}
use Rattle.std.specs.List.{prefix_len}
use Rattle.std.proofs.lemmas.Bool.{cases_Bool}
use Rattle.fzn_lex.specs.Classes.{Are}

pub one_more : (n : ℕ) → 1 + n ≡ suc n
one_more n = omega arith

-- the run passes
pub run_is : (test : ℕ → Bool) (bs : List ℕ) → Are test (take (prefix_len test bs) bs)
run_is test [] = tt
run_is test (b ∷ bs) =
    elim (cases_Bool (test b)) [
      | inl pass ↦ rw (pass, one_more (prefix_len test bs)) (pass, run_is test bs)
      | inr fail ↦ rw fail tt
    ]

-- no passing front is longer
pub run_longest : (test : ℕ → Bool) (t r : List ℕ) → Are test t → length t ≤ prefix_len test (t ++ r)
run_longest test [] r h = omega arith
run_longest test (b ∷ bs) r h = rw h.0 (let k : length bs ≤ prefix_len test (bs ++ r) = run_longest test bs r h.1 in omega arith)

-- bytes that pass, before one that does not, are the whole run
pub run_exact : (test : ℕ → Bool) (t r : List ℕ) → Are test t → test (get_or r 0 0) ≡ false → prefix_len test (t ++ r) ≡ length t
run_exact test [] [] h stop = refl
run_exact test [] (c ∷ r) h stop = rw stop refl
run_exact test (b ∷ bs) r h stop = rw h.0 (rw (run_exact test bs r h.1 stop) (one_more (length bs)))

-- a run has a byte if the first passes
pub run_some : (test : ℕ → Bool) (b : ℕ) (bs : List ℕ) → test b ≡ true → 0 < prefix_len test (b ∷ bs)
run_some test b bs pass = rw pass (omega arith)
