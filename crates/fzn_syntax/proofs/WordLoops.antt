-- What a loop keeps that gives a machine one word after the other.
use Rattle.std.proofs.Common.{◌≡◌, ℕ, List, [], ◌∷◌, ◌++◌, Option, Some, subst}
use Rattle.fzn_lex.specs.declared.tokens.Token.{Token}
use Rattle.reading.specs.Readers.{Answer}
use Rattle.reading.specs.Machine.{run}
use Rattle.reading.proofs.Loops.{with_front}
use Rattle.reading.proofs.Machines.{run_goes_on}
use Rattle.fzn_words.specs.declared.terminal.Terminal.{Terminal}
use Rattle.fzn_words.specs.declared.word.Word.{Word}
use Rattle.fzn_syntax.specs.declared.turn.Moved.{Moved}
use Rattle.fzn_syntax.specs.declared.turn.Moved.TheVariants as moves
use Rattle.fzn_words.specs.Words.{code, terminal, word_of, words}
use Rattle.fzn_syntax.specs.Moves.{IsMoved}

module _ {Q : Type 0} (by : Q → ℕ → Option (Option Q)) where
  abbrev by_word : Q → Word → Option (Option Q)
  by_word q w = by q (code (terminal w))

  pub word_goes_on : (bytes : List ℕ) (rest : List Token) (token : Token) (after : List Token) (front : List Word) (q r : Q) (k : Terminal) (m : Moved) (word : Word) (total : Answer Word (List Word))
      → rest ≡ token ∷ after → k ≡ terminal (word_of bytes token) → m ≡ moves.On → IsMoved m (by q (code k)) r → word ≡ word_of bytes token
      → with_front front (run by_word q (words bytes rest)) ≡ total → with_front (front ++ word ∷ []) (run by_word r (words bytes after)) ≡ total
  word_goes_on bytes rest token after front q r k m word total parts terminal_is moved_on moved is so_far =
      let stepped : by q (code k) ≡ Some (Some r) = subst (λ (x : Moved). IsMoved x (by q (code k)) r) moved_on moved in
      let by_it : by_word q (word_of bytes token) ≡ Some (Some r) = subst (λ (x : Terminal). by q (code x) ≡ Some (Some r)) terminal_is stepped in
      let so : with_front front (run by_word q (word_of bytes token ∷ words bytes after)) ≡ total = subst (λ (l : List Token). with_front front (run by_word q (words bytes l)) ≡ total) parts so_far in
      rw is (run_goes_on by_word front q (word_of bytes token) (words bytes after) r total by_it so)
