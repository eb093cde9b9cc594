-- What stands in parentheses and is kept as its words.
use Rattle.std.proofs.Common.{◌≡◌, Bool, true, false, cond, List, [], ◌∷◌, ◌++◌, Some, None, refl, sym, ap, ◌∙◌}
use Rattle.std.proofs.lemmas.Option.{cond_some}
use Rattle.std.proofs.lemmas.List.{append-nil}
use Rattle.reading.specs.Language.{◌⨾◌, One}
use Rattle.reading.specs.Readers.{Answer, none, pair, made}
use Rattle.reading.proofs.Laws.{Reads, one_reads}
use Rattle.reading.proofs.Joins.{Both, then_reads, made_reads}
use Rattle.reading.proofs.Machines.{Flat}
use Rattle.fzn_words.specs.declared.terminal.Terminal.TheVariants as terminals
use Rattle.fzn_words.specs.declared.word.Word.{Word}
use Rattle.fzn_words.specs.Words.{is}
use Rattle.fzn_syntax.specs.Grammar.{Sign}
use Rattle.fzn_syntax.specs.Turns.{itself, paren_at}
use Rattle.fzn_syntax.proofs.Firsts.{is_example}

paren_reads : Reads (One itself) none paren_at
unfolding paren_at
paren_reads = let e = is_example terminals.LeftParen in one_reads itself e.0 e.0 (rw e.1 refl)

test_worth : (b : Bool) (w x : Word) → cond b (Some w) None ≡ Some x → (b ≡ true) × (w ≡ x)
test_worth true w x e = (refl, cc)
test_worth false w x e = absurd cc

-- the word itself is a left parenthesis
paren_is : (x : Word) (ws : List Word) → One itself x ws → Sign terminals.LeftParen ws × (ws ≡ x ∷ [])
paren_is x ws d =
    let t = test_worth (is terminals.LeftParen d.0) d.0 x d.1 in
    ((d.0, rw t.0 refl, d.2), d.2 ∙ ap (λ (w : Word). w ∷ []) t.1)

module _ (I : List Word → Type 0) where
  -- up to the closing parenthesis, with nothing behind it
  abbrev pub Closed : List Word → Type 0
  Closed = I ⨾ Sign terminals.RightParen ⨾ (λ t. t ≡ [])

  -- with the opening one, kept as its words
  abbrev pub Enclosed : List Word → List Word → Type 0
  Enclosed flat ws = (flat ≡ ws) × (Sign terminals.LeftParen ⨾ I ⨾ Sign terminals.RightParen) ws

  enclosed_so : (p : Word × List Word) (ws : List Word) → Both (One itself) (Flat Closed) p ws → Enclosed (p.0 ∷ p.1) ws
  enclosed_so p ws d =
      let o = paren_is p.0 d.0 d.3 in
      let flat : p.0 ∷ p.1 ≡ ws = ap (λ (l : List Word). p.0 ∷ l) d.4.0 ∙ sym (d.2 ∙ ap (λ (l : List Word). l ++ d.1) o.1) in
      let i = d.4.1 in
      let last : i.1 ≡ i.4.0 = i.4.2 ∙ ap (λ (l : List Word). i.4.0 ++ l) i.4.4 ∙ append-nil i.4.0 in
      (flat, (d.0, d.1, d.2, o.0, (i.0, i.4.0, i.2 ∙ ap (λ (l : List Word). i.0 ++ l) last, i.3, i.4.3)))

  enclosed_again : (flat ws : List Word) → Enclosed flat ws → (p : Word × List Word) × (p.0 ∷ p.1 ≡ flat) × Both (One itself) (Flat Closed) p ws
  enclosed_again flat ws (same, d) =
      let w = d.3.0 in
      let is_paren = (cond_some (is terminals.LeftParen w) tt tt d.3.1).0 in
      let c = d.4.1 in
      let parts : ws ≡ w ∷ d.1 = d.2 ∙ ap (λ (l : List Word). l ++ d.1) d.3.2 in
      ((w, d.1), sym parts ∙ sym same, (w ∷ [], d.1, parts, (w, rw is_paren refl, refl), (refl, (d.4.0, c, d.4.2, d.4.3, (c, [], sym (append-nil c), d.4.4, refl)))))

  pub enclosed_reads : (inside : List Word → Answer Word (List Word)) → Reads (Flat Closed) none inside → Reads Enclosed none (made (λ p. p.0 ∷ p.1) (pair paren_at inside))
  enclosed_reads inside h =
      made_reads (Both (One itself) (Flat Closed)) Enclosed none (λ p. p.0 ∷ p.1) (pair paren_at inside)
      (then_reads (One itself) (Flat Closed) none paren_at inside paren_reads h) enclosed_so enclosed_again
